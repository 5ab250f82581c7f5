use Rattle.std.proofs.Common.{◌≡◌, ◌++◌, map, take}
use Rattle.std.specs.String.{string_bytes}
use Rattle.lockd_cli.proofs.options.push_all.Given as goal

-- the first texts stand behind the others
abbrev pub invariant-loop-text : goal.invariant-loop-text
invariant-loop-text l =
    map string_bytes l.texts.items ≡ map string_bytes l.initial.texts.items ++ map (λ s. s.now) (take l.text-index l.said)
