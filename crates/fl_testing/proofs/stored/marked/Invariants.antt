use Rattle.std.proofs.Common.{◌≡◌, string_bytes}
use Rattle.std.specs.List.{flat_map}
use Rattle.fl_testing.specs.Inside.Stored.{behind}
use Rattle.fl_testing.proofs.stored.marked.Given as goal

-- what is found so far is of the lines so far
abbrev pub invariant-loop-line : goal.invariant-loop-line
invariant-loop-line l = string_bytes l.found ≡ flat_map (λ line. behind l.mark line.now) l.yielded
