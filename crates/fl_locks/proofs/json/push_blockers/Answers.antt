use Rattle.std.proofs.Common.{◌++◌, map, string_bytes, sym, ap, ◌∙◌}
use Rattle.std.specs.List.{join_with_byte}
use Rattle.fl_locks.specs.Json.{blocker_json}
use Rattle.fl_locks.proofs.Joins.{written}
use Rattle.fl_locks.proofs.json.push_blockers.Goals as goal

pub returns : goal.returns
returns c =
    written blocker_json c.in-Some.first.now c.in-Some.others.now c.loop-blocker.blocker-index _ _ _ c.in_ok-push_blocker.ensures
    c.loop-blocker.invariant c.loop-blocker-test.false
    ∙ ap (λ blockers. string_bytes c.args.text.now ++ join_with_byte 44 (map blocker_json blockers)) (sym c.in-Some.ensures.cases.0)
