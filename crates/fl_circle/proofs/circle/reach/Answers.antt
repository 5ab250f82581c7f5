use Rattle.std.proofs.Common.{◌∙◌, ◌||◌, slice_index_or, ap}
use Rattle.std.specs.List.{list_any}
use Rattle.fl_circle.specs.Inside.Searching.{precedes_by}
use Rattle.fl_circle.proofs.Among.{in_parts, no_flock, older_by}
use Rattle.fl_circle.proofs.circle.reach.Goals as goal

pub returns-then-rules : goal.returns-then-rules
returns-then-rules g c i h =
    let request = c.args.request.now in
    let wanted = c.args.wanted.now in
    let owner = slice_index_or c.args.owners.now i 0 in
    c.reach_older.ensures i h
    ∙ ap (λ b. b || list_any (precedes_by request owner) wanted) (c.find_conflicting_owners.ensures i h)
    ∙ in_parts _ _ _ _ c.args.rules.fair _ (no_flock request.key.class c.in_default.not-Flock) c.if-rules.true (older_by wanted request owner)
