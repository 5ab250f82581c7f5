use Rattle.std.proofs.Common.{◌∙◌, ◌||◌, false, sym, ap}
use Rattle.std.specs.List.{list_any}
use Rattle.fl_circle.specs.Inside.Searching.{precedes_by}
use Rattle.fl_circle.proofs.Among.{in_parts, no_flock, older_by}
use Rattle.fl_circle.proofs.circle.waits_for.Goals as goal

pub returns-then-rules : goal.returns-then-rules
returns-then-rules g c =
    let request = c.args.request.now in
    let wanted = c.args.wanted.now in
    let older = list_any (precedes_by request c.args.owner) wanted in
    c.is_blocked_by_older.ensures ∙ ap (λ b. b || older) (sym c.if-is_held_by.false ∙ c.is_held_by.ensures)
    ∙ in_parts false _ older _ c.args.rules.fair _ (no_flock request.key.class c.in_default.not-Flock) c.if-rules.true (older_by wanted request c.args.owner)
