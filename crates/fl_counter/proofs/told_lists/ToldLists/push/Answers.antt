use Rattle.std.proofs.Common.{rules, ◌≡◌, ◌++◌, ◌∷◌, [], length, refl}
use Rattle.fl_counter.proofs.Batches.{lists_more}
use Rattle.fl_counter.specs.declared.told_lists.Span.{Span}
use Rattle.fl_counter.proofs.told_lists.ToldLists.push.Goals as goal

pub returns-clause-lists : goal.returns-clause-lists
returns-clause-lists c =
    let last : Span = record { start = length c.self.inside.tolds.items; len = length c.args.list.now } in
    let spans : c.push_reserved.new.self.items ≡ c.self.inside.spans.items ++ last ∷ [] = search rules in
    rw (spans, c.copy_to.ensures.items, ← c.self.view_is)
    (lists_more c.self.inside.tolds.items c.args.list.now c.self.inside.spans.items last refl refl c.self.invariant)
