use Rattle.std.proofs.Common.{rules, ◌∙◌, ℕ, nat_le, ◌&&◌, option_map, ap, sym, subst}
use Rattle.std.specs.Option.{option_copied}
use Rattle.fl_dir.specs.Inside.Next.{IsNext, linked_on}
use Rattle.fl_dir.specs.declared.nodes.Slot.{Slot}
use Rattle.fl_dir.proofs.Next.{next_at}
use Rattle.fl_dir.proofs.listing.next_on.Goals as goal

pub returns-in-None : goal.returns-in-None
returns-in-None c =
    let found = c.item.ensures.item ∙ c.first_where-at.ensures.found (λ (e : ℕ × Slot). nat_le c.args.from e.0 && e.1.node.linked) (λ a r k. search rules) in
    subst (IsNext (linked_on c.args.nodes.now c.args.chain) c.args.from)
    (ap (option_map (λ (e : ℕ × Slot). e.0)) (sym found ∙ ap option_copied c.in-None.is))
    (next_at c.args.nodes.now c.args.chain c.args.from (c.requires.sorted c.args.chain))

pub returns-in-Some : goal.returns-in-Some
returns-in-Some c =
    let found = c.item.ensures.item ∙ c.first_where-at.ensures.found (λ (e : ℕ × Slot). nat_le c.args.from e.0 && e.1.node.linked) (λ a r k. search rules) in
    subst (IsNext (linked_on c.args.nodes.now c.args.chain) c.args.from)
    (ap (option_map (λ (e : ℕ × Slot). e.0)) (sym found ∙ ap option_copied c.in-Some.is))
    (next_at c.args.nodes.now c.args.chain c.args.from (c.requires.sorted c.args.chain))
