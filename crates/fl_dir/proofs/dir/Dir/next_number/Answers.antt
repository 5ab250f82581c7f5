use Rattle.std.proofs.Common.{◌≡◌, ◌≤◌, not, is_some, false, true, ap, sym, ◌∙◌, arith}
use Rattle.fl_dir.specs.Naming.{is_linked_at}
use Rattle.fl_dir.proofs.Next.{first_there, not_given, given_below, next_near}
use Rattle.fl_dir.proofs.dir.Dir.next_number.Goals as goal
use Rattle.fl_dir.proofs.dir.Dir.next_number.Goals.{else-is_none-via-then-is_none+else-end-next, else-is_none-via-else-is_none}

pub returns-then-end-next-clause-below : goal.returns-then-end-next-clause-below
returns-then-end-next-clause-below c =
    let own = c.self.inside in
    let top : own.nodes.next ≤ 18446744073709551615 = omega (arith, c.next-next.ensures) in
    given_below own.nodes own.files c.args.self.now c.arena-chains.result.0.now c.args.from c.next_on_chains.result c.self.view_is c.arena-chains.ensures.home top
    (first_there (is_linked_at c.args.self.now) c.args.from c.next_on_chains.result c.next_on_chains.ensures)

pub returns-clause-next : goal.returns-clause-next
returns-clause-next c =
    let own = c.self.inside in
    let near = c.next_before-near in
    let stop = c.min-end.result in
    next_near (is_linked_at c.args.self.now) c.args.from stop near.result near.ensures.first near.ensures.none
    (λ none q h.
    elim c.else-is_none.branch as (λ _. is_linked_at c.args.self.now q ≡ false) [
      | else-is_none-via-then-is_none+else-end-next w ↦
          let past : own.nodes.next ≤ q = omega (arith, c.next-next.ensures, w.if-end-next.false, h) in
          not_given own.nodes own.files c.args.self.now c.arena-chains.result.0.now c.self.view_is c.arena-chains.ensures.home q past
      | else-is_none-via-else-is_none w ↦
          let clash : false ≡ true = sym (ap is_some none) ∙ c.is_none.ensures ∙ ap not w.if-is_none.false in absurd (cc clash)
    ])

pub returns-clause-below : goal.returns-clause-below
returns-clause-below c =
    let own = c.self.inside in
    let top : own.nodes.next ≤ 18446744073709551615 = omega (arith, c.next-next.ensures) in
    given_below own.nodes own.files c.args.self.now c.arena-chains.result.0.now c.args.from c.next_before-near.result c.self.view_is c.arena-chains.ensures.home top
    c.next_before-near.ensures.first
