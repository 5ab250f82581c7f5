use Rattle.std.proofs.Common.{◌≡◌, ◌≤◌, ◌∙◌, ℕ, true, Some, ap, sym, subst, rules}
use Rattle.std.proofs.lemmas.Option.{none-some}
use Rattle.fl_spans.specs.Row.{spans_at}
use Rattle.fl_ranges.proofs.Covering.{covered, covering}
use Rattle.fl_ranges.proofs.holding.all_in_row.Goals as goal

pub returns-in-Some : goal.returns-in-Some
returns-in-Some c =
    let range = c.args.range.now in
    let xs = spans_at c.args.table.now c.args.row.now in
    let found = c.find.ensures (λ _. true) (λ a r k. search rules) in
    let is = sym found ∙ c.in-Some.is in
    let span = c.in-Some.span in (
      λ yes.
          let has = c.has_all.ensures.0 yes in
          λ byte from upto. covered range.start range.end range.ordered xs span is has.0 has.1 byte from upto ∙ ap Some has.2,
      λ all.
          let one = covering range.start range.end range.ordered xs c.args.mark c.requires.spans all in
          let same : one.span ≡ span = cc (one.found, is) in
          c.has_all.ensures.1
          (subst (λ s. (s.start ≤ range.start) × (range.end ≤ s.end) × (s.mark ≡ c.args.mark)) same (one.from, one.upto, one.mark_is)),
    )

pub returns-in-None : goal.returns-in-None
returns-in-None c =
    let range = c.args.range.now in
    let xs = spans_at c.args.table.now c.args.row.now in
    let none = sym (c.find.ensures (λ _. true) (λ a r k. search rules)) ∙ c.in-None.is in (
      λ is. absurd (cc is),
      λ all.
          let one = covering range.start range.end range.ordered xs c.args.mark c.requires.spans all in
          absurd (none-some one.span (sym none ∙ one.found)),
    )
