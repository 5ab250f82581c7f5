use Rattle.std.proofs.Common.{◌≡◌, ◌<◌, ◌+◌, ◌∙◌, inl, ap, sym, subst, List, ℕ, length, arith, Ok}
use Rattle.std.proofs.lemmas.Grind.{common_steps}
use Rattle.fl_trace.specs.Text.{LineFits, BreaksAt}
use Rattle.fl_stream.proofs.Reading.{read_more, read_whole, breaks}
use Rattle.fl_stream.proofs.text.read_trace.Goals as goal

pub returns-in_default-clause-only : goal.returns-in_default-clause-only
returns-in_default-clause-only c = λ lines fits e.
    let more : 0 < length c.loop-rest.rest.now = grind (arith, common_steps) in
    let number : c.len.result + 1 ≡ length c.loop-rest.history + 1 = grind (arith, common_steps) in
    let broken = breaks c.args.text.now c.loop-rest.rest.now c.loop-rest.history
    (c.len.result + 1) c.loop-rest.invariant more number c.in_default.ensures.only in
    absurd (c.a_text_breaks_at_one_line_at_most.ensures.never lines (c.len.result + 1) fits (subst (λ (text : List ℕ). BreaksAt LineFits text (c.len.result + 1)) e broken))

pub loop-rest-preserved : goal.loop-rest-preserved
loop-rest-preserved c =
    rw c.in_ok-push.ensures.pushed
    (read_more c.args.text.now c.loop-rest.rest.now c.in-Some.after.now c.loop-rest.history c.in-Some.line c.loop-rest.invariant c.in-Some.ensures.spelled
    c.in-Some.ensures.fits)

pub returns-clause-only : goal.returns-clause-only
returns-clause-only c = λ lines fits e.
    let none : length c.loop-rest.rest.now ≡ 0 = grind (arith, common_steps) in
    let whole = read_whole c.args.text.now c.loop-rest.rest.now c.loop-rest.history c.loop-rest.invariant none in
    inl (ap Ok (c.no_text_is_that_of_two_histories.ensures c.loop-rest.history lines c.loop-rest.invariant.fits fits (sym whole ∙ e)))
