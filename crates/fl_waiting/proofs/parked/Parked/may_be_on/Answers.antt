use Rattle.std.proofs.Common.{◌≡◌, ◌∙◌, ℕ, ◌==◌, not, false, sym, subst, arith}
use Rattle.std.proofs.lemmas.Bool.Decides.{nat_tests}
use Rattle.std.specs.List.{AllByRecursion}
use Rattle.fl_waiting.specs.Inside.Claims.{requests_of}
use Rattle.fl_waiting.specs.declared.parked.Request.{Request}
use Rattle.fl_waiting.proofs.Counts.{none_on}
use Rattle.fl_waiting.proofs.parked.Parked.may_be_on.Goals as goal

none : (n : ℕ) → not (n == 0) ≡ false → n ≡ 0
none n e = grind (arith, nat_tests)

pub returns : goal.returns
returns c = λ e.
    subst (AllByRecursion (λ (r : Request). (r.node == c.args.node) ≡ false)) c.self.view_is
    (none_on c.args.node c.bucket.result (requests_of c.self.inside.claims) c.bucket.ensures.is
    (sym (c.self.invariant.3 c.bucket.result c.bucket.ensures.below) ∙ none _ e))
