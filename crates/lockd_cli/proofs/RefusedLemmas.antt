-- A refusal that is passed on.
use Rattle.std.proofs.Common.{◌≡◌, Result, Ok, Err, IfErr, sym, ◌∙◌}
use Rattle.std.specs.Prelude.{IsErrAnd}
use Rattle.lockd_cli.specs.declared.usage_error.UsageError.{UsageError}

pub passed_on : {A : Type 0} (r : Result A UsageError) (was which : UsageError) (Why : Type 0)
    → IsErrAnd r (λ error. error ≡ was) → (was ≡ which → Why) → IfErr r (λ error. error ≡ which → Why)
passed_on (Ok it) was which Why is why = tt
passed_on (Err error) was which Why is why = λ it. why (sym is ∙ it)
