-- What one worker recorded, and what several did, as what was served.
use Rattle.std.proofs.Common.{◌≡◌, ◌≢◌, ℕ, ◌<◌, ◌∙◌, Bool, List, [], Option, None, Some, ap, arith, inl, inr, refl, sym, subst}
use Rattle.std.proofs.Common.{true≢false, ⊎_elim}
use Rattle.std.proofs.KnownBytes.{Appends-nil, Appends-kept}
use Rattle.std.specs.Io.KnownBytes.{Keeps}
use Rattle.std.specs.Prelude.{◌⊎◌, IfSome, IsSome}
use Rattle.fl_desk.specs.Legal.{IsLegal, IsLegalFromNothing, nothing}
use Rattle.fl_history.specs.declared.history.Line.{Line}
use Rattle.fl_serve.specs.Serve.{IsRecordedBy}
use Rattle.fl_session.specs.Recorded.{done_of, journal_lines}
use Rattle.fl_session.specs.Served.{IsServed, IsServedAhead}
use Rattle.fl_session.specs.declared.done.Done.{Done}
use Rattle.fl_session.specs.declared.recorded.Recorded.{Recorded}
use Rattle.fl_transport.specs.Ending.{EndsBy}
use Rattle.fl_transport.specs.Streams.{Streams}
use Rattle.fl_transport.specs.declared.fault.Fault.TheVariants.{NoMemory, Unstored}
use Rattle.fl_waiting.specs.declared.rules.Rules.{Rules}
use Rattle.lockd_resume.specs.Ending.{has_history}
use Rattle.lockd_serve.specs.Served.{HasServed}

-- the lines of a journal are legal, and no lines if there is none
legal_lines : {K : Type 0} (rules : Rules) (lines : K → List Line) (journal : Option K)
    → IfSome journal (λ k. IsLegal rules (lines k)) → IsLegal rules (journal_lines lines journal)
legal_lines rules lines None legal = nothing
legal_lines rules lines (Some journal) legal = legal

-- if they began with nothing, so did these
begun_lines : {K : Type 0} (rules : Rules) (lines : K → List Line) (journal : Option K)
    → IfSome journal (λ k. IsLegalFromNothing rules (lines k)) → IsLegalFromNothing rules (journal_lines lines journal)
begun_lines rules lines None legal = (nothing, refl)
begun_lines rules lines (Some journal) legal = legal

-- if nothing was written, no line had to be stored
ahead_of_nothing : (rules : Rules) (streams : Streams) (broken : Bool) (done : Done) → Keeps streams.held streams.held_now
    → IsServed rules streams broken done → IsServedAhead rules streams broken done []
ahead_of_nothing rules streams broken done kept served = record {
  served = served;
  ahead = record {
    front = [];
    back = served.came;
    sent = [];
    owed = [];
    is = refl;
    written = Appends-kept streams.held streams.held streams.held_now [] (Appends-nil streams.held) kept;
    parts = refl;
    covered = inl refl;
  };
}

-- what was served ahead of the lines that a journal stored, which is there unless there was no memory
ahead_of : {K : Type 0} (stored : K → List Line) (rules : Rules) (streams : Streams) (broken : Bool) (done : Done)
    (journal : Option K) → IsSome journal ⊎ Keeps streams.held streams.held_now → IsServed rules streams broken done
    → IfSome journal (λ k. IsServedAhead rules streams broken done (stored k))
    → IsServedAhead rules streams broken done (journal_lines stored journal)
ahead_of stored rules streams broken done None (inl some) served ahead = absurd (cc some)
ahead_of stored rules streams broken done None (inr kept) served ahead =
    ahead_of_nothing rules streams broken done kept served
ahead_of stored rules streams broken done (Some journal) back served ahead = ahead

-- what one worker recorded was served
pub alone : {K : Type 0} (lines stored : K → List Line) (workers : ℕ) (rules : Rules) (streams : Streams) (broken : Bool)
    (it : Recorded K) → workers ≡ 1 → IfSome it.journal (λ k. IsLegal rules (lines k))
    → IsServed rules streams broken (done_of lines it)
    → IfSome it.journal (λ k. IsServedAhead rules streams broken (done_of lines it) (stored k))
    → IsSome it.journal ⊎ (it.fault ≡ Some NoMemory)
    → (it.fault ≡ Some NoMemory → Keeps streams.held streams.held_now)
    → HasServed workers rules streams (journal_lines stored it.journal) (done_of lines it)
alone lines stored workers rules streams broken it one legal served ahead back unwritten = record {
  legal = legal_lines rules lines it.journal legal;
  alone = λ _. (
    broken,
    ahead_of stored rules streams broken (done_of lines it) it.journal (⊎_elim inl (λ none. inr (unwritten none)) back)
        served ahead,
  );
  several = λ more. absurd (omega (arith, one, more));
  from_nothing = λ more. absurd (omega (arith, one, more));
}

-- what several workers recorded was served
pub several : {K : Type 0} (lines stored : K → List Line) (workers : ℕ) (rules : Rules) (streams : Streams)
    (it : Recorded K)
    → 1 < workers → IsRecordedBy lines stored workers rules streams it
    → HasServed workers rules streams (journal_lines stored it.journal) (done_of lines it)
several lines stored workers rules streams it more is = record {
  legal = (begun_lines rules lines it.journal is.legal).0;
  alone = λ one. absurd (omega (arith, one, more));
  several = λ _. is.served;
  from_nothing = λ _. begun_lines rules lines it.journal is.legal;
}

-- several workers never end since lines couldn't be stored
pub never_unstored : {K : Type 0} (lines stored : K → List Line) (workers : ℕ) (rules : Rules) (streams : Streams)
    (it : Recorded K) → IsRecordedBy lines stored workers rules streams it → it.fault ≢ Some Unstored
never_unstored lines stored workers rules streams it is lost =
    ⊎_elim
    (subst (λ fault. EndsBy fault is.served.broken is.served.messages is.served.rest streams.left_now) lost)
    (λ none. absurd (true≢false (ap has_history (sym lost ∙ none)))) is.served.ending
