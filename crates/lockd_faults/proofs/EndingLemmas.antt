-- A server that ends once more, since its trace's file is gone: what is told then.
use Rattle.std.proofs.Common.{◌≡◌, ◌∙◌, ℕ, true, false, List, [], Option, None, Some, refl, sym, subst}
use Rattle.std.specs.Prelude.{◌≢◌}
use Rattle.std.specs.Io.KnownBytes.{Keeps}
use Rattle.fl_transport.specs.declared.fault.Fault.{Fault as SessionFault}
use Rattle.fl_transport.specs.declared.fault.Fault.TheVariants as session
use Rattle.lockd_faults.specs.Ending.{Ending, Ends, EndsBehind}
use Rattle.lockd_faults.specs.Faults.{AreBothTold, IsBegun, IsTold}
use Rattle.lockd_faults.specs.declared.fault.CommandFault.{CommandFault}
use Rattle.lockd_faults.specs.declared.fault.CommandFault.TheVariants as command
use Rattle.lockd_faults.specs.declared.status.Status.{Status}
use Rattle.lockd_faults.specs.declared.status.Status.TheVariants.{Faulted, Good}

-- what is told is told behind what stays as it is
kept_before : (bytes : List ℕ) (old between new : Option (List ℕ)) → Keeps old between → IsBegun bytes between new
    → IsBegun bytes old new
kept_before bytes None between new kept told = record { part = []; rest = bytes; parts = refl; written = tt }
kept_before bytes (Some xs) None new kept told = absurd kept
kept_before bytes (Some xs) (Some ys) new kept told = subst (λ l. IsBegun bytes (Some l) new) kept told

-- what was told stays as it is
kept_behind : (bytes : List ℕ) (old between new : Option (List ℕ)) → IsBegun bytes old between → Keeps between new
    → IsBegun bytes old new
kept_behind bytes None between new told kept = record { part = []; rest = bytes; parts = refl; written = tt }
kept_behind bytes (Some xs) None new told kept = absurd told.written
kept_behind bytes (Some xs) (Some ys) None told kept = absurd kept
kept_behind bytes (Some xs) (Some ys) (Some zs) told kept =
    subst (λ l. IsBegun bytes (Some xs) (Some l)) (sym kept) told

-- A server ended with this status, and what was told of it stands between. Then it is told that the trace failed, if
-- that wasn't told.
module _ (status result : Status) (told between now : Option (List ℕ))
    (good : status ≡ Good → result ≡ Faulted command.TraceFailed) (bad : status ≢ Good → result ≡ status)
    (tells : status ≢ Faulted command.TraceFailed → IsTold command.TraceFailed between now)
    (keeps : status ≡ Faulted command.TraceFailed → Keeps between now) where
  abbrev before : Ending
  before = record { status = status; told = told; told_now = between }

  abbrev behind : Ending
  behind = record { status = result; told = told; told_now = now }

  -- another fault was told before
  also : (fault : CommandFault) → Faulted fault ≢ Faulted command.TraceFailed → Faulted fault ≢ Good
      → Ends (Some fault) before → (result ≡ Faulted fault) × AreBothTold fault command.TraceFailed told now
  also fault other faulted ends = (
    bad (subst (λ s. s ≢ Good) (sym ends.0) faulted) ∙ ends.0,
    record {
      between = between;
      before = ends.1;
      behind = tells (subst (λ s. s ≢ Faulted command.TraceFailed) (sym ends.0) other);
    },
  )

  pub gone : (fault : Option SessionFault) → EndsBehind fault true before → EndsBehind fault false behind
  gone None ends = (
    good ends.0,
    kept_before _ told between now ends.1
        (tells (subst (λ s. s ≢ Faulted command.TraceFailed) (sym ends.0) (λ e. cc))),
  )
  gone (Some session.Cut) ends = also command.Cut (λ e. cc) (λ e. cc) ends
  gone (Some (session.BadLength n)) ends = also (command.BadLength n) (λ e. cc) (λ e. cc) ends
  gone (Some session.Read) ends = also command.Read (λ e. cc) (λ e. cc) ends
  gone (Some session.Write) ends = also command.Write (λ e. cc) (λ e. cc) ends
  gone (Some session.NoMemory) ends = also command.NoMemory (λ e. cc) (λ e. cc) ends
  gone (Some session.NoReader) ends = also command.NoReader (λ e. cc) (λ e. cc) ends
  gone (Some session.Unstored) ends =
      (bad (subst (λ s. s ≢ Good) (sym ends.0) (λ e. cc)) ∙ ends.0, kept_behind _ told between now ends.1 (keeps ends.0))
