-- What a writer without which no orders go on has of the stored lines, once a session is over.
use Rattle.std.proofs.Common.{◌≡◌, ℕ, true, false, List, Option, None, Some, refl, subst, sym}
use Rattle.std.proofs.KnownBytes.{Keeps-refl}
use Rattle.std.specs.Prelude.{◌≢◌, IfSome}
use Rattle.fl_history.specs.declared.history.Line.{Line}
use Rattle.fl_session.specs.Recorded.{done_of, journal_lines}
use Rattle.fl_session.specs.declared.recorded.Recorded.{Recorded}
use Rattle.fl_stream.specs.Streams.{HoldsText, Stream}
use Rattle.fl_stream.specs.declared.manner.WhenWriterFails.{WhenWriterFails}
use Rattle.fl_stream.specs.declared.manner.WhenWriterFails.TheVariants.{GoOn, Refuse, End}
use Rattle.fl_transport.specs.Streams.{Streams}
use Rattle.fl_waiting.specs.declared.rules.Rules.{Rules}
use Rattle.lockd_faults.specs.Ending.{Ending, Ends, told_of}
use Rattle.lockd_resume.specs.Ending.{Traces, has_history}
use Rattle.lockd_serve.specs.Ending.{HasStored, IsOver, LeavesTrace}
use Rattle.lockd_serve.specs.Served.{HasServed}
use Rattle.lockd_serve.specs.declared.options.TraceTo.{TraceTo}
use Rattle.lockd_serve.specs.declared.options.TraceTo.TheVariants as to

module _ {T : Type 0} (contents : T → Option (List ℕ)) (when_full : WhenWriterFails) (stored : List Line) where
  -- if orders go on without a writer, it need not have any
  pub goes_on : (back : Option T) → when_full ≡ GoOn → IfSome back (HasStored when_full contents stored)
  goes_on None is = tt
  goes_on (Some writer) is = subst (λ manner. HasStored manner contents stored writer) (sym is) tt

  by_manner : (manner : WhenWriterFails) (writer : T) → manner ≢ GoOn → HoldsText contents (contents writer) stored
      → HasStored manner contents stored writer
  by_manner GoOn writer other there = absurd (other refl)
  by_manner Refuse writer other there = there
  by_manner End writer other there = there

  -- and else it has
  pub holds : (back : Option T) → when_full ≢ GoOn → IfSome back (λ writer. HoldsText contents (contents writer) stored)
      → IfSome back (HasStored when_full contents stored)
  holds None other there = tt
  holds (Some writer) other there = by_manner when_full writer other there

-- the result of a session whose lines went to a stream: all of them, and those that its writer is noted to have
abbrev lines_of : Stream → List Line
lines_of stream = stream.lines

abbrev noted_of : Stream → List Line
noted_of stream = stream.noted

-- a session whose lines went to a writer, and without it no orders went on
pub is_over : {S T : Type 0} (workers by : ℕ) (rules under : Rules) (trace : TraceTo S) (when_full : WhenWriterFails)
    (contents : T → Option (List ℕ)) (streams : Streams) (out : Option (List ℕ)) (it : Ending) (back : Option T)
    (recorded of : Recorded Stream) (blank : S) → trace ≡ to.Writer blank → when_full ≢ GoOn → by ≡ workers → under ≡ rules
    → of ≡ recorded
    → HasServed by under streams (journal_lines noted_of recorded.journal) (done_of lines_of recorded)
    → (has_history of.fault ≡ true → (writer : T) × (back ≡ Some writer) × Traces contents (done_of lines_of of) it writer)
    → (has_history of.fault ≡ false → (back ≡ None) × Ends (told_of of.fault) it)
    → IfSome back (λ writer. HoldsText contents (contents writer) (journal_lines noted_of of.journal))
    → IsOver workers rules trace when_full contents streams out out it back
is_over workers by rules under trace when_full contents streams out it back recorded of blank at ahead by_is under_is of_is served
    traced untraced noted =
    let stored = journal_lines noted_of of.journal in
    let done = done_of lines_of of in
    let here = subst (λ (r : Recorded Stream). HasServed by under streams (journal_lines noted_of r.journal) (done_of lines_of r))
    (sym of_is) served in
    let ours = subst (λ n. HasServed n under streams stored done) by_is here in
    record {
      done = done;
      stored = stored;
      served = subst (λ r. HasServed workers r streams stored done) under_is ours;
      traced = λ some. subst (λ t. LeavesTrace t contents done out out it back) (sym at) (Keeps-refl out, traced some);
      untraced = λ none. ((untraced none).0, Keeps-refl out, (untraced none).1);
      unstored = λ _. (blank, at);
      there = holds contents when_full stored back ahead noted;
    }
