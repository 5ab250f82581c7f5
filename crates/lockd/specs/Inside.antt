-- What `lockd serve` is given for what a command line asks. No contract of a public function cites these definitions.
use Rattle.std.specs.Prelude.{◌≡◌, ⊤}
use Rattle.lockd_cli.specs.declared.options.Trace.{Trace}
use Rattle.lockd_cli.specs.declared.options.Trace.TheVariants as asked
use Rattle.lockd_cli.specs.declared.options.WhenFull.TheVariants as full
use Rattle.lockd_serve.specs.declared.options.TraceTo.{TraceTo}
use Rattle.lockd_serve.specs.declared.options.TraceTo.TheVariants as to

-- the trace goes where this was asked: to the output, nowhere, or to a file that was made for it
abbrev pub GoesWhere : {T : Type 0} → Trace → TraceTo T → Type 0
GoesWhere asked.Printed trace = trace ≡ to.Output
GoesWhere asked.Nowhere trace = trace ≡ to.Nowhere
GoesWhere (asked.File path full) trace = (file : _) × (trace ≡ to.Writer file)

-- this asks for a trace in a file
abbrev pub AsksFile : Trace → Type 0
AsksFile (asked.File path full) = ⊤
AsksFile trace = ⊥

-- this asks that orders are refused while the trace's file can't be written
abbrev pub AsksRefusal : Trace → Type 0
AsksRefusal (asked.File path full.Refuse) = ⊤
AsksRefusal trace = ⊥
