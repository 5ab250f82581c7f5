-- What a message of a session is answered (Linux `fuse.h`, protocol 7.31).
use Rattle.std.specs.Prelude.{ℕ, List, [], ◌∷◌, map, Ok, Err, if◌then◌else◌}
use Rattle.fl_order.specs.OpKind.{is_silent}
use Rattle.fl_order.specs.declared.errno.Errno.{Errno}
use Rattle.fl_order.specs.declared.errno.Errno.TheVariants.{EAGAIN, ENOMEM, ENOSYS}
use Rattle.fl_order.specs.declared.kind.OpKind.{OpKind}
use Rattle.fl_order.specs.declared.kind.OpKind.TheVariants.{Interrupt}
use Rattle.fl_order.specs.declared.told.Answer.TheVariants.{Done}
use Rattle.fl_order.specs.declared.told.Told.{Told}
use Rattle.fl_transport.specs.declared.response.Response.{Response}
use Rattle.fl_transport.specs.declared.response.Response.TheVariants.{Nothing, Init, One, Replies, Whole}
use Rattle.fl_wire.specs.Init.{init_spelling}
use Rattle.fl_wire.specs.Layout.{unique_of}
use Rattle.fl_wire.specs.Spell.{spelling_of}

-- the reply to a message of this unique that a session doesn't serve
abbrev pub unserved : ℕ → Told
unserved unique = record { unique = unique; result = Err ENOSYS }

-- the bytes of each reply; what whole sessions alone serve is ENOSYS
abbrev pub bytes_of : Response → List (List ℕ)
bytes_of Nothing = []
bytes_of (Init unique step) = init_spelling unique step ∷ []
bytes_of (One told) = spelling_of told ∷ []
bytes_of (Replies tolds) = map spelling_of tolds.now
bytes_of (Whole unique ask) = spelling_of (unserved unique) ∷ []

-- a reply that is an error
abbrev pub error_to : ℕ → Errno → Response
error_to unique e = One (record { unique = unique; result = Err e })

-- a reply that is an error, or nothing if no reply is owed to a message of this kind
abbrev pub refusal_of : OpKind → ℕ → Errno → Response
refusal_of kind unique e = if is_silent kind then Nothing else error_to unique e

-- the error of an order for which memory ran out: an INTERRUPT may come again
abbrev pub without_memory : OpKind → Errno
without_memory Interrupt = EAGAIN
without_memory _ = ENOMEM

-- the answer to an order of this kind for which memory ran out
abbrev pub lost : OpKind → ℕ → Response
lost kind unique = refusal_of kind unique (without_memory kind)

-- what a DESTROY is answered
abbrev pub goodbye_to : List ℕ → Response
goodbye_to message = One (record { unique = unique_of message; result = Ok Done })
