-- What whole sessions alone answer is no order, and any other session refuses it as what it doesn't know.
use Rattle.std.proofs.Common.{◌≡◌, ℕ, ◌+◌, ◌*◌, ◌==◌, ◌||◌, ◌&&◌, Bool, true, false, List, [], ◌∷◌, length, Option, None, Some}
use Rattle.std.proofs.Common.{Result, Ok, Err, refl, sym, ap, ◌∙◌}
use Rattle.std.specs.Prelude.{if◌then◌else◌}
use Rattle.std.proofs.lemmas.Bool.{eqb-true}
use Rattle.fl_dir.specs.Directory.{Listing}
use Rattle.fl_order.specs.OpKind.{kind_of_opcode}
use Rattle.fl_order.specs.declared.errno.Errno.{Errno}
use Rattle.fl_order.specs.declared.errno.Errno.TheVariants.{EFBIG, ENOSYS, EOPNOTSUPP, EPERM}
use Rattle.fl_order.specs.declared.refusal.Refusal.TheVariants.{Answer, Batch}
use Rattle.fl_session.specs.Whole.{bytes_when}
use Rattle.fl_transport.specs.Handshake.{incoming_by, refused, said_to}
use Rattle.fl_transport.specs.Response.{bytes_of, error_to}
use Rattle.fl_transport.specs.declared.handshake.Incoming.TheVariants as incoming
use Rattle.fl_transport.specs.declared.response.Response.{Response}
use Rattle.fl_transport.specs.declared.response.Response.TheVariants.{Nothing, Init, One, Replies, Whole}
use Rattle.fl_waiting.specs.declared.rules.Rules.{Rules}
use Rattle.fl_wire.specs.Batch.{pairs_said}
use Rattle.fl_wire.specs.Layout.{opcode_of, unique_of}
use Rattle.fl_wire.specs.Says.{asked, order_of, said}
use Rattle.fl_wire.specs.Spell.{spelling_of}
use Rattle.fl_wire.specs.Whole.{is_for_whole, list_ask, whole_ask}
use Rattle.fl_wire.specs.declared.whole.WholeAsk.{WholeAsk}
use Rattle.fl_wire.specs.declared.whole.WholeAsk.TheVariants as ask

-- a message of a number that no kind has, and that isn't that of a batch, says no order
unknown : (message : List ℕ) (n : ℕ) → (opcode_of message == n) ≡ true → kind_of_opcode n ≡ None → (n == 42) ≡ false
    → said message ≡ Err (Answer ENOSYS)
unknown message n is none other =
    ap (λ o. if (o == 42) && (length message == 48 + 16 * pairs_said message) then Err Batch
    else order_of message (asked (kind_of_opcode o) message)) (eqb-true (opcode_of message) n is)
    ∙ ap (λ b. if b && (length message == 48 + 16 * pairs_said message) then Err Batch
    else order_of message (asked (kind_of_opcode n) message)) other
    ∙ ap (λ k. order_of message (asked k message)) none

pub no_order : (message : List ℕ) (it : WholeAsk) → whole_ask message ≡ Some it → said message ≡ Err (Answer ENOSYS)
no_order message it e = go (is 6) (is 13) (is 12) (is 45) (is 15) (is 16) (is 17) (is 28) refl refl refl refl refl refl refl refl e
  where
    is : ℕ → Bool
    is n = opcode_of message == n

    go : (a b c d e f g h : Bool) → is 6 ≡ a → is 13 ≡ b → is 12 ≡ c → is 45 ≡ d → is 15 ≡ e → is 16 ≡ f → is 17 ≡ g → is 28 ≡ h
        → (if a || b then Some (ask.Refused EPERM)
        else if c || d then Some (ask.Refused EOPNOTSUPP)
        else if e then Some ask.Read
        else if f then Some (ask.Refused EFBIG)
        else if g then Some ask.Statfs
        else if h then Some (list_ask message)
        else None) ≡ Some it
        → said message ≡ Err (Answer ENOSYS)
    go true b c d e f g h pa pb pc pd pe pf pg ph k = unknown message 6 pa refl refl
    go false true c d e f g h pa pb pc pd pe pf pg ph k = unknown message 13 pb refl refl
    go false false true d e f g h pa pb pc pd pe pf pg ph k = unknown message 12 pc refl refl
    go false false false true e f g h pa pb pc pd pe pf pg ph k = unknown message 45 pd refl refl
    go false false false false true f g h pa pb pc pd pe pf pg ph k = unknown message 15 pe refl refl
    go false false false false false true g h pa pb pc pd pe pf pg ph k = unknown message 16 pf refl refl
    go false false false false false false true h pa pb pc pd pe pf pg ph k = unknown message 17 pg refl refl
    go false false false false false false false true pa pb pc pd pe pf pg ph k = unknown message 28 ph refl refl
    go false false false false false false false false pa pb pc pd pe pf pg ph k = absurd (cc k)

-- ---- orders that whole sessions alone take

-- what a message of this number asks that is no order
abbrev asked_at : List ℕ → ℕ → Option WholeAsk
asked_at message n =
    if (n == 6) || (n == 13) then Some (ask.Refused EPERM)
    else if (n == 12) || (n == 45) then Some (ask.Refused EOPNOTSUPP)
    else if n == 15 then Some ask.Read
    else if n == 16 then Some (ask.Refused EFBIG)
    else if n == 17 then Some ask.Statfs
    else if n == 28 then Some (list_ask message)
    else None

none_asked : (message : List ℕ) → is_for_whole message ≡ true → whole_ask message ≡ None
none_asked message e = go (opcode_of message == 8) (opcode_of message == 9) (opcode_of message == 11) refl refl refl e
  where
    at : (n : ℕ) → (opcode_of message == n) ≡ true → asked_at message n ≡ None → whole_ask message ≡ None
    at n is none = ap (asked_at message) (eqb-true (opcode_of message) n is) ∙ none

    go : (a b c : Bool) → (opcode_of message == 8) ≡ a → (opcode_of message == 9) ≡ b → (opcode_of message == 11) ≡ c
        → (a || (b || c)) ≡ true → whole_ask message ≡ None
    go true b c pa pb pc k = at 8 pa refl
    go false true c pa pb pc k = at 9 pb refl
    go false false true pa pb pc k = at 11 pc refl
    go false false false pa pb pc k = absurd (cc k)

pub none_known : (message : List ℕ) → is_for_whole message ≡ true
    → incoming_by message (said_to false message) ≡ incoming.Response (error_to (unique_of message) ENOSYS)
none_known message is =
    ap (λ unknown. incoming_by message (if unknown then Err (Answer ENOSYS) else said message)) is
    ∙ ap (λ asked. incoming.Response (refused message ENOSYS asked)) (none_asked message is)

-- any other message says the same to each session
pub said_alike : (whole : Bool) (message : List ℕ) → is_for_whole message ≡ false → said_to whole message ≡ said message
said_alike true message other = refl
said_alike false message other = ap (λ unknown. if unknown then Err (Answer ENOSYS) else said message) other

-- ---- what is refused

unserved_error : (unknown : Bool) (message : List ℕ) (it : WholeAsk) (e : Errno) → whole_ask message ≡ Some it
    → (if unknown then Err (Answer ENOSYS) else said message) ≡ Err (Answer e) → e ≡ ENOSYS
unserved_error true message it e is says = cc says
unserved_error false message it e is says = let both = sym says ∙ no_order message it is in cc both

-- what is refused gets its error
refused_bytes : (message : List ℕ) (e : Errno) → said_to false message ≡ Err (Answer e)
    → bytes_of (refused message e (whole_ask message)) ≡ bytes_of (error_to (unique_of message) e)
refused_bytes message e says = go (whole_ask message) refl
  where
    go : (asked : Option WholeAsk) → whole_ask message ≡ asked
        → bytes_of (refused message e asked) ≡ bytes_of (error_to (unique_of message) e)
    go None is = refl
    go (Some it) is =
        let same : e ≡ ENOSYS = unserved_error (is_for_whole message) message it e is says in
        ap (λ x. spelling_of (record { unique = unique_of message; result = Err x }) ∷ []) (sym same)

pub plain_bytes : (rules : Rules) (d : Listing) (response : Response) → rules.whole ≡ false
    → bytes_when rules d response ≡ bytes_of response
plain_bytes rules d Nothing plain = refl
plain_bytes rules d (Init unique step) plain = refl
plain_bytes rules d (One told) plain = refl
plain_bytes rules d (Replies tolds) plain = refl
plain_bytes rules d (Whole unique it) plain = rw plain refl

pub plain_refused : (rules : Rules) (d : Listing) (message : List ℕ) (e : Errno) → rules.whole ≡ false
    → said_to false message ≡ Err (Answer e)
    → bytes_when rules d (refused message e (whole_ask message)) ≡ bytes_of (error_to (unique_of message) e)
plain_refused rules d message e plain says =
    plain_bytes rules d (refused message e (whole_ask message)) plain ∙ refused_bytes message e says
