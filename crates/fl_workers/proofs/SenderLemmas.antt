-- What workers who share one writer have given to it.
use Rattle.std.proofs.Common.{◌≡◌, ℕ, List, [], ◌∷◌, ◌++◌, map, Option, refl, sym, ap, ◌∙◌, subst}
use Rattle.std.proofs.Common.{append-nil, append_assoc}
use Rattle.fl_order.specs.declared.told.Told.{Told}
use Rattle.fl_transport.specs.Collecting.{Collects, IsGiven, Outgoing}
use Rattle.fl_transport.specs.Response.{bytes_of}
use Rattle.fl_transport.specs.declared.response.Response.{Response}
use Rattle.fl_transport.specs.declared.response.Response.TheVariants.{Nothing, Init, One, Replies, Whole}
use Rattle.fl_workers.specs.Sent.{entry, replies_of, replies_to, spelled, spelling}
use Rattle.fl_workers.specs.declared.entry.ReplyEntry.{ReplyEntry}
use Rattle.fl_wire.specs.Spell.{spelling_of}

spelled_append : (xs ys : List ReplyEntry) → spelled (xs ++ ys) ≡ spelled xs ++ spelled ys
spelled_append [] ys = refl
spelled_append (x ∷ xs) ys = ap (λ l. map spelling x.replies ++ l) (spelled_append xs ys)
    ∙ sym (append_assoc (map spelling x.replies) (spelled xs) (spelled ys))

spelled_tolds : (tolds : List Told) → map spelling (replies_to tolds) ≡ map spelling_of tolds
spelled_tolds [] = refl
spelled_tolds (t ∷ ts) = ap (λ l. spelling_of t ∷ l) (spelled_tolds ts)

-- the replies of a response have its bytes
spelled_response : (response : Response) → map spelling (replies_of response) ≡ bytes_of response
spelled_response Nothing = refl
spelled_response (Init unique step) = refl
spelled_response (One t) = refl
spelled_response (Replies tolds) = spelled_tolds tolds.now
spelled_response (Whole unique ask) = refl

-- the bytes of a log with one entry more
spelled_more : (log : List ReplyEntry) (author : ℕ) (response : Response)
    → spelled log ++ bytes_of response ≡ spelled (log ++ entry author (replies_of response) ∷ [])
spelled_more log author response =
    ap (λ l. spelled log ++ l) (sym (spelled_response response) ∙ sym (append-nil (map spelling (replies_of response))))
    ∙ sym (spelled_append log (entry author (replies_of response) ∷ []))

-- one entry more was given
pub given_more : (start : Option (List ℕ)) (old now : Outgoing) (log log_now : List ReplyEntry) (author : ℕ)
    (response : Response) → IsGiven start old (spelled log) → Collects old now (bytes_of response)
    → log_now ≡ log ++ entry author (replies_of response) ∷ [] → IsGiven start now (spelled log_now)
given_more start old now log log_now author response before more is =
    subst (IsGiven start now) (spelled_more log author response ∙ sym (ap spelled is))
    (more.onward start (spelled log) before)

-- no entry more
pub given_still : (start : Option (List ℕ)) (old now : Outgoing) (log : List ReplyEntry) → IsGiven start old (spelled log)
    → Collects old now [] → IsGiven start now (spelled log)
given_still start old now log before none =
    subst (IsGiven start now) (append-nil (spelled log)) (none.onward start (spelled log) before)
