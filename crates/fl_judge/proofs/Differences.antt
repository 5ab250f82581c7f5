-- Where lines break the rules, what is heard there, and what these want.
use Rattle.std.proofs.Common.{◌≡◌, inl, inr, ℕ, ◌+◌, ◌-◌, ◌<◌, true, false, Option, Some, None, cond}
use Rattle.std.proofs.Common.{List, [], ◌∷◌, ◌++◌, length, take, slice_get}
use Rattle.std.proofs.Common.{ap, sym, ◌∙◌, subst, arith}
use Rattle.std.proofs.lemmas.List.{append-nil, length-append, take-append-le, take_all, get_or_append_left}
use Rattle.std.proofs.lemmas.List.Sums.{sum_by-append}
use Rattle.std.proofs.lemmas.Option.{slice_get-get_or, slice_get_past}
use Rattle.std.proofs.Math.Seq.{get_or-append_seam, take-append_seam}
use Rattle.std.specs.Option.{is_some}
use Rattle.fl_desk.specs.Legal.{IsLegal, is_asked, orders_asked}
use Rattle.fl_history.specs.declared.history.Line.{Line}
use Rattle.fl_judge.specs.declared.replay.Replay.{Replay}
use Rattle.fl_judge.specs.Difference.{IsDueBehind, IsDifferenceAt}
use Rattle.fl_judge.specs.Hearing.{Hearing}
use Rattle.fl_judge.specs.Inside.Heard.{LeadsUpTo, DiffersIn, Stands, IsStoppedAt, IsHeard, IsNoted}
use Rattle.fl_judge.proofs.Heads.{GoesByParts, inside, not_whole}
use Rattle.fl_judge.proofs.Replays.{due_first, legal_or_inside}
use Rattle.fl_judge.proofs.Verdicts.{WantsMore, seen, said, missing, lacks_reply, up_to}
use Rattle.fl_order.specs.declared.told.Told.{Told}

-- ---- the reply that has to come

-- behind lines that a replay led up to
due_behind : (lines : List Line) (r : Replay) (o : Option Told) → o ≡ slice_get r.tolds.told r.told → LeadsUpTo lines r → IsDueBehind r.core.rules lines o
due_behind lines r None is up = legal_or_inside r lines (sym is) up
due_behind lines r (Some due) is up = due_first lines r due (sym is) up

-- where the lines differ
pub difference_at : (lines : List Line) (now : Hearing) (r : Replay) (o : Option ℕ) (found : Option Line) (due : Option Told) (n : ℕ) → seen r lines ≡ now
    → o ≡ Some n → due ≡ slice_get r.tolds.told r.told → Stands lines r o → IsStoppedAt lines r o found
    → IsDifferenceAt now.rules now.lines (record { number = n; found = found; due = due })
difference_at lines now r None found due n same at is stands stopped = absurd (cc at)
difference_at lines now r (Some m) found due n same at is stands stopped =
    subst (λ k. IsDifferenceAt now.rules now.lines (record { number = k; found = found; due = due })) (number m n at)
    (subst (λ (h : Hearing). IsDifferenceAt h.rules h.lines (record { number = m; found = found; due = due })) same (record {
      differs = said r.core.rules lines m stands;
      found = stopped.0;
      due = due_behind (take (m - 1) lines) r due is stopped.1;
    }))
  where
    number : (m n : ℕ) → ◌≡◌ {A = Option ℕ} (Some m) (Some n) → m ≡ n
    number m n e = cc e

-- behind the lines, if something is missing there
behind_all : (lines : List Line) (now : Hearing) (r : Replay) (o : Option Told) (n : ℕ) → seen r lines ≡ now → n ≡ length lines + 1
    → o ≡ slice_get r.tolds.told r.told → (IsLegal r.core.rules lines → ⊥) → LeadsUpTo lines r
    → IsDifferenceAt now.rules now.lines (record { number = n; found = None; due = o })
behind_all lines now r o n same at is illegal up =
    subst (λ (h : Hearing). IsDifferenceAt h.rules h.lines (record { number = n; found = None; due = o })) same (record {
      differs = missing lines r n at illegal up;
      found = sym (slice_get_past lines (n - 1) (omega (arith, at)));
      due = subst (λ ls. IsDueBehind r.core.rules ls o) (sym (take_all (n - 1) lines (omega (arith, at)))) (due_behind lines r o is up);
    })

-- replies, or the end of a head
pub difference_behind : GoesByParts → (lines : List Line) (now : Hearing) (r : Replay) (o : Option Told) (n : ℕ) → seen r lines ≡ now → n ≡ length lines + 1
    → o ≡ slice_get r.tolds.told r.told → WantsMore r → LeadsUpTo lines r
    → IsDifferenceAt now.rules now.lines (record { number = n; found = None; due = o })
difference_behind goes_on lines now r (Some due) n same at is some up =
    behind_all lines now r (Some due) n same at is (lacks_reply lines r due (sym is) up) up
difference_behind goes_on lines now r None n same at is (inl some) up = absurd (cc (ap is_some is, some))
difference_behind goes_on lines now r None n same at is (inr telling) up =
    behind_all lines now r None n same at is
    (λ legal. not_whole goes_on r.core.rules lines [] (subst (IsLegal r.core.rules) (sym (append-nil lines)) legal) (inside lines r telling up)) up

-- ---- one line more

asked_on : (orders more : ℕ) (lines new : List Line) (l : Line) → new ≡ lines ++ l ∷ [] → orders ≡ orders_asked lines → more ≡ orders_asked (l ∷ [])
    → orders + more ≡ orders_asked new
asked_on orders more lines new l is was one =
    let on : orders_asked (lines ++ l ∷ []) ≡ orders_asked lines + orders_asked (l ∷ []) =
    sum_by-append (λ (x : Line). cond (is_asked x) 1 0) lines (l ∷ []) in
    omega (arith, was, one, on, ap orders_asked is)

-- a line that was there still is
there_still : (lines : List Line) (l : Line) (k : ℕ) → k < length lines → slice_get (lines ++ l ∷ []) k ≡ slice_get lines k
there_still lines l k within =
    slice_get-get_or (lines ++ l ∷ []) k l (omega (arith, within, length-append lines (l ∷ [])))
    ∙ ap Some (get_or_append_left lines (l ∷ []) l k within)
    ∙ sym (slice_get-get_or lines k l within)

-- the line that comes is the last
there_last : (lines : List Line) (l : Line) → slice_get (lines ++ l ∷ []) (length lines) ≡ Some l
there_last lines l =
    slice_get-get_or (lines ++ l ∷ []) (length lines) l (omega (arith, length-append lines (l ∷ []))) ∙ ap Some (get_or-append_seam lines l [] l)

pub noted_still : (lines new : List Line) (l : Line) (heard orders more : ℕ) (r : Replay) (o : Option ℕ) (found : Option Line) → new ≡ lines ++ l ∷ []
    → IsHeard lines heard r o → IsNoted lines orders r o found → more ≡ orders_asked (l ∷ []) → is_some o ≡ true → IsNoted new (orders + more) r o found
noted_still lines new l heard orders more r None found is h noted one some = absurd (cc some)
noted_still lines new l heard orders more r (Some n) found is h noted one some =
    let d : DiffersIn r.core.rules lines n = h.stands in
    let from = d.from in
    let within = d.within in
    record {
      asked = asked_on orders more lines new l is noted.asked one;
      stopped = subst (λ ls. IsStoppedAt ls r (Some n) found) (sym is) (
        noted.stopped.0 ∙ sym (there_still lines l (n - 1) (omega (arith, from, within))),
        subst (λ ls. LeadsUpTo ls r) (sym (take-append-le (n - 1) lines (l ∷ []) (omega (arith, within)))) noted.stopped.1,
      );
    }

pub noted_alike : (lines new : List Line) (l : Line) (orders more : ℕ) (before after : Replay) (o : Option ℕ) (found : Option Line) → new ≡ lines ++ l ∷ []
    → IsNoted lines orders before o found → more ≡ orders_asked (l ∷ []) → is_some o ≡ false → IsNoted new (orders + more) after o found
noted_alike lines new l orders more before after (Some n) found is noted one none = absurd (cc none)
noted_alike lines new l orders more before after None found is noted one none =
    record { asked = asked_on orders more lines new l is noted.asked one; stopped = noted.stopped }

pub noted_wrong : (lines new : List Line) (l : Line) (heard orders more : ℕ) (before after : Replay) (o : Option ℕ) (found : Option Line) → new ≡ lines ++ l ∷ []
    → IsHeard lines heard before o → IsNoted lines orders before o found → more ≡ orders_asked (l ∷ []) → is_some o ≡ false → after ≡ before
    → IsNoted new (orders + more) after (Some (heard + 1)) (Some l)
noted_wrong lines new l heard orders more before after o found is h noted one none stays =
    let up = up_to lines before o none h.stands in
    let place : heard + 1 - 1 ≡ length lines = (let count = h.count in omega (arith, count)) in
    record {
      asked = asked_on orders more lines new l is noted.asked one;
      stopped = subst (λ ls. IsStoppedAt ls after (Some (heard + 1)) (Some l)) (sym is) (
        sym (ap (slice_get (lines ++ l ∷ [])) place ∙ there_last lines l),
        subst (λ ls. LeadsUpTo ls after) (sym (ap (λ k. take k (lines ++ l ∷ [])) place ∙ take-append_seam lines (l ∷ []))) (subst (LeadsUpTo lines) (sym stays) up),
      );
    }
