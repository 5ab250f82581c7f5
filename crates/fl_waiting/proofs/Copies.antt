-- Locks that requests want, copied one after another.
use Rattle.std.proofs.Common.{◌≡◌, ◌∙◌, ℕ, suc, ◌+◌, ◌<◌, Bool, true, false, cond, Option, Some, None, option_map, List, []}
use Rattle.std.proofs.Common.{◌∷◌, ◌++◌, length, map, take, get_or, slice_get, append-nil, refl, sym, ap, subst, arith}
use Rattle.std.proofs.lemmas.Option.{slice_get-map}
use Rattle.std.proofs.lemmas.List.{take_more, map-append}
use Rattle.std.proofs.lemmas.List.Elements.{filter_map-append}
use Rattle.std.specs.List.{cons_option, filter_map}
use Rattle.fl_arena.specs.Chains.{Chains, items}
use Rattle.fl_arena.specs.Cursors.{cursor_at}
use Rattle.fl_arena.specs.declared.cursors.Cursor.{Cursor}
use Rattle.fl_waiting.specs.Waiting.{Wish, wish_of, wishes}
use Rattle.fl_waiting.specs.Inside.Claims.{request_in, requests_of}
use Rattle.fl_waiting.specs.Inside.Copies.{one_of, numbered}
use Rattle.fl_waiting.specs.Wanted.{meant, AreNumbered}
use Rattle.fl_waiting.specs.declared.wanted.Wanted.{Wanted}
use Rattle.fl_waiting.specs.LockRequest.{is_flock, key_of, stroke_of}
use Rattle.fl_waiting.specs.declared.claim.Claim.{Claim}
use Rattle.fl_waiting.specs.declared.parked.Request.{Request}
use Rattle.fl_waiting.proofs.Chain.{found_at, nothing_left}
use Rattle.fl_waiting.proofs.Claims.{stands_at}
use Rattle.fl_marks.specs.Marking.{Stroke, stroke_on}
use Rattle.fl_marks.specs.declared.lock.Class.{Class}
use Rattle.fl_marks.specs.declared.lock.Class.TheVariants.{Record, Flock}
use Rattle.fl_marks.specs.declared.lock.Mark.{Mark}

one_wish : (n : ℕ) (w : Option Wanted) (r : Request) → option_map meant w ≡ wish_of r
    → map meant (one_of (option_map (numbered n) w)) ≡ filter_map wish_of (r ∷ [])
one_wish n None r e = ap (λ o. cons_option o []) e
one_wish n (Some w) r e = ap (λ o. cons_option o []) e

-- one more is copied, if the request wants a record lock
pub copied_more : (room new : List Wanted) (count next : ℕ) (w : Option Wanted) (parked : List Request) (i : ℕ) (r : Request)
    → map meant (take count room) ≡ wishes (take i parked) → take next new ≡ take count room ++ one_of (option_map (numbered count) w)
    → option_map meant w ≡ wish_of r → i < length parked → get_or parked i r ≡ r → map meant (take next new) ≡ wishes (take (i + 1) parked)
copied_more room new count next w parked i r so_far put wish there at =
    ap (map meant) put ∙ map-append meant (take count room) (one_of (option_map (numbered count) w)) ∙ (λ j. so_far j ++ one_wish count w r wish j)
    ∙ sym (filter_map-append wish_of (take i parked) (r ∷ []))
    ∙ ap wishes (ap (λ x. take i parked ++ x ∷ []) (sym at) ∙ sym (take_more parked i r there))

numbered_more : (n : ℕ) (ws : List Wanted) (w : Wanted) → AreNumbered n ws → w.place ≡ n + length ws → AreNumbered n (ws ++ w ∷ [])
numbered_more n [] w all is = (omega (arith, is), tt)
numbered_more n (v ∷ ws) w all is = (all.0, numbered_more (suc n) ws w all.1 (omega (arith, is)))

-- and numbered
pub numbered_on : (room new : List Wanted) (count next : ℕ) (w : Option Wanted) → AreNumbered 0 (take count room) → length (take count room) ≡ count
    → take next new ≡ take count room ++ one_of (option_map (numbered count) w) → AreNumbered 0 (take next new)
numbered_on room new count next w so_far long put = subst (AreNumbered 0) (sym put) (go w)
  where
    go : (w : Option Wanted) → AreNumbered 0 (take count room ++ one_of (option_map (numbered count) w))
    go None = subst (AreNumbered 0) (sym (append-nil (take count room))) so_far
    go (Some w) = numbered_more 0 (take count room) (numbered count w) so_far (omega (arith, long))

-- the cursor has gone on by one
pub record IsNext (a : Chains Claim) (i : ℕ) (claim : Claim) (next : Cursor) : Type 0 where
  pub at : next ≡ cursor_at a 0 next.index
  pub index : next.index ≡ i + 1
  pub inside : i < length (items a 0)
  pub there : i < length (requests_of a)
  pub value : get_or (requests_of a) i claim.request ≡ claim.request

pub is_next : (a : Chains Claim) (i : ℕ) (claim : Claim) (next : Cursor) → slice_get (items a 0) i ≡ Some claim
    → next ≡ cursor_at a 0 (i + 1) → IsNext a i claim next
is_next a i claim next found on =
    let index : next.index ≡ i + 1 = ap (λ (k : Cursor). k.index) on in
    let there = stands_at a i claim found in
    record {
      at = on ∙ ap (cursor_at a 0) (sym index);
      index = index;
      inside = (found_at (items a 0) i claim found).0;
      there = there.0;
      value = there.1;
    }

-- all are copied if no claim is left
pub none_left : (a : Chains Claim) (i : ℕ) → slice_get (items a 0) i ≡ None → take i (requests_of a) ≡ requests_of a
none_left a i e = nothing_left (requests_of a) i (slice_get-map request_in (items a 0) i ∙ ap (option_map request_in) e)

-- the record lock of a stroke, if it is one that is set
abbrev wish_at : Class → Stroke → Option Wish
wish_at Flock s = None
wish_at Record s = option_map (λ (mark : Mark). record { key = s.key; start = s.start; end = s.end; kind = mark.kind }) s.mark

wish_by : (r : Request) → wish_of r ≡ wish_at (key_of r.node r.ask).class (stroke_of r.node r.ask)
wish_by r = go (is_flock r.ask)
  where
    go : (b : Bool) → cond b None (wish_at Record (stroke_of r.node r.ask)) ≡ wish_at (cond b Flock Record) (stroke_of r.node r.ask)
    go true = refl
    go false = refl

-- the record lock that a claim is for
pub wish_in : (claim : Claim) → wish_at claim.key.class (stroke_on claim.key claim.range claim.mark) ≡ wish_of claim.request
wish_in claim = ap (λ (s : Stroke). wish_at s.key.class s) claim.wanted ∙ sym (wish_by claim.request)
