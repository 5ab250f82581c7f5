-- A room that is filled by one read after another.
use Rattle.std.proofs.Common.{◌≡◌, ◌⊎◌, inl, inr, take-append-drop, ℕ, ◌+◌, ◌<◌, ◌≤◌, List, [], ◌++◌, length, take}
use Rattle.std.proofs.Common.{drop, take-take, take-add, length-take-le, refl, sym, ap, subst, ◌∙◌, arith, Option}
use Rattle.std.proofs.lemmas.List.{drop_all, drop-append-le}
use Rattle.std.proofs.KnownBytes.{Consumes-nil, Consumes-trans}
use Rattle.std.specs.Io.KnownBytes.{Consumes, IsAtEnd}
use Rattle.byteorder.specs.Numbers.{little_from-take}
use Rattle.fl_wire.specs.Layout.{len_of, number_at}
use Rattle.lockd_drive.specs.Drive.{IsFramed}
use Rattle.lockd_drive.specs.Drive.Inside.{IsPart, IsShortBy, IsStopped, IsWhy}
use Rattle.lockd_faults.specs.declared.fault.CommandFault.{CommandFault}
use Rattle.lockd_faults.specs.declared.fault.CommandFault.TheVariants.{BadReply, Cut, Read as ReadFailed}

-- so far the room is filled up to a place, from another on by what was read, and as it was before that one
pub record IsFilledTo (from to at : ℕ) (first room : List ℕ) (left left_now : Option (List ℕ)) : Type 0 where
  pub low : from ≤ at
  pub high : at ≤ to
  pub front : take from room ≡ take from first
  pub read : Consumes left left_now (drop from (take at room))

pub filled_none : (from to : ℕ) (room : List ℕ) (left : Option (List ℕ)) → from ≤ to → to ≤ length room
    → IsFilledTo from to from room room left left
filled_none from to room left order within =
    let none : drop from (take from room) ≡ [] =
    drop_all from (take from room) (omega (arith, length-take-le from room (omega arith))) in
    record {
      low = omega arith;
      high = order;
      front = refl;
      read = subst (Consumes left left) (sym none) (Consumes-nil left);
    }

pub filled_more : (from to at n : ℕ) (first room new : List ℕ) (left left_now left_later : Option (List ℕ))
    → IsFilledTo from to at first room left left_now → at ≤ length room → take at new ≡ take at room
    → at + n ≤ to → Consumes left_now left_later (take n (drop at new))
    → IsFilledTo from to (at + n) first new left left_later
filled_more from to at n first room new left left_now left_later f inside same within read =
    let low = f.low in
    let more : take (at + n) new ≡ take at room ++ take n (drop at new) =
    take-add at n new ∙ ap (λ xs. xs ++ take n (drop at new)) same in
    let long : from ≤ length (take at room) = omega (arith, length-take-le at room inside) in
    let behind : drop from (take at room) ++ take n (drop at new) ≡ drop from (take (at + n) new) =
    sym (ap (drop from) more ∙ drop-append-le from (take at room) (take n (drop at new)) long) in
    let front : take from new ≡ take from room =
    sym (take-take from at new low) ∙ ap (take from) same ∙ take-take from at room low in
    record {
      low = omega arith;
      high = within;
      front = front ∙ f.front;
      read = subst (Consumes left left_later) behind (Consumes-trans left left_now left_later _ _ f.read read);
    }

-- what stood before the reads still does
pub filled_keeps : (from to at : ℕ) (first room new : List ℕ) (left left_now : Option (List ℕ))
    → IsFilledTo from to at first room left left_now → take at new ≡ take at room → take from new ≡ take from first
filled_keeps from to at first room new left left_now f same =
    sym (take-take from at new f.low) ∙ ap (take from) same ∙ take-take from at room f.low ∙ f.front

-- the length stands in the first four bytes
len-take : (n : ℕ) (bytes : List ℕ) → 4 ≤ n → len_of (take n bytes) ≡ len_of bytes
unfolding number_at
len-take n bytes long = little_from-take 0 4 n bytes long

-- a length that no reply has
pub bad_head : (room : List ℕ) (left left_now : Option (List ℕ)) → 4 ≤ length room → Consumes left left_now (take 4 room)
    → (16 ≤ len_of room → 8192 < len_of room) → IsStopped BadReply left left_now
bad_head room left left_now long read bad =
    let own = len-take 4 room (omega arith) in
    record {
      behind = take 4 room;
      read = read;
      why = (length-take-le 4 room long, λ least. let most = bad (omega (arith, own)) in omega (arith, own));
    }

-- behind a reply's head its rest was read
pub framed_is : (head room : List ℕ) (len : ℕ) → take 4 room ≡ take 4 head → len ≡ len_of head → 16 ≤ len
    → len ≤ 8192 → len ≤ length room → IsFramed (take len room)
framed_is head room len front said least most within =
    let own : len_of (take len room) ≡ len_of head =
    len-take len room (omega arith) ∙ sym (len-take 4 room (omega arith)) ∙ ap len_of front ∙ len-take 4 head (omega arith) in
    let size = length-take-le len room within in
    record { whole = omega (arith, own, size); least = omega (arith, size); most = omega (arith, size) }

-- the head and what is behind it
whole_of : (head room : List ℕ) (n : ℕ) → take 4 room ≡ take 4 head → 4 ≤ n
    → take 4 head ++ drop 4 (take n room) ≡ take n room
whole_of head room n front long =
    ap (λ xs. xs ++ drop 4 (take n room)) (sym front ∙ sym (take-take 4 n room long)) ∙ take-append-drop 4 (take n room)

pub read_is : (head room : List ℕ) (len : ℕ) (left left_now left_later : Option (List ℕ)) → take 4 room ≡ take 4 head
    → 4 ≤ len → Consumes left left_now (take 4 head) → Consumes left_now left_later (drop 4 (take len room))
    → Consumes left left_later (take len room)
read_is head room len left left_now left_later front long first rest =
    subst (Consumes left left_later) (whole_of head room len front long)
    (Consumes-trans left left_now left_later _ _ first rest)

-- behind a reply's head less than its rest was read
part_is : (head room : List ℕ) (len at : ℕ) → take 4 room ≡ take 4 head → len ≡ len_of head → 16 ≤ len
    → len ≤ 8192 → len ≤ length room → 4 ≤ at → at < len → IsPart (take at room)
part_is head room len at front said least most within from short = λ long.
    let own : len_of (take at room) ≡ len_of head =
    len-take at room from ∙ sym (len-take 4 room (omega arith)) ∙ ap len_of front ∙ len-take 4 head (omega arith) in
    let count : length (take at room) ≡ at = length-take-le at room (omega arith) in
    (omega (arith, own), omega (arith, own), omega (arith, own, count))

why_short : (fault : CommandFault) (behind : List ℕ) (left : Option (List ℕ)) → IsPart behind
    → (fault ≡ ReadFailed) ⊎ ((fault ≡ Cut) × IsAtEnd left) → IsWhy fault behind left
why_short fault behind left part (inl e) = subst (λ f. IsWhy f behind left) (sym e) tt
why_short fault behind left part (inr e) = subst (λ f. IsWhy f behind left) (sym e.0) (part, e.1)

pub head_short : (room : List ℕ) (fault : CommandFault) (left left_now : Option (List ℕ)) → 4 ≤ length room
    → IsShortBy fault 0 4 room left left_now → IsStopped fault left left_now
head_short room fault left left_now long s =
    let few = s.short in
    let count : length (take s.at room) ≡ s.at = length-take-le s.at room (omega arith) in
    record {
      behind = take s.at room;
      read = s.read;
      why = why_short fault (take s.at room) left_now (λ four. absurd (omega (arith, count))) s.why;
    }

pub rest_short : (head room : List ℕ) (len : ℕ) (fault : CommandFault) (left left_now left_later : Option (List ℕ))
    → Consumes left left_now (take 4 head) → IsShortBy fault 4 len room left_now left_later
    → take 4 room ≡ take 4 head → len ≡ len_of head → 16 ≤ len → len ≤ 8192 → len ≤ length room
    → IsStopped fault left left_later
rest_short head room len fault left left_now left_later first s front said least most within = record {
  behind = take s.at room;
  read = read_is head room s.at left left_now left_later front s.from first s.read;
  why = why_short fault (take s.at room) left_later
      (part_is head room len s.at front said least most within s.from s.short) s.why;
}
