-- The seats of a record, one for each worker.
use Rattle.std.proofs.Common.{◌≡◌, ◌≢◌, ℕ, ◌+◌, ◌<◌, List, [], ◌∷◌, ◌++◌, All, map, take, sym, ap, ◌∙◌, arith}
use Rattle.std.proofs.Common.{Option, Some, option_to_list, length, length-append, sum_by}
use Rattle.std.proofs.Math.ListN.{get_or}
use Rattle.std.proofs.lemmas.List.{get_or-take, get_or_default, length-take-le, map-append, map-id}
use Rattle.std.proofs.lemmas.List.FromFn.{map-range_with_len_more}
use Rattle.std.proofs.lemmas.List.Sums.{sum_by_push}
use Rattle.std.specs.List.{range_with_len}
use Rattle.fl_record.specs.Seats.{AreApart, Place}

range_push : (n : ℕ) → range_with_len 0 (n + 1) ≡ range_with_len 0 n ++ n ∷ []
range_push n =
    sym (map-id (range_with_len 0 (n + 1))) ∙ map-range_with_len_more (λ i. i) 0 n n (omega arith)
    ∙ ap (λ xs. xs ++ n ∷ []) (map-id (range_with_len 0 n))

-- a seat more, of the next worker
pub seat_added : {X : Type 0} (worker_of : X → ℕ) (seats : List X) (seat : X) (n : ℕ) →
    map worker_of seats ≡ range_with_len 0 n → worker_of seat ≡ n →
    map worker_of (seats ++ seat ∷ []) ≡ range_with_len 0 (n + 1)
seat_added worker_of seats seat n those this =
    map-append worker_of seats (seat ∷ []) ∙ ap (λ xs. xs ++ worker_of seat ∷ []) those
    ∙ ap (λ w. range_with_len 0 n ++ w ∷ []) this ∙ sym (range_push n)

-- if places are apart, none before one of them is of its worker
pub none_before : (places : List Place) (i : ℕ) (this : Place) → AreApart places → i < length places → this ≡ get_or places i this
    → All (λ (p : Place). p.worker ≢ this.worker) (take i places)
none_before places i this apart lt is k d short same =
    let less : k < i = omega (arith, short, length-take-le i places (omega arith)) in
    apart k i d less lt
    (sym (ap (λ (p : Place). p.worker) (get_or-take i places k d less)) ∙ same
    ∙ ap (λ (p : Place). p.worker) (is ∙ get_or_default places i this d lt))

-- one less is left behind a list from whose end one was taken, and the others count the rest
pub one_popped : {X : Type 0} (f : X → ℕ) (xs left : List X) (taken : Option X) (x : X) → xs ≡ left ++ option_to_list taken
    → taken ≡ Some x → (length xs ≡ length left + 1) × (sum_by f xs ≡ sum_by f left + f x)
one_popped f xs left taken x items is =
    let all : xs ≡ left ++ x ∷ [] = items ∙ ap (λ o. left ++ option_to_list o) is in
    (ap length all ∙ length-append left (x ∷ []), ap (sum_by f) all ∙ sum_by_push f left x)
