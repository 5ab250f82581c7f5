-- What was given to be sent, of what was owed.
use Rattle.std.proofs.Common.{◌≡◌, ℕ, ◌+◌, Bool, true, false, true≢false, List, [], ◌∷◌, ◌++◌, map, take}
use Rattle.std.proofs.Common.{refl, sym, ◌∙◌, subst}
use Rattle.std.specs.Prelude.{Some, not, ◌||◌, slice_get}
use Rattle.std.proofs.lemmas.List.{map-append}
use mathlib.Core.List.Sublistᴰ as sublist
use Rattle.fl_log.specs.Appended.{Appended, IsAppended}
use Rattle.fl_log.specs.Growing.{Grows}
use Rattle.fl_order.specs.declared.told.Told.{Told}
use Rattle.fl_workers.proofs.Growing.{appended_more, none_more, then_more}
use Rattle.fl_workers.proofs.BatchLemmas.{take_next}
use Rattle.fl_workers.specs.Inside.Lists.{entries_for}
use Rattle.fl_workers.specs.Sent.{HasSent, entries_of, entry, replies_to}
use Rattle.fl_workers.specs.declared.entry.ReplyEntry.{ReplyEntry}

-- of two that may be lost, neither is
pub neither : (a b : Bool) → (a || b) ≡ false → (a ≡ false) × (b ≡ false)
neither true b e = absurd (true≢false e)
neither false b e = (refl, e)

-- nothing is owed
pub none_sent : (here : Appended ReplyEntry) (lost : Bool) → HasSent [] here here lost
none_sent here lost = record {
  author = refl;
  given = [];
  of = sublist.refl [];
  grown = none_more (entries_of here.author here.upto) here.count;
  all = λ none. refl;
}

-- one entry is owed, and given
pub one_given : (e : ReplyEntry) (old new : Appended ReplyEntry) (lost : Bool) → e.author ≡ old.author
    → IsAppended old e new → HasSent (e ∷ []) old new lost
one_given e old new lost its appended = record {
  author = appended.author;
  given = e ∷ [];
  of = sublist.refl (e ∷ []);
  grown = appended_more (λ (it : ReplyEntry). it.author) old new e its appended;
  all = λ none. refl;
}

-- one entry is owed, and lost
pub one_lost : (e : ReplyEntry) (old new : Appended ReplyEntry) → new ≡ old → HasSent (e ∷ []) old new true
one_lost e old new same = subst (λ here. HasSent (e ∷ []) old here true) (sym same) (record {
  author = refl;
  given = [];
  of = sublist.nil-sublist (e ∷ []);
  grown = none_more (entries_of old.author old.upto) old.count;
  all = λ none. absurd (true≢false none);
})

-- one entry is owed, and given or lost
pub one_sent : (e : ReplyEntry) (old new : Appended ReplyEntry) (ok : Bool) → e.author ≡ old.author
    → (ok ≡ true → IsAppended old e new) → (ok ≡ false → new ≡ old) → HasSent (e ∷ []) old new (not ok)
one_sent e old new true its appended same = one_given e old new false its (appended refl)
one_sent e old new false its appended same = one_lost e old new (same refl)

-- these are owed, and then those
pub then_sent : (xs ys : List ReplyEntry) (a b c : Appended ReplyEntry) (k m n : Bool)
    → (n ≡ false → (k ≡ false) × (m ≡ false)) → HasSent xs a b k → HasSent ys b c m → HasSent (xs ++ ys) a c n
then_sent xs ys a b c k m n whole first second =
    let P : ℕ → Type 0 = λ author.
    Grows (entries_of author b.upto) (entries_of author c.upto) b.count c.count second.given in
    record {
      author = second.author ∙ first.author;
      given = first.given ++ second.given;
      of = sublist.append first.of second.of;
      grown = then_more (entries_of a.author a.upto) (entries_of a.author b.upto) (entries_of a.author c.upto) a.count
          b.count c.count first.given second.given first.grown (subst P first.author second.grown);
      all = λ none i. first.all (whole none).0 i ++ second.all (whole none).1 i;
    }

-- an entry is owed for each of these, and then for each of those
pub each_sent : {X : Type 0} (entry_of : ℕ → X → ReplyEntry) (xs ys : List X) (a b c : Appended ReplyEntry)
    (k m n : Bool) → (n ≡ false → (k ≡ false) × (m ≡ false)) → HasSent (map (entry_of a.author) xs) a b k
    → HasSent (map (entry_of b.author) ys) b c m → HasSent (map (entry_of a.author) (xs ++ ys)) a c n
each_sent entry_of xs ys a b c k m n whole first second =
    let its = a.author in
    subst (λ owed. HasSent owed a c n) (sym (map-append (entry_of its) xs ys))
    (then_sent (map (entry_of its) xs) (map (entry_of its) ys) a b c k m n whole first
    (subst (λ author. HasSent (map (entry_of author) ys) b c m) first.author second))

-- lists of replies are given one after another
pub lists_more : (lists : List (List Told)) (place : ℕ) (tolds : List Told) (a b c : Appended ReplyEntry)
    (k ok n : Bool) → slice_get lists place ≡ Some tolds → n ≡ (k || not ok)
    → HasSent (entries_for a.author (take place lists)) a b k
    → (ok ≡ true → IsAppended b (entry b.author (replies_to tolds)) c) → (ok ≡ false → c ≡ b)
    → HasSent (entries_for a.author (take (place + 1) lists)) a c n
lists_more lists place tolds a b c k ok n at either so_far appended same =
    let entry_of = λ (author : ℕ) (told : List Told). entry author (replies_to told) in
    let whole = λ (none : n ≡ false). neither k (not ok) (sym either ∙ none) in
    subst (λ l. HasSent (entries_for a.author l) a c n) (sym (take_next lists place tolds at))
    (each_sent entry_of (take place lists) (tolds ∷ []) a b c k (not ok) n whole so_far
    (one_sent (entry b.author (replies_to tolds)) b c ok refl appended same))
