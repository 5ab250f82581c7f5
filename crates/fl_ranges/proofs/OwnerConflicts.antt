-- Conflicts with one owner, and the least owner that conflicts.
use Rattle.std.proofs.Common.{◌≡◌, ◌↔◌, ℕ, ◌≤◌, Bool, true, false, cond, ◌&&◌, ◌||◌, ◌==◌, Option, Some, None, inl, inr}
use Rattle.std.proofs.Common.{◌⊎◌, List, [], ◌∷◌, map, refl, ap, sym}
use Rattle.std.proofs.Common.{◌∙◌, subst, arith}
use Rattle.std.proofs.lemmas.Bool.Decides.{nat_tests}
use Rattle.std.specs.List.{list_any}
use Rattle.std.proofs.lemmas.Bool.{false_from_ne_true, or_left, or_right, and_from, eqb-true, eq-eqb}
use Rattle.std.specs.Cmp.{first_so, second_so}
use Rattle.fl_marks.specs.declared.lock.Key.{Key}
use Rattle.fl_marks.specs.declared.lock.Kind.{Kind}
use Rattle.fl_marks.specs.declared.run.Run.{Run}
use Rattle.fl_marks.specs.Marking.{class_number, Marking, marking_of}
use Rattle.fl_marks.specs.Conflict.{kinds_conflict, mark_conflicts_by, owner_conflicts, IsOwnerConflict, IsAfter}
use Rattle.fl_marks.specs.Conflict.{IsAtMost, IsLeastAfter}
use Rattle.fl_ranges.specs.Inside.RunList.{run_conflicts, AreApart}
use Rattle.fl_ranges.specs.Setting.{meant}
use Rattle.fl_ranges.specs.Inside.Owners.{is_after, is_less, least_with, least_from}
use Rattle.fl_ranges.proofs.Markings.{spots_total, exact_spots, same_class}
use Rattle.fl_ranges.proofs.Entries.{any_entry, entry_passes}
use Rattle.fl_ranges.proofs.ConflictWords.{parts, all_parts}
use Rattle.fl_ranges.proofs.Conflicting.{runs_conflict}

-- ---- in words

pub owner_conflict_words : (m : Marking) (key : Key) (start end : ℕ) (kind : Kind) (owner : ℕ) →
    (owner_conflicts m key start end kind owner ≡ true) ↔ IsOwnerConflict m key start end kind owner
owner_conflict_words m key start end kind owner = (
  λ h.
      let e = any_entry spots_total (mark_conflicts_by key start end kind owner) m h in
      let t = parts (class_number key.class) (class_number e.0.0.class) key.node e.0.0.node key.owner e.0.0.owner start e.0.1 end (kinds_conflict kind e.1.kind)
      (second_so (e.0.0.owner == owner) _ e.3) in
      record {
        conflict = record {
          contender = e.0.0;
          byte = e.0.1;
          mark = e.1;
          held = e.2;
          class = sym (same_class key.class e.0.0.class t.class);
          node = sym t.node;
          other = λ same. t.other (sym same);
          from = t.from;
          upto = t.upto;
          write = t.write;
        };
        of = eqb-true e.0.0.owner owner (first_so (e.0.0.owner == owner) _ e.3);
      },
  λ w.
      let c = w.conflict in
      entry_passes spots_total exact_spots (mark_conflicts_by key start end kind owner) m (c.contender, c.byte) c.mark c.held
      (and_from _ _ (eq-eqb c.contender.owner owner w.of)
      (all_parts (class_number key.class) (class_number c.contender.class) key.node c.contender.node key.owner c.contender.owner
      start c.byte end (kinds_conflict kind c.mark.kind)
      (ap class_number (sym c.class)) (sym c.node) (λ same. c.other (sym same)) c.from c.upto c.write)),
)

-- an owner never conflicts with its own request
pub never_own : (m : Marking) (key : Key) (start end : ℕ) (kind : Kind) → owner_conflicts m key start end kind key.owner ≡ false
never_own m key start end kind =
    false_from_ne_true (owner_conflicts m key start end kind key.owner)
    (λ h. let w = (owner_conflict_words m key start end kind key.owner).0 h in w.conflict.other w.of)

-- ---- among runs

is_after_words : (after : Option ℕ) (owner : ℕ) → IsAfter after owner → is_after after owner ≡ true
is_after_words None owner h = refl
is_after_words (Some given) owner h = grind (arith, nat_tests)

words_is_after : (after : Option ℕ) (owner : ℕ) → is_after after owner ≡ true → IsAfter after owner
words_is_after None owner h = tt
words_is_after (Some given) owner h = grind (arith, nat_tests)

at_most_least : (least : Option ℕ) (o : ℕ) → is_less least o ≡ false → IsAtMost least o
at_most_least None o e = absurd (cc e)
at_most_least (Some l) o e = grind (arith, nat_tests)

less_at_most : (least : Option ℕ) (x o : ℕ) → is_less least x ≡ true → IsAtMost least o → x ≤ o
less_at_most None x o e h = absurd h
less_at_most (Some l) x o e h = grind (arith, nat_tests)

same_some : (x y : ℕ) → ◌≡◌ {A = Option ℕ} (Some x) (Some y) → x ≡ y
same_some x y e = cc e

module _ (key : Key) (start end : ℕ) (kind : Kind) (after : Option ℕ) where
  -- a run of this owner conflicts with the lock
  abbrev Has : ℕ → List Run → Type 0
  Has o rs = list_any (λ r. (r.key.owner == o) && run_conflicts key start end kind r) rs ≡ true

  -- an owner that is found was the least so far, or has a run that conflicts with the lock
  found : (rs : List Run) (least : Option ℕ) (o : ℕ) → least_from key start end kind after least rs ≡ Some o →
      (least ≡ Some o) ⊎ ((is_after after o ≡ true) × Has o rs)
  found [] least o e = inl e
  found (r ∷ rs) least o e = later (found rs (least_with key start end kind after least r) o e)
    where
      here : (b : Bool) → (run_conflicts key start end kind r && (is_after after r.key.owner && is_less least r.key.owner)) ≡ b →
          cond b (Some r.key.owner) least ≡ Some o → (least ≡ Some o) ⊎ ((is_after after o ≡ true) × Has o (r ∷ rs))
      here true is e =
          let same = same_some r.key.owner o e in
          inr (
            subst (λ x. is_after after x ≡ true) same
                (first_so (is_after after r.key.owner) (is_less least r.key.owner) (second_so (run_conflicts key start end kind r) _ is)),
            or_left _ _ (and_from _ _ (eq-eqb r.key.owner o same) (first_so (run_conflicts key start end kind r) _ is)),
          )
      here false is e = inl e

      later : (least_with key start end kind after least r ≡ Some o) ⊎ ((is_after after o ≡ true) × Has o rs) →
          (least ≡ Some o) ⊎ ((is_after after o ≡ true) × Has o (r ∷ rs))
      later (inl e) = here _ refl e
      later (inr h) = inr (h.0, or_right _ _ h.1)

  -- it only gets less
  lower : (rs : List Run) (least : Option ℕ) (o : ℕ) → IsAtMost least o → IsAtMost (least_from key start end kind after least rs) o
  lower [] least o h = h
  lower (r ∷ rs) least o h = lower rs (least_with key start end kind after least r) o (go _ refl)
    where
      go : (b : Bool) → (run_conflicts key start end kind r && (is_after after r.key.owner && is_less least r.key.owner)) ≡ b →
          IsAtMost (cond b (Some r.key.owner) least) o
      go true is = less_at_most least r.key.owner o (second_so (is_after after r.key.owner) _ (second_so (run_conflicts key start end kind r) _ is)) h
      go false is = h

  -- and isn't greater than an owner that has such a run
  reached : (rs : List Run) (least : Option ℕ) (o : ℕ) → is_after after o ≡ true → Has o rs → IsAtMost (least_from key start end kind after least rs) o
  reached [] least o past any = absurd (cc any)
  reached (r ∷ rs) least o past any = go _ refl any (reached rs (least_with key start end kind after least r) o past)
    where
      here : (b : Bool) → (run_conflicts key start end kind r && (is_after after r.key.owner && is_less least r.key.owner)) ≡ b → r.key.owner ≡ o →
          run_conflicts key start end kind r ≡ true → IsAtMost (cond b (Some r.key.owner) least) o
      here true is same in_conflict = omega (arith, same)
      here false is same in_conflict =
          let rest : (is_after after r.key.owner && is_less least r.key.owner) ≡ false =
          ap (λ b. b && (is_after after r.key.owner && is_less least r.key.owner)) (sym in_conflict) ∙ is in
          let more : is_less least r.key.owner ≡ false = ap (λ b. b && is_less least r.key.owner) (sym (ap (is_after after) same ∙ past)) ∙ rest in
          subst (IsAtMost least) same (at_most_least least r.key.owner more)

      go : (b : Bool) → ((r.key.owner == o) && run_conflicts key start end kind r) ≡ b →
          (b || list_any (λ x. (x.key.owner == o) && run_conflicts key start end kind x) rs) ≡ true
          → (Has o rs → IsAtMost (least_from key start end kind after least (r ∷ rs)) o) → IsAtMost (least_from key start end kind after least (r ∷ rs)) o
      go true is any rest =
          lower rs (least_with key start end kind after least r) o
          (here _ refl (eqb-true r.key.owner o (first_so (r.key.owner == o) _ is)) (second_so (r.key.owner == o) _ is))
      go false is any rest = rest any

  -- ---- in a table

  -- what a walk found, in the words of a call
  pub least_found : (rs : List Run) → AreApart rs → start ≤ end → (told : Option ℕ) → told ≡ least_from key start end kind after None rs
      → (m : Marking) → marking_of (map meant rs) ≡ m → IsLeastAfter m key start end kind after told
  least_found rs apart range told is m meaning =
      let conflict : (o : ℕ) → list_any (λ r. (r.key.owner == o) && run_conflicts key start end kind r) rs ≡ owner_conflicts m key start end kind o =
      λ o. runs_conflict (λ x. x == o) key start end kind rs range apart ∙ ap (λ (n : Marking). owner_conflicts n key start end kind o) meaning in
      record {
        itself = λ o e. itself o (found rs None o (sym is ∙ e)) conflict;
        least = λ o past c. subst (λ (w : Option ℕ). IsAtMost w o) (sym is)
            (reached rs None o (is_after_words after o past) (conflict o ∙ c));
      }
    where
      itself : (o : ℕ) → (◌≡◌ {A = Option ℕ} None (Some o)) ⊎ ((is_after after o ≡ true) × Has o rs) →
          ((x : ℕ) → list_any (λ r. (r.key.owner == x) && run_conflicts key start end kind r) rs ≡ owner_conflicts m key start end kind x)
          → IsAfter after o × (owner_conflicts m key start end kind o ≡ true)
      itself o (inl e) conflict = absurd (cc e)
      itself o (inr h) conflict = (words_is_after after o h.0, sym (conflict o) ∙ h.1)
