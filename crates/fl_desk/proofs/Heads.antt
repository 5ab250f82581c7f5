-- What a head leads to, and how a history with a head goes on.
use Rattle.std.proofs.Common.{◌≡◌, ℕ, ◌<◌, ◌⊎◌, inl, inr, Bool, true, false, None, List, [], ◌∷◌, ◌++◌, map, append_assoc, refl}
use Rattle.std.proofs.Common.{append-nil, ap, sym, ◌∙◌, subst}
use Rattle.std.proofs.lemmas.List.{map-append}
use Rattle.std.specs.List.{fold, AllByRecursion}
use Rattle.fl_core.specs.Restored.{Part, begun, told_part, fits}
use Rattle.fl_core.specs.State.{State, snapshot_of}
use Rattle.fl_desk.specs.Heads.{IsHead, IsToldBy, begun_lines, head_lines, NamesRules}
use Rattle.fl_desk.specs.Leading.{LeadsTo, GoesOnTelling, more, whole}
use Rattle.fl_desk.specs.Legal.{IsLegal, nothing, headed, step}
use Rattle.fl_desk.specs.Replay.{read_line, state_at_end, state_after}
use Rattle.fl_desk.proofs.Givens.{front_of, front_begun, has_front}
use Rattle.fl_desk.proofs.Histories.{rules_stay}
use Rattle.fl_history.specs.declared.history.Line.{Line}
use Rattle.fl_history.specs.declared.history.Line.TheVariants as line
use Rattle.fl_order.specs.declared.state_part.Head.{Head}
use Rattle.fl_order.specs.declared.state_part.StateLine.{StateLine}
use Rattle.fl_order.specs.declared.state_part.StateLine.TheVariants as state
use Rattle.fl_order.specs.declared.state_part.StatePart.{StatePart}
use Rattle.fl_state.specs.Parts.{part_of}
use Rattle.fl_state.specs.Telling.{AreTold, none, one, IsFit, told_by}
use Rattle.fl_waiting.specs.declared.rules.Rules.{Rules}

abbrev part_lines : List StatePart → List Line
part_lines parts = map (λ part. line.State (state.Part part)) parts

-- ---- what a head leads to

read_parts : (parts : List StatePart) (s : State)
    → state_at_end (fold read_line (record { state = s; waiting = None }) (part_lines parts ++ line.State state.Go ∷ []))
    ≡ fold (λ s part. told_part part s) s (map part_of parts)
read_parts [] s = refl
read_parts (part ∷ parts) s = read_parts parts (told_part (part_of part) s)

-- the state after a head
abbrev pub told : Rules → Head → List StatePart → State
told rules head parts = told_by rules head.node head.fh (map part_of parts)

pub read_head : (rules : Rules) (head : Head) (parts : List StatePart) → state_after rules (head_lines head parts) ≡ told rules head parts
read_head rules head parts = read_parts parts (begun rules head.node head.fh)

pub head_leads : (rules : Rules) (head : Head) (parts : List StatePart) → IsToldBy rules head parts → IsFit (snapshot_of (told rules head parts))
    → LeadsTo (head_lines head parts) (snapshot_of (told rules head parts))
head_leads rules head parts told_so fit =
    let lines = head_lines head parts in
    let same : (told rules head parts).rules ≡ rules = ap (λ (s : State). s.rules) (sym (read_head rules head parts)) ∙ rules_stay rules lines in
    record {
      legal = subst (λ r. IsLegal r lines) (sym same)
          (headed (record { head = head; parts = parts; spelled = refl; told = told_so }));
      stands = ap snapshot_of (sym (read_head rules head parts)) ∙ ap (λ r. snapshot_of (state_after r lines)) (sym same);
      waiting = fit.waiting;
      apart = fit.apart;
      lawful = fit.lawful;
    }

-- ---- a legal history that begins with a line of a head begins with a whole one

pub same_tail : {A : Type 0} {x y : A} {xs ys : List A} → x ∷ xs ≡ y ∷ ys → xs ≡ ys
same_tail e = cc e

-- its first line
abbrev pub IsFirst : Rules → StateLine → Type 0
IsFirst rules first = (head : Head) × (first ≡ state.Head head) × NamesRules head rules × (1 < head.node) × (0 < head.fh)

pub begins : (rules : Rules) (first : StateLine) (rest : List Line) → IsLegal rules (line.State first ∷ rest) → IsFirst rules first
unfolding front_of
begins rules first rest legal = go (has_front rules legal)
  where
    go : (line.State first ∷ front_of rest ≡ []) ⊎ IsHead rules (line.State first ∷ front_of rest) → IsFirst rules first
    go (inl e) = absurd (cc e)
    go (inr h) = (h.head, cc (h.spelled), h.told.under, h.told.node, h.told.fh)

-- ---- how it goes on

-- a part fits what those before it tell
pub record Telling : Type 0 where
  pub each : (rules : Rules) (node fh : ℕ) (front rest : List Part) (part : Part) → AreTold rules node fh (front ++ part ∷ rest)
      → fits (snapshot_of (told_by rules node fh front)) part ≡ true

module _ (telling : Telling) where
  front_told : (rules : Rules) (node fh : ℕ) (before parts rest : List Part) → AreTold rules node fh before
      → AreTold rules node fh (before ++ (parts ++ rest)) → AreTold rules node fh (before ++ parts)
  front_told rules node fh before [] rest so all = subst (AreTold rules node fh) (sym (append-nil before)) so
  front_told rules node fh before (part ∷ parts) rest so all =
      subst (AreTold rules node fh) (append_assoc before (part ∷ []) parts)
      (front_told rules node fh (before ++ part ∷ []) parts rest
      (one before part so (telling.each rules node fh before (parts ++ rest) part all) refl)
      (subst (AreTold rules node fh) (sym (append_assoc before (part ∷ []) (parts ++ rest))) all))

  -- the first parts of a head can be told
  told_first : (rules : Rules) (head : Head) (parts rest : List StatePart) → IsToldBy rules head (parts ++ rest) → IsToldBy rules head parts
  told_first rules head parts rest all = record {
    under = all.under;
    node = all.node;
    fh = all.fh;
    fit = front_told rules head.node head.fh [] (map part_of parts) (map part_of rest) none
        (subst (AreTold rules head.node head.fh) (map-append part_of parts rest) all.fit);
  }

  -- these parts of a head are followed by its end, or by one more part
  abbrev Follows : List StatePart → List StatePart → List Line → Type 0
  Follows parts all rest =
      ((rest ≡ line.State state.Go ∷ []) × (all ≡ parts))
      ⊎ ((part : StatePart) × (after : List StatePart) × (lines : List Line)
      × (rest ≡ line.State (state.Part part) ∷ lines) × (all ≡ (parts ++ part ∷ []) ++ after))

  follows : (parts all : List StatePart) (rest : List Line) → part_lines parts ++ rest ≡ part_lines all ++ line.State state.Go ∷ []
      → Follows parts all rest
  follows [] [] rest e = inl (e, refl)
  follows [] (part ∷ all) rest e = inr (part, all, _, e, refl)
  follows (part ∷ parts) [] rest e = absurd (cc e)
  follows (part ∷ parts) (other ∷ all) rest e = go (cc e) (follows parts all rest (same_tail e))
    where
      go : other ≡ part → Follows parts all rest → Follows (part ∷ parts) (other ∷ all) rest
      go same (inl f) = inl (f.0, λ i. same i ∷ f.1 i)
      go same (inr f) = inr (f.0, f.1, f.2, f.3, λ i. same i ∷ f.4 i)

  -- so lines behind them begin with it
  goes_on_so : (rules : Rules) (head : Head) (parts all : List StatePart) (rest : List Line) → IsToldBy rules head all
      → Follows parts all (front_of rest) → GoesOnTelling rules head parts rest
  unfolding front_of
  goes_on_so rules head parts all [] so (inl f) = absurd (cc (f.0))
  goes_on_so rules head parts all [] so (inr f) = absurd (cc (f.3))
  goes_on_so rules head parts all (line.Asked worker order ∷ rest) so (inl f) = absurd (cc (f.0))
  goes_on_so rules head parts all (line.Asked worker order ∷ rest) so (inr f) = absurd (cc (f.3))
  goes_on_so rules head parts all (line.Told told ∷ rest) so (inl f) = absurd (cc (f.0))
  goes_on_so rules head parts all (line.Told told ∷ rest) so (inr f) = absurd (cc (f.3))
  goes_on_so rules head parts all (line.State s ∷ rest) so (inl f) =
      let same : line.State s ≡ line.State state.Go = cc (f.0) in
      whole rest (ap (λ l. l ∷ rest) same) (subst (IsToldBy rules head) f.1 so)
  goes_on_so rules head parts all (line.State s ∷ rest) so (inr f) =
      let same : line.State s ≡ line.State (state.Part f.0) = cc (f.3) in
      more f.0 rest (ap (λ l. l ∷ rest) same)
      (told_first rules head (parts ++ f.0 ∷ []) f.1 (subst (IsToldBy rules head) f.4 so))

  pub goes_on_telling : (rules : Rules) (head : Head) (parts : List StatePart) (rest : List Line) → IsLegal rules (begun_lines head parts ++ rest)
      → GoesOnTelling rules head parts rest
  goes_on_telling rules head parts rest legal =
      go (subst (λ l. (l ≡ []) ⊎ IsHead rules l) (front_begun head parts rest) (has_front rules legal))
    where
      go : (begun_lines head parts ++ front_of rest ≡ []) ⊎ IsHead rules (begun_lines head parts ++ front_of rest)
          → GoesOnTelling rules head parts rest
      go (inl e) = absurd (cc e)
      go (inr h) =
          let same : h.head ≡ head = cc (h.spelled) in
          goes_on_so rules head parts h.parts rest (subst (λ a. IsToldBy rules a h.parts) same h.told)
          (follows parts h.parts (front_of rest) (same_tail h.spelled))

-- ---- no head comes later

-- a line of a head, but not its end
abbrev is_open : Line → Bool
is_open (line.State (state.Head head)) = true
is_open (line.State (state.Part part)) = true
is_open _ = false

abbrev pub AreOpen : List Line → Type 0
AreOpen lines = AllByRecursion (λ l. is_open l ≡ true) lines

open_parts : (parts : List StatePart) → AreOpen (part_lines parts)
open_parts [] = tt
open_parts (part ∷ parts) = (refl, open_parts parts)

-- all that stands before the last line is open
open_front : (lines xs rest : List Line) (last x : Line) → AreOpen lines → lines ++ last ∷ [] ≡ xs ++ x ∷ rest → AreOpen xs
open_front lines [] rest last x all e = tt
open_front [] (y ∷ []) rest last x all e = absurd (cc e)
open_front [] (y ∷ z ∷ xs) rest last x all e = absurd (cc e)
open_front (l ∷ lines) (y ∷ xs) rest last x all e =
    let same : l ≡ y = cc e in
    (subst (λ t. is_open t ≡ true) same all.0, open_front lines xs rest last x all.1 (same_tail e))

-- so it is in a head
pub open_before : (head : Head) (parts : List StatePart) (xs rest : List Line) (x : Line) → head_lines head parts ≡ xs ++ x ∷ rest → AreOpen xs
open_before head parts xs rest x e = open_front (begun_lines head parts) xs rest (line.State state.Go) x (refl, open_parts parts) e

open_at : (xs rest : List Line) (x : Line) → AreOpen (xs ++ x ∷ rest) → is_open x ≡ true
open_at [] rest x all = all.0
open_at (y ∷ xs) rest x all = open_at xs rest x all.1

-- a legal history isn't open
pub is_closed : (rules : Rules) {lines : List Line} → IsLegal rules lines → AreOpen lines → lines ≡ []
is_closed rules nothing all = refl
is_closed rules (headed h) all = absurd (cc (open_at (begun_lines h.head h.parts) [] (line.State state.Go) (subst AreOpen h.spelled all)))
is_closed rules (step before worker order legal e) all = absurd (cc (open_at before _ (line.Asked worker order) (subst AreOpen e all)))
