-- Lines of a piece that has to go on from the end of another, one more at a time.
use Rattle.std.proofs.Common.{◌≡◌, ◌≢◌, ℕ, ◌≤◌, Bool, true, false, Option, Some, None, List, [], ◌∷◌, ◌++◌, length}
use Rattle.std.proofs.Common.{refl, ap, sym, ◌∙◌, subst, arith, append-nil, append_assoc, length-append}
use Rattle.fl_audit.specs.Inside.Rowing.{IsBreak, IsBroken, IsFit}
use Rattle.fl_audit.specs.Inside.Seams.{HeadTells, IsGoing, StopsAt, first, told, GoesOrStops}
use Rattle.fl_audit.specs.Pieces.{End, BeginsAt, Tells, at_first, at_head, at_line}
use Rattle.fl_core.specs.State.{Snapshot, snapshot_of}
use Rattle.fl_core.specs.Step.{replies_in}
use Rattle.fl_counter.specs.Answered.{step_lines}
use Rattle.fl_desk.specs.Heads.{begun_lines, head_lines, IsHead}
use Rattle.fl_desk.specs.Legal.{IsLegal, nothing, headed, step}
use Rattle.fl_desk.specs.Replay.{state_after}
use Rattle.fl_history.specs.declared.history.Line.{Line}
use Rattle.fl_history.specs.declared.history.Line.TheVariants as line
use Rattle.fl_judge.specs.Verdicts.{DiffersAt}
use Rattle.fl_order.specs.declared.order.Order.{Order}
use Rattle.fl_order.specs.declared.state_part.Head.{Head}
use Rattle.fl_order.specs.declared.state_part.StateLine.TheVariants as state
use Rattle.fl_state.specs.Same.{HaveSame}
use Rattle.fl_waiting.specs.declared.rules.Rules.{Rules}

-- ---- lists with one more

pub data Ends {A : Type 0} (xs : List A) : Type 0 where
  none : xs ≡ [] → Ends xs
  last : (front : List A) (x : A) → xs ≡ front ++ x ∷ [] → Ends xs

pub ends : {A : Type 0} (xs : List A) → Ends xs
ends [] = none refl
ends (x ∷ xs) = go (ends xs)
  where
    go : Ends xs → Ends (x ∷ xs)
    go (none e) = last [] x (ap (λ l. x ∷ l) e)
    go (last front y e) = last (x ∷ front) y (ap (λ l. x ∷ l) e)

pub same_front : {A : Type 0} (xs ys : List A) (x y : A) → xs ++ x ∷ [] ≡ ys ++ y ∷ [] → xs ≡ ys
same_front [] [] x y e = refl
same_front [] (z ∷ ys) x y e = absurd (none_behind ys y (cc e))
  where
    none_behind : {A : Type 0} (ys : List A) (y : A) → [] ≡ ys ++ y ∷ [] → ⊥
    none_behind [] y e = cc e
    none_behind (z ∷ ys) y e = cc e
same_front (z ∷ xs) [] x y e = absurd (none_behind xs x (cc e))
  where
    none_behind : {A : Type 0} (ys : List A) (y : A) → ys ++ y ∷ [] ≡ [] → ⊥
    none_behind [] y e = cc e
    none_behind (z ∷ ys) y e = cc e
same_front (z ∷ xs) (w ∷ ys) x y e =
    let rest = same_front xs ys x y (cc e) in
    let head : z ≡ w = cc e in
    λ i. head i ∷ rest i

-- ---- one line more

some_lines : (lines : List Line) (l : Line) → lines ++ l ∷ [] ≢ []
some_lines [] l e = cc e
some_lines (x ∷ lines) l e = cc e

begins_more : (end : End) (lines : List Line) (l : Line) → BeginsAt end lines → BeginsAt end (lines ++ l ∷ [])
begins_more end lines l b = record {
  head = b.head;
  rest = b.rest ++ l ∷ [];
  first = ap (λ ls. ls ++ l ∷ []) b.first;
  lines = b.lines;
  node = b.node;
  fh = b.fh;
}

begins_less : (end : End) (lines : List Line) (l : Line) → lines ≢ [] → BeginsAt end (lines ++ l ∷ []) → BeginsAt end lines
begins_less end [] l some b = absurd (some refl)
begins_less end (x ∷ lines) l some b =
    let is : x ≡ line.State (state.Head b.head) = cc b.first in
    record { head = b.head; rest = lines; first = ap (λ y. y ∷ lines) is; lines = b.lines; node = b.node; fh = b.fh }

-- a head with more than all but the last line is all lines
heads_more : (rules : Rules) (end : End) (lines : List Line) (l : Line) → HeadTells rules end lines
    → (IsHead rules (lines ++ l ∷ []) → Tells rules end (lines ++ l ∷ [])) → HeadTells rules end (lines ++ l ∷ [])
heads_more rules end lines l before own head rest is h = go (ends rest)
  where
    go : Ends rest → Tells rules end head
    go (none e) =
        let all : lines ++ l ∷ [] ≡ head = is ∙ ap (λ r. head ++ r) e ∙ append-nil head in
        subst (Tells rules end) all (own (subst (IsHead rules) (sym all) h))
    go (last front x e) =
        before head front (same_front lines (head ++ front) l x (is ∙ ap (λ r. head ++ r) e ∙ sym (append_assoc head front (x ∷ [])))) h

pub stops_more : (rules : Rules) (end : End) (lines : List Line) (l : Line) (n : ℕ) → StopsAt rules end lines n → StopsAt rules end (lines ++ l ∷ []) n
stops_more rules end lines l n (first one some other) =
    first one (some_lines lines l) (λ b. other (begins_less end lines l some b))
stops_more rules end lines l n (told b head rest is h at other) =
    told (begins_more end lines l b) head (rest ++ l ∷ []) (ap (λ ls. ls ++ l ∷ []) is ∙ append_assoc head rest (l ∷ [])) h at other

-- ---- whether they go on

-- a head has two lines at least
two_lines : (rules : Rules) (head : List Line) → IsHead rules head → 2 ≤ length head
two_lines rules head h =
    let all : length head ≡ length (head_lines h.head h.parts) = ap length h.spelled in
    let long = length-append (begun_lines h.head h.parts) (line.State state.Go ∷ []) in
    omega (arith, all, long)

-- a first line
pub first_line : (rules : Rules) (end : End) (all lines : List Line) (l : Line) (b : Bool) → all ≡ lines ++ l ∷ [] → length all ≡ 1 → IsGoing rules end lines
    → (b ≡ true → BeginsAt end (l ∷ [])) × (BeginsAt end (l ∷ []) → b ≡ true) → GoesOrStops rules end all b
first_line rules end all (x ∷ lines) l b is one going begins =
    absurd (let long = ap length is in let more = length-append lines (l ∷ []) in omega (arith, one, long, more))
first_line rules end all [] l true is one going begins = record {
  begins = λ _. subst (BeginsAt end) (sym is) (begins.0 refl);
  tells = λ head rest parts h. absurd
      (let two = two_lines rules head h in let long = ap length parts in let both = length-append head rest in omega (arith, one, two, long, both));
}
first_line rules end all [] l false is one going begins =
    first one (λ e. cc (sym is ∙ e)) (λ b. cc (begins.1 (subst (BeginsAt end) is b)))

-- another line, behind which no head is whole
pub plain_line : (rules : Rules) (end : End) (all lines : List Line) (l : Line) → all ≡ lines ++ l ∷ [] → length all ≢ 1 → IsGoing rules end lines
    → (IsHead rules all → ⊥) → IsGoing rules end all
plain_line rules end all lines l is more going no_head = subst (IsGoing rules end) (sym is) (record {
  begins = λ _. begins_more end lines l (going.begins (λ e. more (ap length is ∙ ap (λ ls. length (ls ++ l ∷ [])) e)));
  tells = heads_more rules end lines l going.tells (λ h. absurd (no_head (subst (IsHead rules) (sym is) h)));
})

-- another line, behind which one is
pub head_line : (rules : Rules) (end : End) (all lines : List Line) (l : Line) (core : Snapshot) (b : Bool) → all ≡ lines ++ l ∷ [] → length all ≢ 1
    → IsGoing rules end lines → IsHead rules all → core ≡ snapshot_of (state_after rules all) → (state_after rules all).rules ≡ rules
    → (b ≡ true → end.present.rules ≡ core.rules → end.present ≡ core)
    → (b ≡ true → HaveSame end.present core) × (HaveSame end.present core → b ≡ true) → GoesOrStops rules end all b
head_line rules end all lines l core true is more going h there own equal same = subst (IsGoing rules end) (sym is) (record {
  begins = λ _. begins_more end lines l (going.begins (λ e. more (ap length is ∙ ap (λ ls. length (ls ++ l ∷ [])) e)));
  tells = heads_more rules end lines l going.tells (λ _. subst (Tells rules end) is (record {
    same = subst (HaveSame end.present) there (same.0 refl);
    equal = λ e. equal refl (e ∙ sym own ∙ ap (λ (p : Snapshot). p.rules) (sym there)) ∙ there;
  }));
})
head_line rules end all lines l core false is more going h there own equal same =
    told (subst (BeginsAt end) (sym is) (begins_more end lines l (going.begins (λ e. more (ap length is ∙ ap (λ ls. length (ls ++ l ∷ [])) e)))))
    all [] (sym (append-nil all)) h refl (λ tells. cc (same.1 (subst (HaveSame end.present) (sym there) tells.same)))

pub follows : (rules : Rules) (end : End) (all lines : List Line) (l : Line) (n : ℕ) → all ≡ lines ++ l ∷ [] → StopsAt rules end lines n → StopsAt rules end all n
follows rules end all lines l n is stops = subst (λ ls. StopsAt rules end ls n) (sym is) (stops_more rules end lines l n stops)

-- ---- a whole piece

-- an order, and what it is answered there
abbrev asked_lines : Rules → List Line → ℕ → Order → List Line
asked_lines rules before worker order = step_lines worker order (replies_in (state_after rules before) order)

-- a legal history that begins with a line of a head begins with a whole one
record BeginsWhole (rules : Rules) (lines : List Line) : Type 0 where
  pub head : List Line
  pub rest : List Line
  pub parts : lines ≡ head ++ rest
  pub is_head : IsHead rules head

whole_head : (rules : Rules) (lines : List Line) (h : Head) (rest : List Line) → IsLegal rules lines → lines ≡ line.State (state.Head h) ∷ rest
    → BeginsWhole rules lines
whole_head rules lines h rest nothing is = absurd (cc is)
whole_head rules lines h rest (headed head) is = record { head = lines; rest = []; parts = sym (append-nil lines); is_head = head }
whole_head rules lines h rest (step [] worker order legal e) is = absurd (cc (sym e ∙ is))
whole_head rules lines h rest (step (b ∷ before) worker order legal e) is =
    let same : b ≡ line.State (state.Head h) = cc (sym e ∙ is) in
    let w = whole_head rules (b ∷ before) h before legal (ap (λ x. x ∷ before) same) in
    record {
      head = w.head;
      rest = w.rest ++ asked_lines rules (b ∷ before) worker order;
      parts = e ∙ ap (λ ls. ls ++ asked_lines rules (b ∷ before) worker order) w.parts
          ∙ append_assoc w.head w.rest (asked_lines rules (b ∷ before) worker order);
      is_head = w.is_head;
    }

goes_on : (rules : Rules) (end : End) (lines : List Line) → IsLegal rules lines → lines ≢ [] → IsGoing rules end lines → IsFit rules (Some end) lines
goes_on rules end lines legal some going =
    let begins = going.begins some in
    let w = whole_head rules lines begins.head begins.rest legal begins.first in
    record {
      legal = legal;
      begins = begins;
      head = w.head;
      rest = w.rest;
      parts = w.parts;
      is_head = w.is_head;
      tells = going.tells w.head w.rest w.parts w.is_head;
    }

breaks_empty : (rules : Rules) (end : End) (lines : List Line) → lines ≡ [] → IsBroken rules (Some end) lines 1
breaks_empty rules end lines is = at_first refl (λ b. cc (sym is ∙ b.first))

pub breaks_seam : (rules : Rules) (end : End) (lines : List Line) (n : ℕ) → StopsAt rules end lines n → IsBroken rules (Some end) lines n
breaks_seam rules end lines n (first one some other) = at_first one other
breaks_seam rules end lines n (told b head rest is h at other) = at_head b head rest is h at other

breaks_rules : (rules : Rules) (end : End) (lines : List Line) (n : ℕ) → lines ≢ [] → IsGoing rules end lines → DiffersAt rules lines n
    → IsBroken rules (Some end) lines n
breaks_rules rules end lines n some going differs = at_line (going.begins some) going.tells differs

no_lines : (lines : List Line) → length lines ≡ 0 → lines ≡ []
no_lines [] is = refl
no_lines (l ∷ lines) is = absurd (omega (arith, is))

-- no line is heard
pub break_empty : (rules : Rules) (end : End) (lines : List Line) → length lines ≡ 0 → IsBreak rules (Some end) lines (Some 1)
break_empty rules end lines is = breaks_empty rules end lines (no_lines lines is)

-- all lines go on from the end, as far as they are legal
pub break_going : (rules : Rules) (end : End) (lines : List Line) (o : Option ℕ) → length lines ≢ 0 → IsGoing rules end lines → IsBreak rules None lines o
    → IsBreak rules (Some end) lines o
break_going rules end lines None some going legal = goes_on rules end lines legal (λ e. some (ap length e)) going
break_going rules end lines (Some n) some going differs = breaks_rules rules end lines n (λ e. some (ap length e)) going differs
