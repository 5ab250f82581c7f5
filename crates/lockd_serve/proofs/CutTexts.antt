-- What is read of a text that was cut off.
use Rattle.std.proofs.Common.{◌≡◌, ◌⊎◌, inl, inr, ℕ, suc, ◌+◌, ◌-◌, ◌^◌, ◌<◌, ◌≤◌, min, Bool, true, false, ◌||◌, ◌==◌, ◌↔◌, cond, if◌then◌else◌}
use Rattle.std.proofs.Common.{List, [], ◌∷◌, ◌++◌, Option}
use Rattle.std.proofs.Common.{length, map, refl, ap, sym, ◌∙◌, subst, arith, append_assoc, append-nil, length-append}
use Rattle.std.proofs.lemmas.Bool.{cases_lt, ne_eqb}
use Rattle.std.proofs.lemmas.List.{append_cancel_left}
use Rattle.std.proofs.lemmas.List.Elements.{All-head, All-tail, All-cons, All-nil}
use Rattle.std.proofs.lemmas.List.Folds.{list_any-append}
use Rattle.std.proofs.lemmas.List.Sums.{sum_by-cons}
use Rattle.std.specs.List.{fold}
use Rattle.std.specs.Str.Iter.{LacksByte}
use mathlib.Core.List.{IsPrefix}
use Rattle.fl_history.specs.declared.history.Line.{Line}
use Rattle.fl_audit.specs.Audit.{has_newline, whole_lines}
use Rattle.fl_history.specs.declared.history.Line.TheVariants as line
use Rattle.fl_audit.specs.First.{AreWholeLines}
use Rattle.fl_history.specs.Place.{nowhere, place_of, with_place}
use Rattle.fl_history.specs.Recent.{spoken}
use Rattle.fl_history.specs.declared.place.Place.{Place}
use Rattle.fl_desk.specs.Legal.{HasNoHead, IsLegal, IsLegalFromNothing, is_state}
use Rattle.fl_order.specs.declared.state_part.StateLine.{StateLine}
use Rattle.fl_order.specs.declared.state_part.StateLine.TheVariants as state
use Rattle.fl_waiting.specs.declared.rules.Rules.{Rules}
use Rattle.lockd_faults.specs.declared.fault.CommandFault.{CommandFault}
use Rattle.lockd_faults.specs.declared.fault.CommandFault.TheVariants as command
use Rattle.lockd_resume.specs.Behind.{DiffersIn, FileSays, LacksLines}
use Rattle.lockd_resume.specs.Heard.{AreEnough, AreHeard, Earlier, Text}
use Rattle.fl_trace.specs.Text.{BreaksAt, line_text, text_of, Fits, LineFits}

-- what `fl_trace` says of the text of lines
abbrev pub AreApart : Type 0
AreApart = (lines others : List Line) → Fits lines → Fits others → text_of lines ≡ text_of others → lines ≡ others

abbrev pub LackNewlines : Type 0
LackNewlines = (line : Line) → LineFits line → LacksByte 10 (line_text line)

-- a line of a head isn't there
state_not : (s : StateLine) (lines : List Line) → HasNoHead (line.State s ∷ lines) → ⊥
state_not s lines none =
    let all = sum_by-cons (λ x. cond (is_state x) 1 0) (line.State s) lines in omega (arith, all, none)

-- lines without a head end as many orders and replies further on
ends_behind : (p : Place) (lines : List Line) → p.lines ≤ 2 ^ 64 - 1 → HasNoHead lines
    → (fold with_place p lines).lines ≡ min (p.lines + length (spoken lines)) (2 ^ 64 - 1)
ends_behind p [] few none = omega (arith, few)
ends_behind p (line.Asked worker order ∷ lines) few none =
    omega (arith, ends_behind (with_place p (line.Asked worker order)) lines (omega arith) none)
ends_behind p (line.Told told ∷ lines) few none =
    omega (arith, ends_behind (with_place p (line.Told told)) lines (omega arith) none)
ends_behind p (line.State s ∷ lines) few none = absurd (state_not s lines none)

enough_there : (lines : List Line) → HasNoHead lines → (length (spoken lines) < 65536) ⊎ (65536 ≤ length (spoken lines))
    → AreEnough (place_of lines) lines
enough_there lines none (inl few) = inr (omega (arith, few, ends_behind nowhere lines (omega arith) none))
enough_there lines none (inr many) = inl many

-- so they are enough
enough_alone : (lines : List Line) → HasNoHead lines → AreEnough (place_of lines) lines
enough_alone lines none = enough_there lines none (cases_lt (length (spoken lines)) 65536)

-- behind lines that are enough no piece is heard
never_more : (rules : Rules) (here : List Line) (text : Text) (pieces : List Text) (heard : Earlier)
    → AreEnough (place_of here) here → AreHeard rules here (text ∷ pieces) heard → ⊥
never_more rules here text [] heard enough (before, more) =
    more.1.lacks (subst (λ (b : Earlier). AreEnough (place_of here) (b.lines ++ here)) (sym more.0) enough)
never_more rules here text (t ∷ pieces) heard enough (before, more) = never_more rules here t pieces before enough more.0

none_heard : (rules : Rules) (here : List Line) (pieces : List Text) (heard : Earlier) → AreEnough (place_of here) here
    → AreHeard rules here pieces heard → heard.lines ≡ []
none_heard rules here [] heard enough are = ap (λ (b : Earlier). b.lines) are
none_heard rules here (text ∷ pieces) heard enough are = absurd (never_more rules here text pieces heard enough are)

-- ---- newlines

or_true : (x : Bool) → (x || true) ≡ true
or_true true = refl
or_true false = refl

lacks_none : (bs : List ℕ) → LacksByte 10 bs → has_newline bs ≡ false
lacks_none [] lacks = refl
lacks_none (b ∷ bs) lacks =
    let own : (b == 10) ≡ false = ne_eqb b 10 (lacks 0 (omega arith)) in
    λ i. own i || lacks_none bs (λ k below. lacks (suc k) (omega arith)) i

one_there : (xs ys : List ℕ) → has_newline (xs ++ 10 ∷ ys) ≡ true
one_there xs ys = list_any-append (λ b. b == 10) xs (10 ∷ ys) ∙ or_true (has_newline xs)

seam : (xs ys : List ℕ) → has_newline (xs ++ 10 ∷ ys) ≡ false → ⊥
seam xs ys none = let one = one_there xs ys in cc (one, none)

right_none : (x y : Bool) → (x || y) ≡ false → y ≡ false
right_none true y e = absurd (cc e)
right_none false y e = e

left_none : (x y : Bool) → (x || y) ≡ false → x ≡ false
left_none true y e = e
left_none false y e = refl

not_ten : (y : ℕ) (ys : List ℕ) → 10 ≡ y → has_newline (y ∷ ys) ≡ false → ⊥
not_ten y ys e none =
    let here : has_newline (10 ∷ ys) ≡ false = subst (λ z. has_newline (z ∷ ys) ≡ false) (sym e) none in
    cc here

-- what stands before the first newline is one
same_before : (xs ys more rest : List ℕ) → has_newline xs ≡ false → has_newline ys ≡ false
    → xs ++ 10 ∷ more ≡ ys ++ 10 ∷ rest → xs ≡ ys
same_before [] [] more rest none also e = refl
same_before [] (y ∷ ys) more rest none also e = absurd (not_ten y ys (cc e) also)
same_before (x ∷ xs) [] more rest none also e = absurd (not_ten x xs (sym (cc e)) none)
same_before (x ∷ xs) (y ∷ ys) more rest none also e =
    let head : x ≡ y = cc e in
    let tail : xs ++ 10 ∷ more ≡ ys ++ 10 ∷ rest = cc e in
    let same : xs ≡ ys = same_before xs ys more rest (right_none (x == 10) (has_newline xs) none)
    (right_none (y == 10) (has_newline ys) also) tail in
    λ i. head i ∷ same i

-- a front of bytes that have no newline has none
front_none : (xs ys : List ℕ) → has_newline (xs ++ ys) ≡ false → has_newline xs ≡ false
front_none [] ys none = refl
front_none (x ∷ xs) ys none = λ i. left_none (x == 10) (has_newline (xs ++ ys)) none i
    || front_none xs ys (right_none (x == 10) (has_newline (xs ++ ys)) none) i

whole_none : (xs : List ℕ) → has_newline xs ≡ false → whole_lines xs ≡ []
whole_none [] none = refl
whole_none (x ∷ xs) none = ap (λ h. if h then x ∷ whole_lines xs else []) none

whole_seam : (xs ys : List ℕ) → whole_lines (xs ++ 10 ∷ ys) ≡ xs ++ 10 ∷ whole_lines ys
whole_seam [] ys = refl
whole_seam (x ∷ xs) ys =
    ap (λ h. if h then x ∷ whole_lines (xs ++ 10 ∷ ys) else []) (one_there (x ∷ xs) ys)
    ∙ ap (λ t. x ∷ t) (whole_seam xs ys)

-- A text that begins one with a newline ends before it, or has it.
data EndsOrHas (text front rest : List ℕ) : Type 0 where
  ends : (more : List ℕ) → text ++ more ≡ front → EndsOrHas text front rest
  goes_on : (more : List ℕ) → text ≡ front ++ 10 ∷ more → IsPrefix more rest → EndsOrHas text front rest

one_more : (x : ℕ) (text front rest : List ℕ) → EndsOrHas text front rest → EndsOrHas (x ∷ text) (x ∷ front) rest
one_more x text front rest (ends more is) = ends more (ap (λ t. x ∷ t) is)
one_more x text front rest (goes_on more is begins) = goes_on more (ap (λ t. x ∷ t) is) begins

ends_or_has : (text front rest after : List ℕ) → text ++ after ≡ front ++ 10 ∷ rest → EndsOrHas text front rest
ends_or_has [] front rest after e = ends front refl
ends_or_has (x ∷ text) [] rest after e =
    let head : x ≡ 10 = cc e in
    let tail : text ++ after ≡ rest = cc e in
    goes_on text (λ i. head i ∷ text) (after, tail)
ends_or_has (x ∷ text) (y ∷ front) rest after e =
    let head : x ≡ y = cc e in
    let tail : text ++ after ≡ front ++ 10 ∷ rest = cc e in
    subst (λ z. EndsOrHas (x ∷ text) (z ∷ front) rest) head (one_more x text front rest (ends_or_has text front rest after tail))

-- ---- the first line of a text

module _ (apart : AreApart) (lacks : LackNewlines) where
  one_line : (line : Line) → LineFits line → Fits (line ∷ [])
  one_line line fits = All-cons LineFits line [] fits (All-nil LineFits)

  behind_line : (line : Line) (lines : List Line) (rest : List ℕ)
      → text_of (line ∷ lines) ++ rest ≡ line_text line ++ 10 ∷ (text_of lines ++ rest)
  behind_line line lines rest = simp append_assoc

  first_same : (line other : Line) (more rest : List ℕ) → LineFits line → LineFits other
      → line_text line ++ 10 ∷ more ≡ line_text other ++ 10 ∷ rest → (line ≡ other) × (more ≡ rest)
  first_same line other more rest fits also e =
      let texts : line_text line ≡ line_text other =
      same_before (line_text line) (line_text other) more rest (lacks_none (line_text line) (lacks line fits))
      (lacks_none (line_text other) (lacks other also)) e in
      let lines : line ∷ [] ≡ other ∷ [] =
      apart (line ∷ []) (other ∷ []) (one_line line fits) (one_line other also) (λ i. (texts i ++ 10 ∷ []) ++ []) in
      let rests : 10 ∷ more ≡ 10 ∷ rest =
      append_cancel_left (line_text line) (10 ∷ more) (10 ∷ rest) (e ∙ ap (λ t. t ++ 10 ∷ rest) (sym texts)) in
      (cc, cc)

  -- lines whose text begins that of others are the first of them
  begin : (lines all : List Line) (rest : List ℕ) → Fits lines → Fits all → text_of lines ++ rest ≡ text_of all
      → IsPrefix lines all
  begin [] all rest fits also e = (all, refl)
  begin (line ∷ lines) [] rest fits also e =
      absurd (let n = ap length (sym (behind_line line lines rest) ∙ e) in omega (arith, length-append (line_text line) (10 ∷ (text_of lines ++ rest))))
  begin (line ∷ lines) (other ∷ all) rest fits also e =
      let first = first_same line other (text_of lines ++ rest) (text_of all ++ []) (All-head LineFits line lines fits)
      (All-head LineFits other all also)
      (sym (behind_line line lines rest) ∙ e ∙ sym (append-nil (text_of (other ∷ all))) ∙ behind_line other all []) in
      let more = begin lines all rest (All-tail LineFits line lines fits) (All-tail LineFits other all also)
      (first.1 ∙ append-nil (text_of all)) in
      (more.0, λ i. first.0 i ∷ more.1 i)

  -- and so are they if no newline follows the others
  among : (some read : List Line) (more rest : List ℕ) → Fits some → Fits read → has_newline rest ≡ false
      → text_of some ++ more ≡ text_of read ++ rest → IsPrefix some read
  among [] read more rest fits also none e = (read, refl)
  among (line ∷ some) [] more rest fits also none e =
      absurd (seam (line_text line) (text_of some ++ more)
      (subst (λ t. has_newline t ≡ false) (sym e ∙ behind_line line some more) none))
  among (line ∷ some) (other ∷ read) more rest fits also none e =
      let first = first_same line other (text_of some ++ more) (text_of read ++ rest) (All-head LineFits line some fits)
      (All-head LineFits other read also)
      (sym (behind_line line some more) ∙ e ∙ behind_line other read rest) in
      let further = among some read more rest (All-tail LineFits line some fits) (All-tail LineFits other read also) none first.1 in
      (further.0, λ i. first.0 i ∷ further.1 i)

  pub front : (text : List ℕ) (all read : List Line) (bytes : ℕ) → Fits all → IsPrefix text (text_of all)
      → AreWholeLines text read bytes → IsPrefix read all
  front text all read bytes fits cut is =
      begin read all (is.rest ++ cut.0) is.fits fits
      (sym (append_assoc (text_of read) is.rest cut.0) ∙ ap (λ t. t ++ cut.0) (sym is.parts) ∙ cut.1)

  pub has : (text : List ℕ) (some read : List Line) (bytes : ℕ) → Fits some → IsPrefix (text_of some) text
      → AreWholeLines text read bytes → IsPrefix some read
  has text some read bytes fits there is = among some read there.0 is.rest fits is.fits is.lacks (there.1 ∙ is.parts)

  -- the whole lines of a text that begins that of lines are some of these
  wholes : (all : List Line) (text : List ℕ) → Fits all → IsPrefix text (text_of all)
      → (lines : List Line) × Fits lines × (whole_lines text ≡ text_of lines)
  wholes [] [] fits begins = ([], All-nil LineFits, refl)
  wholes [] (x ∷ text) fits begins = absurd (cc begins.1)
  wholes (line ∷ all) text fits begins =
      by_case (λ more rest. wholes all more (All-tail LineFits line all fits) rest)
      (ends_or_has text (line_text line) (text_of all) begins.0
      (begins.1 ∙ append_assoc (line_text line) (10 ∷ []) (text_of all)))
    where
      own : LineFits line
      own = All-head LineFits line all fits

      by_case : ((more : List ℕ) → IsPrefix more (text_of all)
          → (lines : List Line) × Fits lines × (whole_lines more ≡ text_of lines))
          → EndsOrHas text (line_text line) (text_of all)
          → (lines : List Line) × Fits lines × (whole_lines text ≡ text_of lines)
      by_case later (ends more is) = (
        [],
        All-nil LineFits,
        whole_none text
            (front_none text more (subst (λ t. has_newline t ≡ false) (sym is) (lacks_none (line_text line) (lacks line own)))),
      )
      by_case later (goes_on more is rest) =
          let w = later more rest in (
            line ∷ w.0,
            All-cons LineFits line w.0 own w.1,
            ap whole_lines is ∙ whole_seam (line_text line) more ∙ ap (λ t. line_text line ++ 10 ∷ t) w.2
                ∙ sym (append_assoc (line_text line) (10 ∷ []) (text_of w.0)),
          )

  -- so no line of it is bad
  never_bad : ((lines : List Line) (n : ℕ) → Fits lines → BreaksAt LineFits (text_of lines) n → ⊥)
      → (text : List ℕ) (all : List Line) (n : ℕ) → Fits all → IsPrefix text (text_of all)
      → BreaksAt LineFits (whole_lines text) n → ⊥
  never_bad never text all n fits begins breaks =
      let w = wholes all text fits begins in
      never w.0 n w.1 (subst (λ t. BreaksAt LineFits t n) w.2 breaks)

  -- nor have they a head
  headless : ((xs ys : List Line) → HasNoHead (xs ++ ys) ↔ (HasNoHead xs × HasNoHead ys)) → (text : List ℕ)
      (all lines : List Line) (bytes : ℕ) → Fits all → HasNoHead all → IsPrefix text (text_of all)
      → AreWholeLines text lines bytes → HasNoHead lines
  headless both text all lines bytes fits none begins are =
      let rest = front text all lines bytes fits begins are in
      ((both lines rest.0).0 (subst HasNoHead (sym rest.1) none)).0

  -- and if they are legal, it is said of no line that it differs
  never_differs : ((xs ys : List Line) → HasNoHead (xs ++ ys) ↔ (HasNoHead xs × HasNoHead ys)) → (rules : Rules)
      (text : List ℕ) (all : List Line) (n : ℕ) → Fits all → IsLegalFromNothing rules all
      → IsPrefix text (text_of all) → DiffersIn rules text n → ⊥
  never_differs both rules text all n fits legal begins it =
      let rest = front text all it.lines it.bytes fits begins it.are in
      let none = headless both text all it.lines it.bytes fits legal.1 begins it.are in
      it.none (record {
        begins = record { rest = rest.0; legal = subst (IsLegal rules) (sym rest.1) legal.0 };
        outside = λ inside. state_not (state.Head inside.head)
            (map (λ part. line.State (state.Part part)) inside.parts) (subst HasNoHead inside.begun none);
      })

  never_lacking : ((xs ys : List Line) → HasNoHead (xs ++ ys) ↔ (HasNoHead xs × HasNoHead ys)) → (rules : Rules)
      (left : Option (List Text)) (text : List ℕ) (all : List Line) → Fits all → HasNoHead all → IsPrefix text (text_of all)
      → LacksLines rules left text → ⊥
  never_lacking both rules left text all fits none begins it =
      let enough = enough_alone it.lines (headless both text all it.lines it.bytes fits none begins it.are) in
      let before = it.before.before in
      it.before.lacks (subst (λ l. AreEnough (place_of it.lines) (l ++ it.lines))
      (sym (none_heard rules it.lines before.pieces _ enough before.are)) enough)

  pub never_refused : ((lines : List Line) (n : ℕ) → Fits lines → BreaksAt LineFits (text_of lines) n → ⊥)
      → ((xs ys : List Line) → HasNoHead (xs ++ ys) ↔ (HasNoHead xs × HasNoHead ys)) → (rules : Rules) (left : Option (List Text)) (text : List ℕ) (all : List Line)
      (fault : CommandFault) → Fits all → IsLegalFromNothing rules all → IsPrefix text (text_of all) → FileSays rules left text fault
      → (fault ≡ command.NoMemory) ⊎ (fault ≡ command.Read)
  never_refused never both rules left text all (command.BadLine n) fits legal begins says =
      absurd (never_bad never text all n fits begins says)
  never_refused never both rules left text all (command.Differs n) fits legal begins says =
      absurd (never_differs both rules text all n fits legal begins says)
  never_refused never both rules left text all command.NoMemory fits legal begins says = inl refl
  never_refused never both rules left text all command.Read fits legal begins says = inr refl
  never_refused never both rules left text all command.NoReader fits legal begins says = absurd says
  never_refused never both rules left text all command.Listen fits legal begins says = absurd says
  never_refused never both rules left text all command.Write fits legal begins says = absurd says
  never_refused never both rules left text all command.Cut fits legal begins says = absurd says
  never_refused never both rules left text all (command.BadLength n) fits legal begins says = absurd says
  never_refused never both rules left text all command.Connect fits legal begins says = absurd says
  never_refused never both rules left text all command.BadReply fits legal begins says = absurd says
  never_refused never both rules left text all command.Trace fits legal begins says =
      absurd (never_lacking both rules left text all fits legal.1 begins says)
  never_refused never both rules left text all command.TraceFailed fits legal begins says = absurd says
