-- Pieces in a row as one history.
use Rattle.std.proofs.Common.{◌≡◌, ◌≢◌, ℕ, cond, not, List, [], ◌∷◌, ◌++◌, map}
use Rattle.std.proofs.Common.{refl, ap, sym, ◌∙◌, subst, arith, append-nil, append_assoc}
use Rattle.std.proofs.lemmas.Grind.{flat_map-append}
use Rattle.std.proofs.lemmas.List.Elements.{filter-append}
use Rattle.std.proofs.lemmas.List.Sums.{sum_by-cons}
use Rattle.std.specs.List.{filter, flat_map, AllByRecursion}
use Rattle.fl_audit.proofs.Joints.{Ends, ends, same_front, none as no_item, last as last_item}
use Rattle.fl_audit.specs.Pieces.{Piece, end_of, GoesOnFrom, IsRow, none, first, next, whole_of, without_head}
use Rattle.fl_core.specs.State.{Snapshot, snapshot_of}
use Rattle.fl_desk.specs.Heads.{head_lines, IsHead}
use Rattle.fl_desk.specs.Leading.{LeadsTo}
use Rattle.fl_desk.specs.Legal.{is_state, HasNoHead, IsLegal, headed}
use Rattle.fl_desk.specs.Replay.{state_after}
use Rattle.fl_history.specs.declared.history.Line.{Line}
use Rattle.fl_history.specs.declared.history.Line.TheVariants as line
use Rattle.fl_order.specs.declared.state_part.Head.{Head}
use Rattle.fl_order.specs.declared.state_part.StateLine.TheVariants as state
use Rattle.fl_order.specs.declared.state_part.StatePart.{StatePart}
use Rattle.fl_waiting.specs.declared.rules.Rules.{Rules}

-- ---- the last of a list

module _ {A : Type 0} where
  not_none : (xs : List A) (x : A) → [] ≡ xs ++ x ∷ [] → ⊥
  not_none [] x e = cc e
  not_none (y ∷ xs) x e = cc e

  same_last : (xs ys : List A) (x y : A) → xs ++ x ∷ [] ≡ ys ++ y ∷ [] → x ≡ y
  same_last [] [] x y e = cc e
  same_last [] (z ∷ ys) x y e = absurd (not_none ys y (cc e))
  same_last (z ∷ xs) [] x y e = absurd (not_none xs x (cc (sym e)))
  same_last (z ∷ xs) (w ∷ ys) x y e = same_last xs ys x y (cc e)

  nothing_behind : (xs ys : List A) → [] ≡ xs ++ ys → ys ≡ []
  nothing_behind [] ys e = sym e
  nothing_behind (x ∷ xs) ys e = cc e

-- ---- without its head

parts_go : (parts : List StatePart) → filter (λ l. not (is_state l)) (map (λ part. line.State (state.Part part)) parts ++ line.State state.Go ∷ []) ≡ []
parts_go [] = refl
parts_go (part ∷ parts) = parts_go parts

-- lines without those of a head
abbrev bare : List Line → List Line
bare lines = filter (λ l. not (is_state l)) lines

head_gone : (head : Head) (parts : List StatePart) → bare (head_lines head parts) ≡ []
head_gone head parts = parts_go parts

one_more : (l : Line) (ls : List Line) → HasNoHead (l ∷ ls) → cond {A = ℕ} (is_state l) 1 0 ≡ 0
one_more l ls has = let all = sum_by-cons (λ l. cond (is_state l) 1 0) l ls in omega (arith, has, all)

one_less : (l : Line) (ls : List Line) → HasNoHead (l ∷ ls) → HasNoHead ls
one_less l ls has = let all = sum_by-cons (λ l. cond (is_state l) 1 0) l ls in omega (arith, has, all)

rest_stays : (lines : List Line) → HasNoHead lines → bare lines ≡ lines
rest_stays [] has = refl
rest_stays (l ∷ ls) has = go l (one_more l ls has) (rest_stays ls (one_less l ls has))
  where
    go : (l : Line) → cond {A = ℕ} (is_state l) 1 0 ≡ 0 → bare ls ≡ ls → bare (l ∷ ls) ≡ l ∷ ls
    go (line.Asked worker order) is rest = ap (λ x. line.Asked worker order ∷ x) rest
    go (line.Told told) is rest = ap (λ x. line.Told told ∷ x) rest
    go (line.State s) is rest = absurd (omega (arith, is))

-- ---- one piece more

whole_more : (xs : List Piece) (last piece : Piece) → whole_of ((xs ++ last ∷ []) ++ piece ∷ []) ≡ whole_of (xs ++ last ∷ []) ++ without_head piece
whole_more [] last piece =
    ap (λ ls. last.lines ++ ls) (append-nil (without_head piece)) ∙ ap (λ ls. ls ++ without_head piece) (sym (append-nil last.lines))
whole_more (x ∷ xs) last piece =
    ap (λ ls. x.lines ++ ls) (flat_map-append without_head (xs ++ last ∷ []) (piece ∷ []) ∙ ap (λ ls. flat_map without_head (xs ++ last ∷ []) ++ ls) (append-nil (without_head piece)))
    ∙ sym (append_assoc x.lines (flat_map without_head (xs ++ last ∷ [])) (without_head piece))

-- what is there after a piece
abbrev after : Piece → Snapshot
after piece = snapshot_of (state_after piece.rules piece.lines)

-- all pieces have these rules
abbrev AllUnder : Rules → List Piece → Type 0
AllUnder rules pieces = AllByRecursion (λ (piece : Piece). piece.rules ≡ rules) pieces

all_before : (rules : Rules) (xs : List Piece) (x : Piece) → AllUnder rules (xs ++ x ∷ []) → AllUnder rules xs × (x.rules ≡ rules)
all_before rules [] x all = (tt, all.0)
all_before rules (y ∷ xs) x all = let rest = all_before rules xs x all.1 in ((all.0, rest.0), rest.1)

-- what the laws of histories say
pub record Laws : Type 0 where
  pub leads : (rules : Rules) (lines : List Line) → IsLegal rules lines → LeadsTo lines (snapshot_of (state_after rules lines))
  pub rules : (rules : Rules) (lines : List Line) → (state_after rules lines).rules ≡ rules
  pub behind : (rules : Rules) (before rest : List Line) → before ≢ [] → IsLegal rules before → IsLegal rules (before ++ rest) → HasNoHead rest
  pub piece : (rules : Rules) (before head rest : List Line) → IsLegal rules before → IsHead rules head
      → snapshot_of (state_after rules head) ≡ snapshot_of (state_after rules before) → IsLegal rules (head ++ rest)
      → LeadsTo (before ++ rest) (snapshot_of (state_after rules (head ++ rest)))

module _ (laws : Laws) where
  -- behind a history that leads to what the piece before leads to
  goes_behind : (whole : List Line) (last piece : Piece) → piece.rules ≡ last.rules → LeadsTo whole (after last) → GoesOnFrom (end_of last) piece
      → LeadsTo (whole ++ without_head piece) (after piece)
  goes_behind whole last piece same leads goes =
      let rules = piece.rules in
      let own : (after last).rules ≡ rules = laws.rules last.rules last.lines ∙ sym same in
      let legal : IsLegal rules whole = subst (λ r. IsLegal r whole) own leads.legal in
      let stands : after last ≡ snapshot_of (state_after rules whole) = leads.stands ∙ ap (λ r. snapshot_of (state_after r whole)) own in
      let both : IsLegal rules (goes.head ++ goes.rest) = subst (IsLegal rules) goes.parts goes.legal in
      let some : goes.head ≢ [] = λ e. cc (sym e ∙ goes.is_head.spelled) in
      let bared : without_head piece ≡ goes.rest =
      ap bare goes.parts ∙ filter-append (λ l. not (is_state l)) goes.head goes.rest
      ∙ (λ i. (ap bare goes.is_head.spelled ∙ head_gone goes.is_head.head goes.is_head.parts) i ++ bare goes.rest)
      ∙ rest_stays goes.rest (laws.behind rules goes.head goes.rest some (headed goes.is_head) both) in
      subst (λ ls. LeadsTo (whole ++ ls) (after piece)) (sym bared)
      (subst (λ ls. LeadsTo (whole ++ goes.rest) (snapshot_of (state_after rules ls))) (sym goes.parts)
      (laws.piece rules whole goes.head goes.rest legal goes.is_head (sym (goes.tells.equal own) ∙ stands) both))

  one_leads : (piece : Piece) → IsLegal piece.rules piece.lines → LeadsTo (whole_of (piece ∷ [])) (after piece)
  one_leads piece legal = subst (λ ls. LeadsTo ls (after piece)) (sym (append-nil piece.lines)) (laws.leads piece.rules piece.lines legal)

  -- the last pieces of some that are in a row: that one alone, or those before it and that one
  more_lead : (xs : List Piece) (final piece : Piece) → GoesOnFrom (end_of final) piece → (front before : List Piece) (last : Piece)
      → (xs ++ final ∷ []) ++ piece ∷ [] ≡ (front ++ before) ++ last ∷ [] → AllUnder last.rules before
      → ((b : List Piece) (x : Piece) → xs ++ final ∷ [] ≡ (front ++ b) ++ x ∷ [] → AllUnder x.rules b → LeadsTo (whole_of (b ++ x ∷ [])) (after x))
      → Ends before → LeadsTo (whole_of (before ++ last ∷ [])) (after last)
  more_lead xs final piece goes front before last is all rest (no_item e) =
      let same : piece ≡ last = same_last (xs ++ final ∷ []) (front ++ before) piece last is in
      subst (λ ps. LeadsTo (whole_of (ps ++ last ∷ [])) (after last)) (sym e)
      (subst (λ p. LeadsTo (whole_of (p ∷ [])) (after p)) same (one_leads piece goes.legal))
  more_lead xs final piece goes front before last is all rest (last_item b x e) =
      let same : piece ≡ last = same_last (xs ++ final ∷ []) (front ++ before) piece last is in
      let fronts : xs ++ final ∷ [] ≡ (front ++ b) ++ x ∷ [] =
      same_front (xs ++ final ∷ []) (front ++ before) piece last is ∙ ap (λ ps. front ++ ps) e ∙ sym (append_assoc front b (x ∷ [])) in
      let parts = all_before last.rules b x (subst (AllUnder last.rules) e all) in
      let goes_on : GoesOnFrom (end_of x) last =
      subst (λ p. GoesOnFrom (end_of x) p) same (subst (λ p. GoesOnFrom (end_of p) piece) (same_last xs (front ++ b) final x fronts) goes) in
      let whole = rest b x fronts (subst (λ r. AllUnder r b) (sym parts.1) parts.0) in
      subst (λ ps. LeadsTo (whole_of (ps ++ last ∷ [])) (after last)) (sym e)
      (subst (λ ls. LeadsTo ls (after last)) (sym (whole_more b x last)) (goes_behind (whole_of (b ++ x ∷ [])) x last (sym parts.1) whole goes_on))

  pub row_leads : (pieces : List Piece) → IsRow pieces → (front before : List Piece) (last : Piece) → pieces ≡ (front ++ before) ++ last ∷ []
      → AllUnder last.rules before → LeadsTo (whole_of (before ++ last ∷ [])) (after last)
  row_leads pieces none front before last is all = absurd (not_none (front ++ before) last is)
  row_leads pieces (first piece legal e) front before last is all =
      let same : piece ≡ last = same_last [] (front ++ before) piece last (sym e ∙ is) in
      let empty = nothing_behind front before (same_front [] (front ++ before) piece last (sym e ∙ is)) in
      subst (λ ps. LeadsTo (whole_of (ps ++ last ∷ [])) (after last)) (sym empty)
      (subst (λ p. LeadsTo (whole_of (p ∷ [])) (after p)) same (one_leads piece legal))
  row_leads pieces (next xs final piece row goes e) front before last is all =
      more_lead xs final piece goes front before last (sym e ∙ is) all (λ b x. row_leads (xs ++ final ∷ []) row front b x) (ends before)
