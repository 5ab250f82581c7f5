-- The piece at hand leads to what all lines lead to.
use Rattle.std.proofs.Common.{◌≡◌, ℕ, ◌+◌, ◌-◌, ◌^◌, ◌⊎◌, inl, inr, ◌↔◌, cond, Bool, true, false, min, List, [], ◌∷◌, ◌++◌, append_assoc, append-nil, refl}
use Rattle.std.proofs.Common.{ap, sym, subst, ◌∙◌, arith}
use Rattle.std.proofs.lemmas.List.Sums.{fold-append, sum_by-cons}
use Rattle.std.specs.List.{fold}
use Rattle.fl_core.specs.State.{Snapshot, snapshot_of}
use Rattle.fl_counter.specs.Answered.{step_lines}
use Rattle.fl_desk.proofs.Counts.{both_without, step_without}
use Rattle.fl_desk.proofs.Cuts.{goes_on_alike}
use Rattle.fl_desk.proofs.Histories.{Steps, rules_stay}
use Rattle.fl_desk.proofs.Orders.{Fitting, legal_leads}
use Rattle.fl_desk.specs.Heads.{IsHead}
use Rattle.fl_desk.specs.Kept.{IsKept}
use Rattle.fl_desk.specs.Leading.{LeadsTo}
use Rattle.fl_desk.specs.Legal.{HasNoHead, IsLegal, headed, is_state}
use Rattle.fl_desk.specs.Pieces.{IsPiece, TellsAll}
use Rattle.fl_desk.specs.Replay.{state_after}
use Rattle.fl_history.specs.Place.{nowhere, place_of, with_place}
use Rattle.fl_history.specs.declared.history.Line.{Line}
use Rattle.fl_history.specs.declared.history.Line.TheVariants as line
use Rattle.fl_history.specs.declared.place.Place.{Place}
use Rattle.fl_order.specs.declared.order.Order.{Order}
use Rattle.fl_order.specs.declared.told.Told.{Told}
use Rattle.fl_waiting.specs.declared.rules.Rules.{Rules}

-- ---- how a piece goes on

-- all lines are a piece
pub one_piece : (rules : Rules) (lines : List Line) → IsPiece rules lines lines
one_piece rules lines = record {
  before = lines;
  head = lines;
  since = [];
  all = sym (append-nil lines);
  here = sym (append-nil lines);
  later = refl;
  told = inl refl;
}

-- lines without a head come behind
pub more_lines : (rules : Rules) (lines piece more : List Line) → IsPiece rules lines piece → HasNoHead more
    → IsPiece rules (lines ++ more) (piece ++ more)
more_lines rules lines piece more p none = record {
  before = p.before;
  head = p.head;
  since = p.since ++ more;
  all = ap (λ l. l ++ more) p.all ∙ append_assoc p.before p.since more;
  here = ap (λ l. l ++ more) p.here ∙ append_assoc p.head p.since more;
  later = (both_without p.since more).1 (p.later, none);
  told = p.told;
}

-- an order and its replies come behind
pub taken_piece : (rules after : Rules) (lines given new piece given_piece new_piece : List Line) (worker : ℕ) (order : Order) (tolds : List Told)
    → IsPiece rules lines piece → after ≡ rules → given ≡ lines → given_piece ≡ piece → new ≡ given ++ step_lines worker order tolds
    → new_piece ≡ given_piece ++ step_lines worker order tolds → IsPiece after new new_piece
taken_piece rules after lines given new piece given_piece new_piece worker order tolds p same given_is piece_is new_is new_piece_is =
    let more = step_lines worker order tolds in
    let all : new ≡ lines ++ more = new_is ∙ ap (λ l. l ++ more) given_is in
    let here : new_piece ≡ piece ++ more = new_piece_is ∙ ap (λ l. l ++ more) piece_is in
    subst (λ r. IsPiece r new new_piece) (sym same)
    (subst (λ l. IsPiece rules l new_piece) (sym all)
    (subst (λ l. IsPiece rules (lines ++ more) l) (sym here) (more_lines rules lines piece more p (step_without [] worker order tolds refl))))

-- what is kept of the same lines
pub kept_same : (lines new : List Line) (p : Snapshot) → IsKept lines p → new ≡ lines → IsKept new p
kept_same lines new p kept same = subst (λ l. IsKept l p) (sym same) kept

-- a new piece begins with a head of what is there, if that is whole
pub turned_piece : (p : Snapshot) (lines new piece new_piece draft : List Line) (count : ℕ) (whole ended : Bool) → IsKept lines p
    → IsPiece p.rules lines piece → new ≡ lines → (ended ≡ true → whole ≡ true) → (ended ≡ true → new_piece ≡ draft)
    → (ended ≡ false → new_piece ≡ piece) → (whole ≡ true → IsHead p.rules draft)
    → (whole ≡ true → snapshot_of (state_after p.rules draft) ≡ p) → (whole ≡ true → (place_of draft).lines ≡ count)
    → count ≡ (place_of lines).lines → IsPiece p.rules new new_piece
turned_piece p lines new piece new_piece draft count whole true kept is_piece same if_whole turned stays told tells counted due =
    let so = if_whole refl in
    record {
      before = lines;
      head = draft;
      since = [];
      all = same ∙ sym (append-nil lines);
      here = turned refl ∙ sym (append-nil draft);
      later = refl;
      told = inr (record { legal = kept.legal; is_head = told so; same = tells so ∙ kept.stands; counted = counted so ∙ due });
    }
turned_piece p lines new piece new_piece draft count whole false kept is_piece same if_whole turned stays told tells counted due =
    subst (λ l. IsPiece p.rules l new_piece) (sym same) (subst (IsPiece p.rules lines) (sym (stays refl)) is_piece)

-- ---- where a piece ends

more_placed : (p q : Place) (lines : List Line) → HasNoHead lines → p.lines ≡ q.lines
    → (fold with_place p lines).lines ≡ (fold with_place q lines).lines
more_placed p q [] none same = same
more_placed p q (line.Asked worker order ∷ lines) none same =
    more_placed (with_place p (line.Asked worker order)) (with_place q (line.Asked worker order)) lines none (ap (λ n. min (n + 1) (2 ^ 64 - 1)) same)
more_placed p q (line.Told told ∷ lines) none same =
    more_placed (with_place p (line.Told told)) (with_place q (line.Told told)) lines none (ap (λ n. min (n + 1) (2 ^ 64 - 1)) same)
more_placed p q (line.State s ∷ lines) none same =
    let all = sum_by-cons (λ x. cond (is_state x) 1 0) (line.State s) lines in absurd (omega (arith, all, none))

place_at : (front since : List Line) → place_of (front ++ since) ≡ fold with_place (place_of front) since
place_at front since = fold-append with_place nowhere front since

pub ends_at : (rules : Rules) (lines piece : List Line) → IsPiece rules lines piece → (place_of piece).lines ≡ (place_of lines).lines
ends_at rules lines piece p = go p.told
  where
    go : (p.head ≡ p.before) ⊎ TellsAll rules p.before p.head → (place_of piece).lines ≡ (place_of lines).lines
    go (inl one) = ap (λ l. (place_of l).lines) (p.here ∙ ap (λ h. h ++ p.since) one ∙ sym p.all)
    go (inr t) =
        ap (λ l. (place_of l).lines) p.here ∙ ap (λ (q : Place). q.lines) (place_at p.head p.since)
        ∙ more_placed (place_of p.head) (place_of p.before) p.since p.later t.counted
        ∙ sym (ap (λ (q : Place). q.lines) (place_at p.before p.since)) ∙ sym (ap (λ l. (place_of l).lines) p.all)

-- ---- what a piece leads to

module _ (steps : Steps) (fitting : Fitting) where
  piece_leads : (rules : Rules) (lines piece : List Line) → IsPiece rules lines piece → IsLegal rules lines
      → LeadsTo piece (snapshot_of (state_after rules lines))
  piece_leads rules lines piece p legal = go p.told
    where
      go : (p.head ≡ p.before) ⊎ TellsAll rules p.before p.head → LeadsTo piece (snapshot_of (state_after rules lines))
      go (inl one) =
          subst (λ l. LeadsTo l (snapshot_of (state_after rules lines))) (p.all ∙ ap (λ h. h ++ p.since) (sym one) ∙ sym p.here)
          (legal_leads steps fitting rules legal)
      go (inr t) =
          let q = snapshot_of (state_after rules lines) in
          subst (λ l. LeadsTo l q) (sym p.here)
          (goes_on_alike steps p.before p.head p.since (snapshot_of (state_after rules p.before)) q (legal_leads steps fitting rules t.legal)
          (subst (LeadsTo p.head) t.same (legal_leads steps fitting rules (headed t.is_head))) p.later
          (rules_stay rules lines ∙ sym (rules_stay rules p.before))
          (subst (λ l. LeadsTo l q) p.all (legal_leads steps fitting rules legal)))

  pub piece_legal : (rules : Rules) (lines piece : List Line) → IsPiece rules lines piece → IsLegal rules lines → IsLegal rules piece
  piece_legal rules lines piece p legal =
      subst (λ r. IsLegal r piece) (rules_stay rules lines) (piece_leads rules lines piece p legal).legal

  pub piece_same : (rules : Rules) (lines piece : List Line) → IsPiece rules lines piece → IsLegal rules lines
      → snapshot_of (state_after rules piece) ≡ snapshot_of (state_after rules lines)
  piece_same rules lines piece p legal =
      ap (λ r. snapshot_of (state_after r piece)) (sym (rules_stay rules lines)) ∙ sym ((piece_leads rules lines piece p legal).stands)

  pub piece_goes_on : (rules : Rules) (lines piece more : List Line) (q : Snapshot) → IsPiece rules lines piece → IsLegal rules lines
      → HasNoHead more → q.rules ≡ rules → LeadsTo (lines ++ more) q ↔ LeadsTo (piece ++ more) q
  piece_goes_on rules lines piece more q p legal none same =
      let here = snapshot_of (state_after rules lines) in
      let to_lines = legal_leads steps fitting rules legal in
      let to_piece = piece_leads rules lines piece p legal in
      let under = same ∙ sym (rules_stay rules lines) in (
        goes_on_alike steps lines piece more here q to_lines to_piece none under,
        goes_on_alike steps piece lines more here q to_piece to_lines none under,
      )
