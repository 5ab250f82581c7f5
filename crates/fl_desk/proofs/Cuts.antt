-- What goes on behind a legal beginning also goes on behind another one that leads to the same.
use Rattle.std.proofs.Common.{◌≡◌, ◌≢◌, ℕ, List, [], ◌∷◌, ◌++◌, append_assoc, append-nil, sym, ap, ◌∙◌, subst}
use Rattle.fl_core.specs.State.{Snapshot, snapshot_of}
use Rattle.fl_core.specs.Step.{next, replies}
use Rattle.fl_counter.specs.Answered.{step_lines}
use Rattle.fl_desk.proofs.Counts.{behind_without, no_front}
use Rattle.fl_desk.proofs.Givens.{answers, asks, behind, given}
use Rattle.fl_desk.proofs.Histories.{Steps, leads_on, rules_stay}
use Rattle.fl_desk.proofs.Orders.{Fitting, legal_leads}
use Rattle.fl_desk.specs.Heads.{IsHead}
use Rattle.fl_desk.specs.Leading.{LeadsTo}
use Rattle.fl_desk.specs.Legal.{HasNoHead, IsLegal, headed}
use Rattle.fl_desk.specs.Replay.{state_after}
use Rattle.fl_history.specs.declared.history.Line.{Line}
use Rattle.fl_order.specs.declared.order.Order.{Order}
use Rattle.fl_waiting.specs.declared.rules.Rules.{Rules}

-- lines lead to one thing under the same rules
leads_to_one : (lines : List Line) (p q : Snapshot) → q.rules ≡ p.rules → LeadsTo lines p → LeadsTo lines q → p ≡ q
leads_to_one lines p q same to_p to_q = to_p.stands ∙ ap (λ r. snapshot_of (state_after r lines)) (sym same) ∙ sym to_q.stands

module _ (steps : Steps) where
  -- what orders give behind one beginning leads to the same behind another
  given_alike : (as_asked : List (ℕ × Order)) (front other : List Line) (p q : Snapshot) → LeadsTo front p → LeadsTo other p → q.rules ≡ p.rules
      → LeadsTo (front ++ given p.rules front as_asked) q → LeadsTo (other ++ given p.rules front as_asked) q
  unfolding given
  given_alike [] front other p q to_front to_other same all =
      let is : p ≡ q = leads_to_one front p q same to_front (subst (λ l. LeadsTo l q) (append-nil front) all) in
      subst (LeadsTo (other ++ [])) is (subst (λ l. LeadsTo l p) (sym (append-nil other)) to_other)
  given_alike (a ∷ as_asked) front other p q to_front to_other same all =
      let s = answers p.rules front a in
      let first : step_lines a.0 a.1 (replies p a.1) ≡ s = ap (λ (x : Snapshot). step_lines a.0 a.1 (replies x a.1)) to_front.stands in
      let more = given p.rules (front ++ s) as_asked in
      subst (λ l. LeadsTo l q) (append_assoc other s more)
      (given_alike as_asked (front ++ s) (other ++ s) (next p a.1) q
      (subst (λ l. LeadsTo (front ++ l) (next p a.1)) first (leads_on steps front p a.0 a.1 to_front))
      (subst (λ l. LeadsTo (other ++ l) (next p a.1)) first (leads_on steps other p a.0 a.1 to_other))
      same (subst (λ l. LeadsTo l q) (sym (append_assoc front s more)) all))

  pub goes_on_alike : (front other rest : List Line) (p q : Snapshot) → LeadsTo front p → LeadsTo other p → HasNoHead rest → q.rules ≡ p.rules
      → LeadsTo (front ++ rest) q → LeadsTo (other ++ rest) q
  goes_on_alike front other rest p q to_front to_other none same all =
      let is : rest ≡ given p.rules front (asks rest) =
      behind p.rules front rest (no_front rest none) to_front.legal (subst (λ r. IsLegal r (front ++ rest)) same all.legal) in
      subst (λ l. LeadsTo (other ++ l) q) (sym is)
      (given_alike (asks rest) front other p q to_front to_other same (subst (λ l. LeadsTo (front ++ l) q) is all))

  pub goes_on_behind : Fitting → (rules : Rules) (before head rest : List Line) → IsLegal rules before → IsHead rules head
      → snapshot_of (state_after rules head) ≡ snapshot_of (state_after rules before) → IsLegal rules (head ++ rest)
      → LeadsTo (before ++ rest) (snapshot_of (state_after rules (head ++ rest)))
  goes_on_behind fitting rules before head rest legal is_head tells all =
      let told = legal_leads steps fitting rules (headed is_head) in
      let same = rules_stay rules (head ++ rest) ∙ sym (rules_stay rules head) in
      let some : head ≢ [] = λ e. absurd (cc (sym is_head.spelled ∙ e)) in
      goes_on_alike head before rest _ _ told (subst (LeadsTo before) (sym tells) (legal_leads steps fitting rules legal))
      (behind_without rules head rest some (headed is_head) all) same (legal_leads steps fitting rules all)
