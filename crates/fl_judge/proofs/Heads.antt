-- A head that a replay hears, line by line.
use Rattle.std.proofs.Common.{◌≡◌, ◌≢◌, ◌↔◌, ℕ, ◌<◌, ◌⊎◌, inl, inr, Bool, true, false, Option, Some, None, List, [], ◌∷◌, ◌++◌, drop, map, slice_get}
use Rattle.std.proofs.Common.{refl, ap, sym, ◌∙◌, subst}
use Rattle.std.proofs.lemmas.List.{append-nil, map-append}
use Rattle.std.specs.Option.{is_some}
use Rattle.fl_core.specs.Restored.{Part, fits, with_part, a_node, a_file, a_lock, a_request}
use Rattle.fl_core.specs.State.{Snapshot, opening, snapshot_of}
use Rattle.fl_desk.specs.Heads.{begun_lines, head_lines, IsToldBy, NamesRules}
use Rattle.fl_desk.specs.Leading.{LeadsTo, GoesOnTelling, more, whole}
use Rattle.fl_desk.specs.Legal.{IsLegal, headed}
use Rattle.fl_history.specs.declared.history.Line.{Line}
use Rattle.fl_history.specs.declared.history.Line.TheVariants as line
use Rattle.fl_judge.specs.Inside.Heard.{due_lines, LacksGo, LeadsUpTo, before_all, in_head, by_orders, GoesOnAlike}
use Rattle.fl_judge.specs.Present.{told_lines}
use Rattle.fl_judge.specs.Quiet.{IsQuiet}
use Rattle.fl_judge.specs.Verdicts.{IsBeginning, IsInsideHead}
use Rattle.fl_judge.specs.declared.replay.Replay.{Replay}
use Rattle.fl_judge.specs.declared.replay.Stage.TheVariants.{Unheard, Telling, Taking}
use Rattle.fl_judge.proofs.Quiets.{quiet_beside}
use Rattle.fl_judge.proofs.Replays.{GoesByOrders, behind, same_head, not_empty, no_due_lines, order_wrong, told_wrong}
use Rattle.fl_order.specs.declared.order.Order.{Order}
use Rattle.fl_order.specs.declared.state_part.Head.{Head}
use Rattle.fl_order.specs.declared.state_part.StateLine.{StateLine}
use Rattle.fl_order.specs.declared.state_part.StateLine.TheVariants as state
use Rattle.fl_order.specs.declared.state_part.StatePart.{StatePart}
use Rattle.fl_order.specs.declared.told.Told.{Told}
use Rattle.fl_state.specs.Parts.{part_of}
use Rattle.fl_state.specs.Telling.{told_by, AreTold, none}
use Rattle.fl_waiting.specs.declared.rules.Rules.{Rules}

-- ---- what the laws of heads say

abbrev pub HeadLeads : Type 0
HeadLeads = (rules : Rules) (head : Head) (parts : List StatePart) → IsToldBy rules head parts →
    LeadsTo (head_lines head parts) (snapshot_of (told_by rules head.node head.fh (map part_of parts)))

abbrev pub BeginsByHead : Type 0
BeginsByHead = (rules : Rules) (first : StateLine) (rest : List Line) → IsLegal rules (line.State first ∷ rest) →
    (head : Head) × (first ≡ state.Head head) × NamesRules head rules × (1 < head.node) × (0 < head.fh)

abbrev pub GoesByParts : Type 0
GoesByParts = (rules : Rules) (head : Head) (parts : List StatePart) (rest : List Line) →
    IsLegal rules (begun_lines head parts ++ rest) → GoesOnTelling rules head parts rest

-- ---- behind a head so far

-- what goes on behind it
on_telling : GoesByParts → (r : Replay) (lines : List Line) (l : Line) (h : LacksGo lines r) → (b : IsBeginning r.core.rules (lines ++ l ∷ []))
    → GoesOnTelling r.core.rules h.head h.parts (l ∷ b.rest)
on_telling goes_on r lines l h b =
    goes_on r.core.rules h.head h.parts (l ∷ b.rest)
    (subst (λ ls. IsLegal r.core.rules (ls ++ l ∷ b.rest)) h.begun (subst (IsLegal r.core.rules) (behind lines b.rest l) b.legal))

-- only its parts and its end go on
neither_goes : (rules : Rules) (head : Head) (parts : List StatePart) (l : Line) (rest : List Line)
    → ((part : StatePart) → l ≢ line.State (state.Part part)) → l ≢ line.State state.Go → GoesOnTelling rules head parts (l ∷ rest) → ⊥
neither_goes rules head parts l rest no_part no_go (more part others e told) = no_part part (same_head l (line.State (state.Part part)) rest others e)
neither_goes rules head parts l rest no_part no_go (whole others e told) = no_go (same_head l (line.State state.Go) rest others e)

pub telling_wrong : GoesByParts → (before : Replay) (l : Line) → before.stage ≡ Telling → ((part : StatePart) → l ≢ line.State (state.Part part)) → l ≢ line.State state.Go
    → (lines : List Line) → LeadsUpTo lines before → IsBeginning before.core.rules (lines ++ l ∷ []) → ⊥
telling_wrong goes_on before l telling no_part no_go lines (before_all stage empty _ lacks) b = cc (stage, telling)
telling_wrong goes_on before l telling no_part no_go lines (by_orders stage some lacks) b = cc (stage, telling)
telling_wrong goes_on before l telling no_part no_go lines (in_head stage h) b =
    neither_goes before.core.rules h.head h.parts l b.rest no_part no_go (on_telling goes_on before lines l h b)

-- a reply that isn't due
pub reply_wrong : GoesByOrders → GoesByParts → (before : Replay) (told : Told) → slice_get before.tolds.told before.told ≢ Some told
    → (lines : List Line) → LeadsUpTo lines before → IsBeginning before.core.rules (lines ++ line.Told told ∷ []) → ⊥
reply_wrong by_order by_part before told other lines up b = go (slice_get before.tolds.told before.told) refl up
  where
    none_due : slice_get before.tolds.told before.told ≡ None → LeadsUpTo lines before → ⊥
    none_due is (before_all stage empty nothing lacks) = order_wrong by_order before told is lines lacks b
    none_due is (by_orders stage some lacks) = order_wrong by_order before told is lines lacks b
    none_due is (in_head stage h) = telling_wrong by_part before (line.Told told) stage (λ part e. cc e) (λ e. cc e) lines (in_head stage h) b

    go : (o : Option Told) → slice_get before.tolds.told before.told ≡ o → LeadsUpTo lines before → ⊥
    go None is up = none_due is up
    go (Some due) is up =
        told_wrong before due (line.Told told) is (λ same. let e : due ≡ told = cc same in other (is ∙ ap (λ t. Some t) e)) lines up b

-- an order while a reply is due, or a head is told
pub order_early : GoesByParts → (before : Replay) (order : Order) → (is_some (slice_get before.tolds.told before.told) ≡ true) ⊎ (before.stage ≡ Telling)
    → (worker : ℕ) (lines : List Line) → LeadsUpTo lines before → IsBeginning before.core.rules (lines ++ line.Asked worker order ∷ []) → ⊥
order_early goes_on before order (inr telling) worker lines up b =
    telling_wrong goes_on before (line.Asked worker order) telling (λ part e. cc e) (λ e. cc e) lines up b
order_early goes_on before order (inl some) worker lines up b = go (slice_get before.tolds.told before.told) refl some
  where
    go : (o : Option Told) → slice_get before.tolds.told before.told ≡ o → is_some o ≡ true → ⊥
    go None is some = cc some
    go (Some due) is some = told_wrong before due (line.Asked worker order) is (λ e. cc e) lines up b

-- ---- its end

pub go_on : HeadLeads → (before : Replay) → before.stage ≡ Telling
    → (lines : List Line) → LeadsUpTo lines before → LeadsUpTo (lines ++ line.State state.Go ∷ []) (record before { stage = Taking })
go_on leads before telling lines (before_all stage empty _ lacks) = absurd (cc (stage, telling))
go_on leads before telling lines (by_orders stage some lacks) = absurd (cc (stage, telling))
go_on leads before telling lines (in_head stage h) =
    let l = line.State state.Go in
    let e : due_lines before ≡ [] = no_due_lines before h.none in
    by_orders refl (not_empty lines l) (record {
      leads = subst (λ d. LeadsTo ((lines ++ l ∷ []) ++ d) before.core) (sym e)
          (subst (λ ls. LeadsTo ls before.core) (ap (λ ls. ls ++ l ∷ []) (sym h.begun) ∙ sym (append-nil (lines ++ l ∷ [])))
          (subst (LeadsTo (head_lines h.head h.parts)) (sym h.there) (leads before.core.rules h.head h.parts h.told)));
      due = λ rest legal. (rest, sym (ap (λ d. d ++ rest) e));
      quiet = quiet_beside before.core.rules lines l before.quiet (λ worker order is. cc is) h.quiet;
    })

-- ---- its first line

-- these numbers come next
abbrev pub moved : Snapshot → ℕ → ℕ → Snapshot
moved p node fh = record p { view = record p.view { directory = record p.view.directory { next_node = node; next_fh = fh } } }

pub begin_on : (before : Replay) (head : Head) → before.stage ≡ Unheard → before.core ≡ snapshot_of (opening before.core.rules)
    → NamesRules head before.core.rules → 1 < head.node → 0 < head.fh → (core : Snapshot) → core ≡ moved before.core head.node head.fh
    → (lines : List Line) → LeadsUpTo lines before
    → LeadsUpTo (lines ++ line.State (state.Head head) ∷ []) (record before { core = core; stage = Telling })
begin_on before head unheard fresh under node fh core is lines (in_head stage h) = absurd (cc (stage, unheard))
begin_on before head unheard fresh under node fh core is lines (by_orders stage some lacks) = absurd (cc (stage, unheard))
begin_on before head unheard fresh under node fh core is lines (before_all stage empty nothing lacks) =
    let l = line.State (state.Head head) in
    subst (λ (p : Snapshot). LeadsUpTo (lines ++ l ∷ []) (record before { core = p; stage = Telling })) (sym is)
    (in_head refl (record {
      head = head;
      parts = [];
      begun = ap (λ ls. ls ++ l ∷ []) empty;
      told = record { under = under; node = node; fh = fh; fit = none };
      there = ap (λ (p : Snapshot). moved p head.node head.fh) fresh;
      none = nothing;
      quiet = quiet_beside before.core.rules lines l before.quiet (λ worker order is. cc is) lacks.quiet;
    }))

-- a first line that no legal history begins with
pub begin_wrong : BeginsByHead → (before : Replay) (s : StateLine) → before.stage ≡ Unheard
    → ((head : Head) → s ≡ state.Head head → NamesRules head before.core.rules → 1 < head.node → 0 < head.fh → ⊥)
    → (lines : List Line) → LeadsUpTo lines before → IsBeginning before.core.rules (lines ++ line.State s ∷ []) → ⊥
begin_wrong begins before s unheard never lines (in_head stage h) b = cc (stage, unheard)
begin_wrong begins before s unheard never lines (by_orders stage some lacks) b = cc (stage, unheard)
begin_wrong begins before s unheard never lines (before_all stage empty nothing lacks) b =
    let l = line.State s in
    let w = begins before.core.rules s b.rest (subst (λ ls. IsLegal before.core.rules ((ls ++ l ∷ []) ++ b.rest)) empty b.legal) in
    never w.0 w.1 w.2 w.3 w.4

-- ---- its parts

with_part_rules : (part : Part) (p : Snapshot) → (with_part part p).rules ≡ p.rules
with_part_rules (a_node number node) p = refl
with_part_rules (a_file fh node) p = refl
with_part_rules (a_lock run) p = refl
with_part_rules (a_request request) p = refl

begun_more : (head : Head) (parts : List StatePart) (part : StatePart)
    → begun_lines head parts ++ line.State (state.Part part) ∷ [] ≡ begun_lines head (parts ++ part ∷ [])
begun_more head parts part =
    ap (λ ls. line.State (state.Head head) ∷ ls) (sym (map-append (λ (p : StatePart). line.State (state.Part p)) parts (part ∷ [])))

abbrev pub TellsOneMore : Type 0
TellsOneMore = (rules : Rules) (node fh : ℕ) (before : List Part) (part : Part) → AreTold rules node fh before →
    fits (snapshot_of (told_by rules node fh before)) part ≡ true → AreTold rules node fh (before ++ part ∷ [])

abbrev pub ShowsOneMore : Type 0
ShowsOneMore = (rules : Rules) (node fh : ℕ) (before : List Part) (part : Part) →
    snapshot_of (told_by rules node fh (before ++ part ∷ [])) ≡ with_part part (snapshot_of (told_by rules node fh before))

abbrev pub FitsBefore : Type 0
FitsBefore = (rules : Rules) (node fh : ℕ) (before : List Part) (part : Part) → AreTold rules node fh (before ++ part ∷ []) →
    AreTold rules node fh before × (fits (snapshot_of (told_by rules node fh before)) part ≡ true)

-- one part more, which fits
pub part_on : TellsOneMore → ShowsOneMore → (before : Replay) (part : StatePart) → before.stage ≡ Telling → fits before.core (part_of part) ≡ true
    → (core : Snapshot) → core ≡ with_part (part_of part) before.core
    → (lines : List Line) → LeadsUpTo lines before → LeadsUpTo (lines ++ line.State (state.Part part) ∷ []) (record before { core = core })
part_on tells shows before part telling fit core is lines (before_all stage empty _ lacks) = absurd (cc (stage, telling))
part_on tells shows before part telling fit core is lines (by_orders stage some lacks) = absurd (cc (stage, telling))
part_on tells shows before part telling fit core is lines (in_head stage h) =
    let l = line.State (state.Part part) in
    let head = h.head in
    let rules = before.core.rules in
    let told = map part_of h.parts in
    let same : rules ≡ core.rules = sym (ap (λ (p : Snapshot). p.rules) is ∙ with_part_rules (part_of part) before.core) in
    let all : told ++ part_of part ∷ [] ≡ map part_of (h.parts ++ part ∷ []) = sym (map-append part_of h.parts (part ∷ [])) in
    let there : core ≡ snapshot_of (told_by rules head.node head.fh (map part_of (h.parts ++ part ∷ []))) =
    is ∙ ap (with_part (part_of part)) h.there ∙ sym (shows rules head.node head.fh told (part_of part))
    ∙ ap (λ ps. snapshot_of (told_by rules head.node head.fh ps)) all in
    let fit_all : AreTold rules head.node head.fh (map part_of (h.parts ++ part ∷ [])) =
    subst (AreTold rules head.node head.fh) all (tells rules head.node head.fh told (part_of part) h.told.fit
    (subst (λ p. fits p (part_of part) ≡ true) h.there fit)) in
    in_head stage (record {
      head = head;
      parts = h.parts ++ part ∷ [];
      begun = ap (λ ls. ls ++ l ∷ []) h.begun ∙ begun_more head h.parts part;
      told = subst (λ (r : Rules). IsToldBy r head (h.parts ++ part ∷ [])) same
          (record { under = h.told.under; node = h.told.node; fh = h.told.fh; fit = fit_all });
      there = there ∙ ap (λ (r : Rules). snapshot_of (told_by r head.node head.fh (map part_of (h.parts ++ part ∷ [])))) same;
      none = h.none;
      quiet = subst (λ (r : Rules). (before.quiet ≡ true) ↔ IsQuiet r (lines ++ l ∷ [])) same
          (quiet_beside rules lines l before.quiet (λ worker order is. cc is) h.quiet);
    })

-- one that doesn't fit
pub part_wrong : GoesByParts → FitsBefore → (before : Replay) (part : StatePart) → before.stage ≡ Telling → fits before.core (part_of part) ≡ false
    → (lines : List Line) → LeadsUpTo lines before → IsBeginning before.core.rules (lines ++ line.State (state.Part part) ∷ []) → ⊥
part_wrong goes_on was before part telling unfit lines (before_all stage empty _ lacks) b = cc (stage, telling)
part_wrong goes_on was before part telling unfit lines (by_orders stage some lacks) b = cc (stage, telling)
part_wrong goes_on was before part telling unfit lines (in_head stage h) b =
    go (on_telling goes_on before lines (line.State (state.Part part)) h b)
  where
    fitted : (other : StatePart) → line.State (state.Part part) ≡ line.State (state.Part other)
        → AreTold before.core.rules h.head.node h.head.fh (map part_of (h.parts ++ other ∷ [])) → ⊥
    fitted other same told =
        let is : other ≡ part = cc same in
        let fit : fits (snapshot_of (told_by before.core.rules h.head.node h.head.fh (map part_of h.parts))) (part_of other) ≡ true =
        (was before.core.rules h.head.node h.head.fh (map part_of h.parts) (part_of other)
        (subst (AreTold before.core.rules h.head.node h.head.fh) (map-append part_of h.parts (other ∷ [])) told)).1 in
        cc (
          unfit,
          subst (λ p. fits p (part_of part) ≡ true) (sym h.there)
              (subst (λ o. fits (snapshot_of (told_by before.core.rules h.head.node h.head.fh (map part_of h.parts))) (part_of o) ≡ true) is fit),
        )

    go : GoesOnTelling before.core.rules h.head h.parts (line.State (state.Part part) ∷ b.rest) → ⊥
    go (more other rest e told) = fitted other (same_head (line.State (state.Part part)) (line.State (state.Part other)) b.rest rest e) told.fit
    go (whole rest e told) = cc e

-- as it fits or doesn't
pub either_part : TellsOneMore → ShowsOneMore → GoesByParts → FitsBefore → (before : Replay) (part : StatePart) → before.stage ≡ Telling
    → (fit : Bool) (core : Snapshot) → fit ≡ fits before.core (part_of part) → (fit ≡ true → core ≡ with_part (part_of part) before.core)
    → GoesOnAlike before (line.State (state.Part part)) fit (record before { core = core })
either_part tells shows goes_on was before part telling true core is after = part_on tells shows before part telling (sym is) core (after refl)
either_part tells shows goes_on was before part telling false core is after = part_wrong goes_on was before part telling (sym is)

-- ---- what is said inside a head, and outside

-- lines that a replay led up to are a beginning
pub begins : (lines : List Line) (r : Replay) → LeadsUpTo lines r → IsBeginning r.core.rules lines
begins lines r (before_all stage empty _ lacks) = record { rest = due_lines r; legal = lacks.leads.legal }
begins lines r (by_orders stage some lacks) = record { rest = due_lines r; legal = lacks.leads.legal }
begins lines r (in_head stage h) = record {
  rest = line.State state.Go ∷ [];
  legal = headed (record { head = h.head; parts = h.parts; spelled = ap (λ ls. ls ++ line.State state.Go ∷ []) h.begun; told = h.told });
}

pub known : (lines : List Line) (r : Replay) → LeadsUpTo lines r → (r.quiet ≡ true) ↔ IsQuiet r.core.rules lines
known lines r (before_all stage empty _ lacks) = lacks.quiet
known lines r (by_orders stage some lacks) = lacks.quiet
known lines r (in_head stage h) = h.quiet

pub inside : (lines : List Line) (r : Replay) → r.stage ≡ Telling → LeadsUpTo lines r → IsInsideHead lines
inside lines r telling (before_all stage empty _ lacks) = absurd (cc (stage, telling))
inside lines r telling (by_orders stage some lacks) = absurd (cc (stage, telling))
inside lines r telling (in_head stage h) = record { head = h.head; parts = h.parts; begun = h.begun }

-- behind a head so far comes something, and no reply
no_tolds : (rules : Rules) (head : Head) (parts : List StatePart) (tolds : List Told) → GoesOnTelling rules head parts (told_lines tolds) → ⊥
no_tolds rules head parts [] (more part rest e told) = cc e
no_tolds rules head parts [] (whole rest e told) = cc e
no_tolds rules head parts (t ∷ tolds) (more part rest e told) = cc e
no_tolds rules head parts (t ∷ tolds) (whole rest e told) = cc e

-- a head so far is no legal history, with or without replies
pub not_whole : GoesByParts → (rules : Rules) (lines : List Line) (tolds : List Told) → IsLegal rules (lines ++ told_lines tolds) → IsInsideHead lines → ⊥
not_whole goes_on rules lines tolds legal i =
    no_tolds rules i.head i.parts tolds (goes_on rules i.head i.parts (told_lines tolds) (subst (λ ls. IsLegal rules (ls ++ told_lines tolds)) i.begun legal))

pub outside : GoesByParts → (lines : List Line) (r : Replay) → (r.stage ≡ Telling → ⊥) → LeadsUpTo lines r → IsInsideHead lines → ⊥
outside goes_on lines r other (before_all stage empty _ lacks) i = cc (empty, i.begun)
outside goes_on lines r other (in_head stage h) i = other stage
outside goes_on lines r other (by_orders stage some lacks) i =
    not_whole goes_on r.core.rules lines (drop r.told r.tolds.told) lacks.leads.legal i
