-- What is said of the lines that were heard.
use Rattle.std.proofs.Common.{◌≡◌, ◌↔◌, ℕ, ◌+◌, ◌-◌, ◌^◌, ◌<◌, ◌≤◌, Bool, true, false, not, ◌⊎◌, inl, inr, Option, Some, None}
use Rattle.std.proofs.Common.{List, [], ◌∷◌, ◌++◌, length, take, drop, slice_get}
use Rattle.std.proofs.Common.{append_assoc, refl, ap, sym, ◌∙◌, subst, arith}
use Rattle.std.proofs.lemmas.List.{append-nil, length-append, take-append-drop, take-append-le, take_all}
use Rattle.std.specs.Option.{is_some}
use Rattle.fl_desk.specs.Kept.{IsKept}
use Rattle.fl_desk.specs.Legal.{IsLegal}
use Rattle.fl_judge.specs.Verdicts.{IsBeginning, IsInsideHead, DiffersAt}
use Rattle.fl_history.specs.declared.history.Line.{Line}
use Rattle.fl_history.specs.declared.history.Line.TheVariants as line
use Rattle.fl_judge.specs.declared.replay.Replay.{Replay}
use Rattle.fl_judge.specs.Hearing.{Hearing}
use Rattle.fl_judge.specs.declared.replay.Stage.TheVariants.{Telling}
use Rattle.fl_judge.specs.Inside.Heard.{IsReady, due_lines, LacksReplies, LeadsUpTo, GoesOnAlike, DiffersIn, Stands, IsHeard}
use Rattle.fl_judge.proofs.Heads.{GoesByParts, begins, known, inside, outside, not_whole}
use Rattle.fl_judge.proofs.Replays.{all_told, lacking, none_is_due, due_first}
use Rattle.fl_order.specs.declared.told.Told.{Told}
use Rattle.fl_judge.specs.Present.{HasPresent, IsPresent}
use Rattle.fl_judge.specs.Quiet.{IsQuiet}
use Rattle.fl_waiting.specs.declared.rules.Rules.{Rules}

-- what contracts see of a judge that heard these lines
abbrev pub seen : Replay → List Line → Hearing
seen r lines = record { rules = r.core.rules; lines = lines }

abbrev Begins : Hearing → Type 0
Begins h = IsBeginning h.rules h.lines

abbrev Quiet : Hearing → Type 0
Quiet h = IsQuiet h.rules h.lines

-- what a beginning begins with is one
shorter : (rules : Rules) (n : ℕ) (lines : List Line) → IsBeginning rules lines → IsBeginning rules (take n lines)
shorter rules n lines b = record {
  rest = drop n lines ++ b.rest;
  legal =
      subst (IsLegal rules) (sym (sym (append_assoc (take n lines) (drop n lines) b.rest) ∙ ap (λ l. l ++ b.rest) (take-append-drop n lines))) b.legal;
}

-- lines that differ are none
pub differs : (rules : Rules) (lines : List Line) (n : ℕ) → DiffersIn rules lines n → IsBeginning rules lines → ⊥
differs rules lines n d b = d.wrong (shorter rules n lines b)

whole : (rules : Rules) (lines : List Line) → IsLegal rules lines → IsBeginning rules lines
whole rules lines legal = record { rest = []; legal = subst (IsLegal rules) (sym (append-nil lines)) legal }

-- something is there after a legal history
pub legal_present : GoesByParts → (rules : Rules) (lines : List Line) → IsLegal rules lines → HasPresent rules lines
legal_present goes_on rules lines legal =
    record {
      begins = whole rules lines legal;
      outside = not_whole goes_on rules lines [] (subst (IsLegal rules) (sym (append-nil lines)) legal);
    }

-- so it is said if they differ
pub said : (rules : Rules) (lines : List Line) (n : ℕ) → DiffersIn rules lines n → DiffersAt rules lines n
said rules lines n d = record {
  illegal = λ legal. differs rules lines n d (whole rules lines legal);
  from = d.from;
  upto = omega (arith, d.within);
  before = d.before;
  no_more = λ _ b. d.wrong b;
}

-- something is missing behind the lines
pub missing : (lines : List Line) (r : Replay) (n : ℕ) → n ≡ length lines + 1 → (IsLegal r.core.rules lines → ⊥) → LeadsUpTo lines r
    → DiffersAt r.core.rules lines n
missing lines r n at illegal up = record {
  illegal = illegal;
  from = omega (arith, at);
  upto = omega (arith, at);
  before = subst (IsBeginning r.core.rules) (sym (take_all (n - 1) lines (omega (arith, at)))) (begins lines r up);
  no_more = λ within _. absurd (omega (arith, at, within));
}

-- a reply is
pub lacks_reply : (lines : List Line) (r : Replay) (due : Told) → slice_get r.tolds.told r.told ≡ Some due → LeadsUpTo lines r → IsLegal r.core.rules lines → ⊥
lacks_reply lines r due is up legal =
    let w = due_first lines r due is up [] (subst (IsLegal r.core.rules) (sym (append-nil lines)) legal) in
    let e : [] ≡ line.Told due ∷ w.0 = w.1 in
    cc e

-- ---- one line more

-- if lines differed, they differ with one line more
still : (rules : Rules) (lines : List Line) (l : Line) (n : ℕ) → DiffersIn rules lines n → DiffersIn rules (lines ++ l ∷ []) n
still rules lines l n d =
    let at : n ≤ length lines = d.within in
    let below : n - 1 ≤ length lines = omega (arith, at) in
    record {
      from = d.from;
      within = omega (arith, at, length-append lines (l ∷ []));
      before = subst (IsBeginning rules) (sym (take-append-le (n - 1) lines (l ∷ []) below)) d.before;
      wrong = λ b. d.wrong (subst (IsBeginning rules) (take-append-le n lines (l ∷ []) at) b);
    }

-- here they differ
first_wrong : (rules : Rules) (lines : List Line) (l : Line) (n : ℕ) → n ≡ length lines + 1 → IsBeginning rules lines
    → (IsBeginning rules (lines ++ l ∷ []) → ⊥) → DiffersIn rules (lines ++ l ∷ []) n
first_wrong rules lines l n at before wrong =
    let long : length (lines ++ l ∷ []) ≡ length lines + 1 = length-append lines (l ∷ []) in
    record {
      from = omega (arith, at);
      within = omega (arith, at, long);
      before =
          subst (IsBeginning rules) (sym (take-append-le (n - 1) lines (l ∷ []) (omega (arith, at)) ∙ take_all (n - 1) lines (omega (arith, at)))) before;
      wrong = λ b. wrong (subst (IsBeginning rules) (take_all n (lines ++ l ∷ []) (omega (arith, at, long))) b);
    }

-- ---- in the words of the judge

-- replies are due, or the rest of a head
abbrev pub WantsMore : Replay → Type 0
WantsMore r = (is_some (slice_get r.tolds.told r.told) ≡ true) ⊎ (r.stage ≡ Telling)

pub legal_none : (lines : List Line) (now : Hearing) (r : Replay) → seen r lines ≡ now → (WantsMore r → ⊥) → LeadsUpTo lines r → IsLegal now.rules now.lines
legal_none lines now r same none up =
    let none_due = none_is_due (slice_get r.tolds.told r.told) (λ some. none (inl some)) in
    subst (λ (h : Hearing). IsLegal h.rules h.lines) same (all_told r lines none_due (lacking lines r (λ telling. none (inr telling)) up)).legal

-- exactly if they don't differ, they are a beginning
pub begins_exactly : (lines : List Line) (now : Hearing) (r : Replay) (o : Option ℕ) (b : Bool) → seen r lines ≡ now → is_some o ≡ not b → Stands lines r o
    → (b ≡ true → Begins now) × (Begins now → b ≡ true)
begins_exactly lines now r None true same e up = (λ _. subst Begins same (begins lines r up), λ _. refl)
begins_exactly lines now r None false same e up = absurd (cc e)
begins_exactly lines now r (Some n) true same e d = absurd (cc e)
begins_exactly lines now r (Some n) false same e d =
    (λ never. absurd (cc never), λ b. absurd (differs r.core.rules lines n d (subst Begins (sym same) b)))

-- of a beginning, something is there exactly if it doesn't end inside a head
pub present_exactly : GoesByParts → (lines : List Line) (now : Hearing) (r : Replay) (o : Option ℕ) (telling : Bool) → seen r lines ≡ now → Begins now
    → (telling ≡ true) ↔ (r.stage ≡ Telling) → Stands lines r o → (not telling ≡ true) ↔ HasPresent now.rules now.lines
present_exactly goes_on lines now r (Some n) telling same b head d = absurd (differs r.core.rules lines n d (subst Begins (sym same) b))
present_exactly goes_on lines now r None true same b head up = (
  λ never. absurd (cc never),
  λ has. absurd (has.outside (subst (λ (h : Hearing). IsInsideHead h.lines) same (inside lines r (head.0 refl) up))),
)
present_exactly goes_on lines now r None false same b head up = (
  λ _. record {
    begins = b;
    outside = λ i. outside goes_on lines r (λ telling. cc (head.1 telling)) up (subst (λ (h : Hearing). IsInsideHead h.lines) (sym same) i);
  },
  λ _. refl,
)

-- then they lead to what the replay has, with the replies that are due
pub present_lacks : (lines : List Line) (now : Hearing) (r : Replay) (o : Option ℕ) → seen r lines ≡ now → HasPresent now.rules now.lines → Stands lines r o
    → LacksReplies lines r
present_lacks lines now r None same has up =
    lacking lines r (λ telling. has.outside (subst (λ (h : Hearing). IsInsideHead h.lines) same (inside lines r telling up))) up
present_lacks lines now r (Some n) same has d = absurd (differs r.core.rules lines n d (subst Begins (sym same) has.begins))

pub present_then : (lines : List Line) (now : Hearing) (r : Replay) (o : Option ℕ) → seen r lines ≡ now → HasPresent now.rules now.lines → Stands lines r o
    → IsPresent now.rules now.lines r.core
present_then lines now r o same has stands =
    subst (λ (h : Hearing). IsPresent h.rules h.lines r.core) same
    (record { missing = drop r.told r.tolds.told; leads = (present_lacks lines now r o same has stands).leads; under = refl })

-- with those they are kept by a desk that goes on
pub kept_then : (lines : List Line) (now : Hearing) (r : Replay) (o : Option ℕ) → seen r lines ≡ now → HasPresent now.rules now.lines → Stands lines r o
    → IsKept (now.lines ++ due_lines r) r.core
kept_then lines now r o same has stands =
    let leads = (present_lacks lines now r o same has stands).leads in
    subst (λ (h : Hearing). IsKept (h.lines ++ due_lines r) r.core) same
    (record { legal = leads.legal; stands = leads.stands; lawful = leads.lawful })

-- the lines didn't differ so far
pub up_to : (lines : List Line) (r : Replay) (o : Option ℕ) → is_some o ≡ false → Stands lines r o → LeadsUpTo lines r
up_to lines r None e up = up
up_to lines r (Some n) e d = absurd (cc e)

-- lines that don't differ are a beginning, and the replay knows whether they are quiet
pub quiet_then : (lines : List Line) (now : Hearing) (r : Replay) (o : Option ℕ) → seen r lines ≡ now → is_some o ≡ false → Stands lines r o
    → (r.quiet ≡ true) ↔ (Begins now × Quiet now)
quiet_then lines now r o same e stands =
    let up = up_to lines r o e stands in (
      λ quiet. (subst Begins same (begins lines r up), subst Quiet same ((known lines r up).0 quiet)),
      λ so. (known lines r up).1 (subst Quiet (sym same) so.1),
    )

-- those that do are none
pub quiet_else : (lines : List Line) (now : Hearing) (r : Replay) (o : Option ℕ) (b : Bool) → seen r lines ≡ now → is_some o ≡ true → is_some o ≡ not b
    → Stands lines r o → (b ≡ true) ↔ (Begins now × Quiet now)
quiet_else lines now r None b same e is stands = absurd (cc e)
quiet_else lines now r (Some n) true same e is d = absurd (cc is)
quiet_else lines now r (Some n) false same e is d =
    (λ never. absurd (cc never), λ so. absurd (differs r.core.rules lines n d (subst Begins (sym same) so.0)))

counted : (heard : ℕ) (lines : List Line) (l : Line) → heard ≡ length lines → heard + 1 ≡ length (lines ++ l ∷ [])
counted heard lines l e = omega (arith, e, length-append lines (l ∷ []))

own : (rules : Rules) (r : Replay) → IsReady rules r → IsReady r.core.rules r
own rules r ready = subst (λ it. IsReady it r) (sym ready.under) ready

pub heard_wrong : (lines new : List Line) (l : Line) (heard : ℕ) (before after : Replay) (o : Option ℕ) (b : Bool) → new ≡ lines ++ l ∷ []
    → IsHeard lines heard before o → length lines < 2 ^ 63 → is_some o ≡ false → b ≡ false → GoesOnAlike before l b after
    → IsReady before.core.rules after → IsHeard new (heard + 1) after (Some (heard + 1))
heard_wrong lines new l heard before after o b is h few none wrong goes ready =
    let up = up_to lines before o none h.stands in
    let w : (ls : List Line) → LeadsUpTo ls before → IsBeginning before.core.rules (ls ++ l ∷ []) → ⊥ = subst (λ b. GoesOnAlike before l b after) wrong goes in
    subst (λ ls. IsHeard ls (heard + 1) after (Some (heard + 1))) (sym is)
    (record {
      count = counted heard lines l h.count;
      few = omega (arith, h.count, few);
      stands = subst (λ r. DiffersIn r (lines ++ l ∷ []) (heard + 1)) (sym ready.under)
          (first_wrong before.core.rules lines l (heard + 1) (ap (λ k. k + 1) h.count) (begins lines before up) (w lines up));
      ready = own before.core.rules after ready;
    })

pub heard_still : (lines new : List Line) (l : Line) (heard : ℕ) (r : Replay) (o : Option ℕ) → new ≡ lines ++ l ∷ []
    → IsHeard lines heard r o → length lines < 2 ^ 63 → is_some o ≡ true → IsHeard new (heard + 1) r o
heard_still lines new l heard r None is h few some = absurd (cc some)
heard_still lines new l heard r (Some n) is h few some =
    subst (λ ls. IsHeard ls (heard + 1) r (Some n)) (sym is)
    (record { count = counted heard lines l h.count; few = omega (arith, h.count, few); stands = still r.core.rules lines l n h.stands; ready = h.ready })

pub heard_alike : (lines new : List Line) (l : Line) (heard : ℕ) (before after : Replay) (o : Option ℕ) (b : Bool) → new ≡ lines ++ l ∷ []
    → IsHeard lines heard before o → length lines < 2 ^ 63 → is_some o ≡ false → b ≡ true → GoesOnAlike before l b after
    → IsReady before.core.rules after → IsHeard new (heard + 1) after o
heard_alike lines new l heard before after (Some n) b is h few none alike goes ready = absurd (cc none)
heard_alike lines new l heard before after None b is h few none alike goes ready =
    let on : (ls : List Line) → LeadsUpTo ls before → LeadsUpTo (ls ++ l ∷ []) after = subst (λ b. GoesOnAlike before l b after) alike goes in
    subst (λ ls. IsHeard ls (heard + 1) after None) (sym is)
    (record { count = counted heard lines l h.count; few = omega (arith, h.count, few); stands = on lines h.stands; ready = own before.core.rules after ready })
