-- What keeps a request waiting: locks that are held, whichever requests are older, or an older one.
use Rattle.std.proofs.Common.{◌≡◌, Bool, true, false, ◌&&◌, ◌||◌, Option, Some, None, List, [], ◌∷◌, ◌++◌, append_assoc}
use Rattle.std.proofs.Common.{append-nil, refl, sym, ap, ◌∙◌, subst}
use Rattle.std.specs.List.{list_any, cons_option}
use Rattle.fl_waiting.specs.LockRequest.{mark_of, stroke_of}
use Rattle.fl_waiting.specs.Waiting.{Wish, wish_on, wish_of, wishes, passes, older_blocks, any_older_blocks}
use Rattle.fl_waiting.specs.Waiting.{is_blocked_by, anyone, is_blocked_by_older, conflicts_with_held, waits, AllBehind}
use Rattle.fl_waiting.specs.declared.parked.Request.{Request}
use Rattle.fl_waiting.specs.declared.rules.Rules.{Rules}
use Rattle.fl_marks.specs.declared.lock.Mark.{Mark}
use Rattle.fl_marks.specs.Conflict.{conflicts}
use Rattle.fl_marks.specs.Marking.{Marking, Stroke}

-- a lock that is held keeps a request waiting
abbrev pub waits_alone : Marking → Request → Bool
waits_alone m r = conflicts_with_held m (stroke_of r.node r.ask) (mark_of r.ask)

-- by that, or by an older one
pub waits_by : (rules : Rules) (m : Marking) (older : List Request) (r : Request) → waits rules m older r ≡ (waits_alone m r || is_blocked_by_older rules older r)
waits_by rules m older r = go (stroke_of r.node r.ask) (mark_of r.ask)
  where
    go : (s : Stroke) (mark : Option Mark) → passes (λ (k : Mark). is_blocked_by rules anyone m (wishes older) (wish_on s k)) mark
        ≡ (passes (λ (k : Mark). conflicts m s.key s.start s.end k.kind) mark || passes (λ (k : Mark). any_older_blocks rules anyone (wishes older) (wish_on s k)) mark)
    go s None = refl
    go s (Some k) = refl

pub never_behind : (rules : Rules) (older : List Request) (r : Request) → rules.fair ≡ false → is_blocked_by_older rules older r ≡ false
never_behind rules older r unfair = go (stroke_of r.node r.ask) (mark_of r.ask)
  where
    go : (s : Stroke) (mark : Option Mark) → passes (λ (k : Mark). any_older_blocks rules anyone (wishes older) (wish_on s k)) mark ≡ false
    go s None = refl
    go s (Some k) = ap (λ f. f && list_any (older_blocks (wish_on s k)) (wishes older)) unfair

-- if no request waits behind another the older ones have no say
pub waits_unfair : (rules : Rules) (m : Marking) (older others : List Request) (r : Request) → rules.fair ≡ false → waits rules m older r ≡ waits rules m others r
waits_unfair rules m older others r unfair =
    waits_by rules m older r ∙ ap (λ b. waits_alone m r || b) (never_behind rules older r unfair ∙ sym (never_behind rules others r unfair))
    ∙ sym (waits_by rules m others r)

neither_left : (a b : Bool) → (a || b) ≡ false → a ≡ false
neither_left true b e = absurd (cc e)
neither_left false b e = refl

-- a request that doesn't wait isn't excluded
pub not_in_conflict : (rules : Rules) (m : Marking) (older : List Request) (r : Request) → waits rules m older r ≡ false → waits_alone m r ≡ false
not_in_conflict rules m older r free = neither_left (waits_alone m r) (is_blocked_by_older rules older r) (sym (waits_by rules m older r) ∙ free)

-- ---- what is asked of each request with the older ones

module _ (P Q : List Request → Request → Type 0) (so : (older : List Request) (r : Request) → P older r → Q older r) where
  pub each_so : (older parked : List Request) → AllBehind P older parked → AllBehind Q older parked
  each_so older [] all = tt
  each_so older (r ∷ parked) all = (so older r all.0, each_so (older ++ r ∷ []) parked all.1)

module _ (P : List Request → Request → Type 0) where
  pub behind_more : (older xs : List Request) (r : Request) → AllBehind P older xs → P (older ++ xs) r → AllBehind P older (xs ++ r ∷ [])
  behind_more older [] r all here = (subst (λ l. P l r) (append-nil older) here, tt)
  behind_more older (x ∷ xs) r all here =
      (all.0, behind_more (older ++ x ∷ []) xs r all.1 (subst (λ l. P l r) (sym (append_assoc older (x ∷ []) xs)) here))

  pub behind_parts : (older xs ys : List Request) → AllBehind P older (xs ++ ys) → AllBehind P older xs × AllBehind P (older ++ xs) ys
  behind_parts older [] ys all = (tt, subst (λ l. AllBehind P l ys) (sym (append-nil older)) all)
  behind_parts older (x ∷ xs) ys all =
      let rest = behind_parts (older ++ x ∷ []) xs ys all.1 in
      ((all.0, rest.0), subst (λ l. AllBehind P l ys) (append_assoc older (x ∷ []) xs) rest.1)

  pub behind_both : (older xs ys : List Request) → AllBehind P older xs → AllBehind P (older ++ xs) ys → AllBehind P older (xs ++ ys)
  behind_both older [] ys first second = subst (λ l. AllBehind P l ys) (append-nil older) second
  behind_both older (x ∷ xs) ys first second =
      (first.0, behind_both (older ++ x ∷ []) xs ys first.1 (subst (λ l. AllBehind P l ys) (sym (append_assoc older (x ∷ []) xs)) second))

  -- if one of the older ones has no say, it may be gone
  pub behind_less : (gone : Request) → ((older younger : List Request) (r : Request) → P (older ++ gone ∷ younger) r → P (older ++ younger) r)
      → (older younger xs : List Request) → AllBehind P (older ++ gone ∷ younger) xs → AllBehind P (older ++ younger) xs
  behind_less gone no_say older younger [] all = tt
  behind_less gone no_say older younger (x ∷ xs) all = (
    no_say older younger x all.0,
    subst (λ l. AllBehind P l xs) (sym (append_assoc older younger (x ∷ [])))
        (behind_less gone no_say older (younger ++ x ∷ []) xs (subst (λ l. AllBehind P l xs) (append_assoc older (gone ∷ younger) (x ∷ [])) all.1)),
  )

-- ---- an older one that doesn't go first has no say

any_without : (test : Wish → Bool) (older : List Request) (gone : Request) (younger : List Request) → ((v : Wish) → wish_of gone ≡ Some v → test v ≡ false)
    → list_any test (wishes (older ++ gone ∷ younger)) ≡ list_any test (wishes (older ++ younger))
any_without test [] gone younger none = go (wish_of gone) refl
  where
    go : (o : Option Wish) → wish_of gone ≡ o → list_any test (cons_option o (wishes younger)) ≡ list_any test (wishes younger)
    go None e = refl
    go (Some v) e = ap (λ b. b || list_any test (wishes younger)) (none v e)
any_without test (a ∷ older) gone younger none = go (wish_of a) (any_without test older gone younger none)
  where
    go : (o : Option Wish) → list_any test (wishes (older ++ gone ∷ younger)) ≡ list_any test (wishes (older ++ younger))
        → list_any test (cons_option o (wishes (older ++ gone ∷ younger))) ≡ list_any test (cons_option o (wishes (older ++ younger)))
    go None rest = rest
    go (Some v) rest = ap (λ b. test v || b) rest

-- it waits behind the others as before
pub behind_without : (rules : Rules) (older : List Request) (gone : Request) (younger : List Request) (r : Request)
    → ((k : Mark) (v : Wish) → wish_of gone ≡ Some v → any_older_blocks rules anyone (v ∷ []) (wish_on (stroke_of r.node r.ask) k) ≡ false)
    → is_blocked_by_older rules (older ++ gone ∷ younger) r ≡ is_blocked_by_older rules (older ++ younger) r
behind_without rules older gone younger r none = go (mark_of r.ask)
  where
    one : (fair b : Bool) → (fair && (b || false)) ≡ false → (fair && b) ≡ false
    one true true e = e
    one true false e = refl
    one false b e = refl

    under : (fair : Bool) (test : Wish → Bool) → ((v : Wish) → wish_of gone ≡ Some v → (fair && test v) ≡ false)
        → (fair && list_any test (wishes (older ++ gone ∷ younger))) ≡ (fair && list_any test (wishes (older ++ younger)))
    under true test apart = any_without test older gone younger apart
    under false test apart = refl

    go : (mark : Option Mark) → passes (λ (k : Mark). any_older_blocks rules anyone (wishes (older ++ gone ∷ younger)) (wish_on (stroke_of r.node r.ask) k)) mark
        ≡ passes (λ (k : Mark). any_older_blocks rules anyone (wishes (older ++ younger)) (wish_on (stroke_of r.node r.ask) k)) mark
    go None = refl
    go (Some k) = under rules.fair _ (λ v is. one rules.fair _ (none k v is))
