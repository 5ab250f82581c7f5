-- The owners among the blockers of a lock that is wanted are those who block it.
use Rattle.std.proofs.Common.{◌≡◌, ℕ, Bool, true, false, cond, ◌&&◌, ◌||◌, ◌==◌, Option, Some, None, option_map, List}
use Rattle.std.proofs.Common.{[], ◌∷◌, map, refl, ap, sym, ◌∙◌}
use Rattle.std.proofs.lemmas.List.Folds.{list_any-append}
use Rattle.std.specs.List.{filter, list_any, cons_option}
use Rattle.fl_marks.specs.declared.lock.Mark.{Mark}
use Rattle.fl_marks.specs.declared.run.Run.{Run}
use Rattle.fl_marks.specs.HeldRuns.{runs_in_order, ConflictAsMarks}
use Rattle.fl_waiting.specs.declared.parked.Request.{Request}
use Rattle.fl_waiting.specs.LockRequest.{is_flock, key_of, start_of, end_of, mark_of}
use Rattle.fl_waiting.specs.Waiting.{Wish, owner_of, wish_of, wishes, older_blocks, only}
use Rattle.fl_core.specs.State.{Snapshot}
use Rattle.fl_locks.specs.declared.row.Blocker.{Blocker}
use Rattle.fl_locks.specs.LockRows.{lock_on, holder, asker, goes_first, in_the_way_of, BlockersBlock}
use Rattle.fl_locks.proofs.FirstPids.{any-first_pids}

any_kept : {X Y : Type 0} (p : Y → Bool) (f : X → Y) (q : X → Bool) (xs : List X) →
    list_any p (map f (filter q xs)) ≡ list_any (λ (x : X). p (f x) && q x) xs
any_kept p f q [] = refl
any_kept p f q (x ∷ xs) = go (q x) (any_kept p f q xs)
  where
    passes : (a : Bool) → a ≡ (a && true)
    passes true = refl
    passes false = refl

    fails : (a : Bool) → (a && false) ≡ false
    fails true = refl
    fails false = refl

    go : (b : Bool) → list_any p (map f (filter q xs)) ≡ list_any (λ x. p (f x) && q x) xs →
        list_any p (map f (cond b (x ∷ filter q xs) (filter q xs))) ≡ ((p (f x) && b) || list_any (λ x. p (f x) && q x) xs)
    go true h = λ i. passes (p (f x)) i || h i
    go false h = h ∙ ap (λ (b : Bool). b || list_any (λ x. p (f x) && q x) xs) (sym (fails (p (f x))))

-- the lock that a request for a record lock wants
abbrev wanted : Request → Mark → Wish
wanted r mark = record { key = key_of r.node r.ask; start = start_of r.ask; end = end_of r.ask; kind = mark.kind }

own : (r : Request) (v : Wish) → wish_of r ≡ Some v → v.key.owner ≡ r.ask.owner
own r v is = go (is_flock r.ask) (mark_of r.ask) is
  where
    go : (b : Bool) (o : Option Mark) → cond b None (option_map (wanted r) o) ≡ Some v → v.key.owner ≡ r.ask.owner
    go true o e = absurd (cc e)
    go false None e = absurd (cc e)
    go false (Some mark) e = let same : wanted r mark ≡ v = cc e in sym (ap (λ (w : Wish). w.key.owner) same)

-- which older requests go first, as requests and as what they want
any_older : (owner : ℕ) (w : Wish) (older : List Request) →
    list_any (λ (r : Request). (r.ask.owner == owner) && goes_first w r) older
    ≡ list_any (λ (v : Wish). only owner (owner_of v) && older_blocks w v) (wishes older)
any_older owner w [] = refl
any_older owner w (r ∷ older) = go (wish_of r) refl (any_older owner w older)
  where
    none : (a x : Bool) → ((a && false) || x) ≡ x
    none true x = refl
    none false x = refl

    one : (a b x : Bool) → ((a && (b || false)) || x) ≡ ((a && b) || x)
    one true true x = refl
    one true false x = refl
    one false b x = refl

    go : (o : Option Wish) → wish_of r ≡ o →
        list_any (λ (r : Request). (r.ask.owner == owner) && goes_first w r) older
        ≡ list_any (λ (v : Wish). only owner (owner_of v) && older_blocks w v) (wishes older)
        → (((r.ask.owner == owner) && list_any (older_blocks w) (cons_option o [])) || list_any (λ (r : Request). (r.ask.owner == owner) && goes_first w r) older)
        ≡ list_any (λ (v : Wish). only owner (owner_of v) && older_blocks w v) (cons_option o (wishes older))
    go None is h = none (r.ask.owner == owner) _ ∙ h
    go (Some v) is h =
        one (r.ask.owner == owner) (older_blocks w v) _
        ∙ (λ i. ((sym (own r v is) i == owner) && older_blocks w v) || h i)

pub who_blocks : (s : Snapshot) → ConflictAsMarks s.marking (runs_in_order s.marking) → BlockersBlock s
who_blocks s conflict older w owner range =
    let runs = runs_in_order s.marking in
    let p : Blocker → Bool = λ b. b.owner == owner in
    let held = map holder (filter (λ (r : Run). older_blocks w (lock_on r)) runs) in
    any-first_pids owner (in_the_way_of s.rules runs older w)
    ∙ list_any-append p held (cond s.rules.fair (map asker (filter (goes_first w) older)) [])
    ∙ (λ i. (any_kept p holder (λ (r : Run). older_blocks w (lock_on r)) runs ∙ conflict (only owner) w.key w.start w.end w.kind range) i
    || fairly s.rules.fair i)
  where
    fairly : (b : Bool) → list_any (λ (c : Blocker). c.owner == owner) (cond b (map asker (filter (goes_first w) older)) [])
        ≡ (b && list_any (λ (v : Wish). only owner (owner_of v) && older_blocks w v) (wishes older))
    fairly true = any_kept (λ (c : Blocker). c.owner == owner) asker (goes_first w) older ∙ any_older owner w older
    fairly false = refl
