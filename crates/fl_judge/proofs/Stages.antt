-- Each stage of an order of a quiet history keeps it so that no two parked record requests are of one owner, and that
-- owners don't wait in a circle.
use Rattle.std.proofs.Common.{◌≡◌, ◌≢◌, ℕ, zero, suc, ◌<◌, Bool, true, false, ◌&&◌, ◌||◌, not, ◌==◌, cond, ◌⊎◌, inl}
use Rattle.std.proofs.Common.{inr, ⊎_elim, Option, Some, None, option_map, List, [], ◌∷◌, ◌++◌}
use Rattle.std.proofs.Common.{slice_index_or, length, refl, ap, sym, ◌∙◌, subst, arith}
use Rattle.std.specs.List.{Contains, AllByRecursion, filter, cons_option, list_any}
use Rattle.std.proofs.lemmas.Bool.{eq-eqb, eqb-true}
use Rattle.std.proofs.lemmas.List.{append-nil, append_assoc}
use Rattle.std.proofs.lemmas.List.Elements.{filter_map-append}
use Rattle.std.proofs.lemmas.Option.{none-some}
use Rattle.std.specs.FinMap.{entries}
use Rattle.fl_waiting.specs.Circle.{Waiter, waiter_of, waiters_behind, waiters, behind, blocks, IsPath, ClosesCircle}
use Rattle.fl_waiting.specs.Circle.{is_record}
use Rattle.fl_core.specs.Settling.{Present}
use Rattle.fl_core.specs.Stages.{asked_by, wanted_by, GainsAtMost, OwnStage, changes, parks, LaterStage, leave, granted}
use Rattle.fl_core.specs.Stages.{AreLater, none, more, IsTakenInStages}
use Rattle.fl_waiting.specs.Waiting.{Wish, owner_of, wish_of, wishes, older_blocks}
use Rattle.fl_waiting.specs.declared.parked.Request.{Request}
use Rattle.fl_waiting.specs.declared.rules.Rules.{Rules}
use Rattle.fl_order.specs.declared.order.Order.{Order}
use Rattle.fl_judge.specs.Quiet.{asks_while_waiting, AreLone}
use Rattle.fl_judge.proofs.Circles.{none_once_parked, none_once_gained}
use Rattle.fl_marks.specs.Conflict.{are_of_two_owners, mark_conflicts_by}
use Rattle.fl_marks.specs.Marking.{Marking, class_number}
use Rattle.fl_marks.specs.declared.lock.Key.{Key}

-- ---- parts of lists of wishes

data Part : List Wish → List Wish → Type 0 where
  ends : Part [] []
  stays : {x : Wish} {xs ys : List Wish} → Part xs ys → Part (x ∷ xs) (x ∷ ys)
  goes : {y : Wish} {xs ys : List Wish} → Part xs ys → Part xs (y ∷ ys)

part_whole : (xs : List Wish) → Part xs xs
part_whole [] = ends
part_whole (x ∷ xs) = stays (part_whole xs)

part_past : (w : Option Wish) {xs ys : List Wish} → Part xs ys → Part xs (cons_option w ys)
part_past None p = p
part_past (Some w) p = goes p

part_beside : (w : Option Wish) {xs ys : List Wish} → Part xs ys → Part (cons_option w xs) (cons_option w ys)
part_beside None p = p
part_beside (Some w) p = stays p

-- requests leave
part_filtered : (test : Request → Bool) (parked : List Request) → Part (wishes (filter test parked)) (wishes parked)
part_filtered test [] = ends
part_filtered test (r ∷ parked) = go (test r) (part_filtered test parked)
  where
    go : (b : Bool) → Part (wishes (filter test parked)) (wishes parked)
        → Part (wishes (cond b (r ∷ filter test parked) (filter test parked))) (wishes (r ∷ parked))
    go true p = part_beside (wish_of r) p
    go false p = part_past (wish_of r) p

-- one leaves
part_without : (older : List Request) (r : Request) (younger : List Request) → Part (wishes (older ++ younger)) (wishes (older ++ r ∷ younger))
part_without [] r younger = part_past (wish_of r) (part_whole (wishes younger))
part_without (a ∷ older) r younger = part_beside (wish_of a) (part_without older r younger)

head_or_in : {A : Type 0} (x : A) (xs : List A) (s : A) (k : ℕ) → k < length (x ∷ xs) → slice_index_or (x ∷ xs) k s ≡ s → (x ≡ s) ⊎ Contains xs s
head_or_in x xs s zero below is = inl is
head_or_in x xs s (suc k) below is = inr (k, omega (arith, below), is)

part_has : {xs ys : List Wish} → Part xs ys → (s : Wish) → Contains xs s → Contains ys s
part_has ends s there = there
part_has (stays {x = x} {xs = xs} {ys = ys} p) s there =
    ⊎_elim (λ is. (0, omega arith, is)) (λ (there : Contains xs s). let i = part_has p s there in (suc i.0, omega (arith, i.1), i.2))
    (head_or_in x xs s there.0 there.1 there.2)
part_has (goes p) s there = let i = part_has p s there in (suc i.0, omega (arith, i.1), i.2)

part_all : (P : Wish → Type 0) {xs ys : List Wish} → Part xs ys → AllByRecursion P ys → AllByRecursion P xs
part_all P ends all = tt
part_all P (stays p) all = (all.0, part_all P p all.1)
part_all P (goes p) all = part_all P p all.1

all_has : (P : Wish → Type 0) (xs : List Wish) (s : Wish) → AllByRecursion P xs → Contains xs s → P s
all_has P [] s all there = absurd (omega (arith, there.1))
all_has P (x ∷ xs) s all there = ⊎_elim (λ is. subst P is all.0) (λ i. all_has P xs s all.1 i) (head_or_in x xs s there.0 there.1 there.2)

part_empty : (ys : List Wish) → Part [] ys
part_empty [] = ends
part_empty (y ∷ ys) = goes (part_empty ys)

-- both get one more at the end
part_more : {xs ys : List Wish} (x : Wish) → Part xs ys → Part (xs ++ x ∷ []) (ys ++ x ∷ [])
part_more x ends = stays ends
part_more x (stays p) = stays (part_more x p)
part_more x (goes p) = goes (part_more x p)

-- the greater one alone does
part_less : {xs ys : List Wish} (x : Wish) → Part xs ys → Part xs (ys ++ x ∷ [])
part_less x ends = goes ends
part_less x (stays p) = stays (part_less x p)
part_less x (goes p) = goes (part_less x p)

-- what one of them passes, one of the greater list does
part_any : (test : Wish → Bool) {xs ys : List Wish} → Part xs ys → list_any test xs ≡ true → list_any test ys ≡ true
part_any test ends h = h
part_any test (stays {x = x} p) h = go (test x) (part_any test p) h
  where
    go : (b : Bool) {c d : Bool} → (c ≡ true → d ≡ true) → (b || c) ≡ true → (b || d) ≡ true
    go true rest h = refl
    go false rest h = rest h
part_any test (goes {y = y} p) h = go (test y) (part_any test p h)
  where
    go : (b : Bool) {d : Bool} → d ≡ true → (b || d) ≡ true
    go true e = refl
    go false e = e

-- ---- who waits, and what is wanted

wanted_there : (older ws : List Wish) (s : Waiter) → Contains (waiters_behind older ws) s → Contains ws s.wish
wanted_there older [] s there = absurd (omega (arith, there.1))
wanted_there older (w ∷ ws) s there =
    ⊎_elim (λ is. (0, omega arith, ap (λ (t : Waiter). t.wish) is))
    (λ (there : Contains (waiters_behind (older ++ w ∷ []) ws) s). let i = wanted_there (older ++ w ∷ []) ws s there in (suc i.0, omega (arith, i.1), i.2))
    (head_or_in (behind older w) (waiters_behind (older ++ w ∷ []) ws) s there.0 there.1 there.2)

-- if fewer wait, one who waits did so before, behind no fewer
waiter_there : {fewer older xs ys : List Wish} → Part fewer older → Part xs ys → (s : Waiter) → Contains (waiters_behind fewer xs) s
    → (t : Waiter) × Contains (waiters_behind older ys) t × (t.wish ≡ s.wish) × Part s.older t.older
waiter_there before ends s there = absurd (omega (arith, there.1))
waiter_there {fewer} {older} before (stays {x = x} {xs = xs} {ys = ys} p) s there =
    ⊎_elim (λ is. (behind older x, (0, omega arith, refl), ap (λ (t : Waiter). t.wish) is, subst (λ (t : Waiter). Part t.older older) is before))
    (λ (there : Contains (waiters_behind (fewer ++ x ∷ []) xs) s).
    let t = waiter_there (part_more x before) p s there in (t.0, (suc t.1.0, omega (arith, t.1.1), t.1.2), t.2, t.3))
    (head_or_in (behind fewer x) (waiters_behind (fewer ++ x ∷ []) xs) s there.0 there.1 there.2)
waiter_there before (goes {y = y} p) s there =
    let t = waiter_there (part_less y before) p s there in (t.0, (suc t.1.0, omega (arith, t.1.1), t.1.2), t.2, t.3)

-- who keeps one waiting behind some keeps it waiting behind more
blocks_more : (rules : Rules) (m : Marking) (s t : Waiter) (q : ℕ) → t.wish ≡ s.wish → Part s.older t.older → blocks rules m s q ≡ true → blocks rules m t q ≡ true
blocks_more rules m s t q same part h =
    subst (λ (w : Wish). blocks rules m (behind t.older w) q ≡ true) (sym same)
    (go (is_record s.wish.key.class) (list_any (mark_conflicts_by s.wish.key s.wish.start s.wish.end s.wish.kind q) (entries m)) rules.fair
    (part_any (λ (v : Wish). (owner_of v == q) && older_blocks s.wish v) part) h)
  where
    go : (record_ held fair : Bool) {c d : Bool} → (c ≡ true → d ≡ true) → (record_ && (held || (fair && c))) ≡ true → (record_ && (held || (fair && d))) ≡ true
    go true true fair on h = refl
    go true false true on h = on h
    go true false false on h = h
    go false held fair on h = absurd (cc h)

-- one more waits behind the others
waiters_pushed : (older ws : List Wish) (w : Wish) → waiters_behind older (ws ++ w ∷ []) ≡ waiters_behind older ws ++ behind (older ++ ws) w ∷ []
waiters_pushed older [] w = ap (λ xs. behind xs w ∷ []) (sym (append-nil older))
waiters_pushed older (v ∷ ws) w =
    ap (λ l. behind older v ∷ l) (waiters_pushed (older ++ v ∷ []) ws w)
    ∙ ap (λ xs. (behind older v ∷ waiters_behind (older ++ v ∷ []) ws) ++ behind xs w ∷ []) (append_assoc older (v ∷ []) ws)

-- ---- owners of wishes

-- none of the wishes is this owner's
abbrev NoneOf : ℕ → List Wish → Type 0
NoneOf owner ws = AllByRecursion (λ (w : Wish). owner_of w ≢ owner) ws

part_lone : {xs ys : List Wish} → Part xs ys → AreLone ys → AreLone xs
part_lone ends lone = tt
part_lone (stays {x = x} p) lone = (part_all (λ (w : Wish). owner_of w ≢ owner_of x) p lone.0, part_lone p lone.1)
part_lone (goes p) lone = part_lone p lone.1

neither : (x y : Bool) → (x || y) ≡ false → (x ≡ false) × (y ≡ false)
neither true y e = absurd (cc e)
neither false y e = (refl, e)

none_found : (owner : ℕ) (ws : List Wish) → list_any (λ (w : Wish). owner_of w == owner) ws ≡ false → NoneOf owner ws
none_found owner [] e = tt
none_found owner (w ∷ ws) e =
    let both = neither (owner_of w == owner) (list_any (λ (w : Wish). owner_of w == owner) ws) e in
    (λ is. cc (eq-eqb (owner_of w) owner is, both.0), none_found owner ws both.1)

-- who asks has no wish there
asker_lone : (asked : Option ℕ) (parked : List Request) → asks_while_waiting asked parked ≡ false
    → (s : Wish) → Contains (wishes parked) s → asked ≢ Some (owner_of s)
asker_lone None parked quiet s there is = none-some (owner_of s) is
asker_lone (Some owner) parked quiet s there is =
    all_has (λ (w : Wish). owner_of w ≢ owner) (wishes parked) s (none_found owner (wishes parked) quiet) there (sym (cc is))

-- one more, of an owner that has none of the others
lone_pushed : (ws : List Wish) (w : Wish) → AreLone ws → ((s : Wish) → Contains ws s → owner_of w ≢ owner_of s) → AreLone (ws ++ w ∷ [])
lone_pushed [] w lone others = (tt, tt)
lone_pushed (x ∷ ws) w lone others = (
  pushed_none (owner_of x) ws lone.0 (others x (0, omega arith, refl)),
  lone_pushed ws w lone.1 (λ s i. others s (suc i.0, omega (arith, i.1), i.2)),
)
  where
    pushed_none : (owner : ℕ) (ws : List Wish) → NoneOf owner ws → owner_of w ≢ owner → NoneOf owner (ws ++ w ∷ [])
    pushed_none owner [] all other = (other, tt)
    pushed_none owner (y ∷ ws) all other = (all.0, pushed_none owner ws all.1 other)

-- of a request among others
all_of : (P : Wish → Type 0) (older : List Request) (r : Request) (younger : List Request) (w : Wish) → wish_of r ≡ Some w
    → AllByRecursion P (wishes (older ++ r ∷ younger)) → P w
all_of P [] r younger w wants all = (subst (λ o. AllByRecursion P (cons_option o (wishes younger))) wants all).0
all_of P (a ∷ older) r younger w wants all = go (wish_of a) (all_of P older r younger w wants) all
  where
    go : (o : Option Wish) → (AllByRecursion P (wishes (older ++ r ∷ younger)) → P w)
        → AllByRecursion P (cons_option o (wishes (older ++ r ∷ younger))) → P w
    go None rest all = rest all
    go (Some v) rest all = rest all.1

-- the owner of one that leaves has none of the others
lone_without : (older : List Request) (r : Request) (younger : List Request) (w : Wish) → wish_of r ≡ Some w
    → AreLone (wishes (older ++ r ∷ younger)) → NoneOf (owner_of w) (wishes (older ++ younger))
lone_without [] r younger w wants lone = (subst (λ o. AreLone (cons_option o (wishes younger))) wants lone).0
lone_without (a ∷ older) r younger w wants lone = go (wish_of a) (lone_without older r younger w wants) lone
  where
    go : (o : Option Wish) → (AreLone (wishes (older ++ r ∷ younger)) → NoneOf (owner_of w) (wishes (older ++ younger)))
        → AreLone (cons_option o (wishes (older ++ r ∷ younger))) → NoneOf (owner_of w) (cons_option o (wishes (older ++ younger)))
    go None rest lone = rest lone
    go (Some v) rest lone =
        (λ is. all_of (λ (u : Wish). owner_of u ≢ owner_of v) older r younger w wants lone.0 (sym is), rest lone.1)

-- ---- what each stage keeps

-- no two parked record requests are of one owner, and owners don't wait in a circle
pub record IsSound (rules : Rules) (s : Present) : Type 0 where
  pub lone : AreLone (wishes s.parked)
  pub free : (first : ℕ) (others : List ℕ) → IsPath waiter_of (blocks rules s.marking) (waiters s.parked) first others first → ⊥

gained_sound : (rules : Rules) (before after : Present) (gainer : Option ℕ) → Part (wishes after.parked) (wishes before.parked)
    → GainsAtMost rules gainer before.marking after.marking → ((s : Wish) → Contains (wishes after.parked) s → gainer ≢ Some (owner_of s))
    → IsSound rules before → IsSound rules after
gained_sound rules before after gainer part gains lone sound = record {
  lone = part_lone part sound.lone;
  free = none_once_gained waiter_of (blocks rules before.marking) (blocks rules after.marking) (waiters before.parked) (waiters after.parked) gainer
      (λ s there. lone s.wish (wanted_there [] (wishes after.parked) s there)) was sound.free;
}
  where
    -- who waits after it waited before for the same lock, behind no fewer
    was : (s : Waiter) → Contains (waiters after.parked) s
        → (t : Waiter) × Contains (waiters before.parked) t × (waiter_of t ≡ waiter_of s)
        × ((q : ℕ) → gainer ≢ Some q → blocks rules after.marking s q ≡ true → blocks rules before.marking t q ≡ true)
    was s there =
        let t = waiter_there ends part s there in
        (t.0, t.1, ap owner_of t.2, λ q other h. blocks_more rules before.marking s t.0 q t.2 t.3 (gains s q other h))

-- if the locks stay nobody gains
nobody_gains : (rules : Rules) (before after : Marking) → after ≡ before → GainsAtMost rules None before after
nobody_gains rules before after same w owner _ h = subst (λ m. blocks rules m w owner ≡ true) same h

later_stage : {rules : Rules} {before after : Present} → LaterStage rules before after → IsSound rules before → IsSound rules after
later_stage {rules = rules} {before = before} {after = after} (leave test marks parked) sound =
    gained_sound rules before after None (subst (λ l. Part (wishes l) (wishes before.parked)) (sym parked) (part_filtered test before.parked))
    (nobody_gains rules before.marking after.marking marks) (λ s there. none-some (owner_of s)) sound
later_stage {rules = rules} {before = before} {after = after} (granted older r younger was is gains) sound =
    gained_sound rules before after (wanted_by r)
    (subst (λ l. Part (wishes l) (wishes before.parked)) (sym is) (subst (λ l. Part (wishes (older ++ younger)) (wishes l)) (sym was) (part_without older r younger)))
    gains (λ s there. lone (wish_of r) refl s (subst (λ l. Contains (wishes l) s) is there)) sound
  where
    lone : (o : Option Wish) → wish_of r ≡ o → (s : Wish) → Contains (wishes (older ++ younger)) s → wanted_by r ≢ Some (owner_of s)
    lone None wants s there same = none-some (owner_of s) (cc (same, wants))
    lone (Some w) wants s there same =
        all_has (λ (v : Wish). owner_of v ≢ owner_of w) (wishes (older ++ younger)) s
        (lone_without older r younger w wants (subst (λ l. AreLone (wishes l)) was sound.lone)) there (cc (same, wants))

-- nobody keeps its own lock from being set
never_both : (t u x y z : Bool) → (t ≡ true → u ≡ true) → (t && ((x && (y && not u)) && z)) ≡ false
never_both false u x y z so = refl
never_both true false x y z so = absurd (cc (so refl))
never_both true true true true z so = refl
never_both true true true false z so = refl
never_both true true false y z so = refl

none_by : {A : Type 0} (test : A → Bool) (xs : List A) → ((x : A) → test x ≡ false) → list_any test xs ≡ false
none_by test [] fails = refl
none_by test (x ∷ xs) fails = λ i. fails x i || none_by test xs fails i

contender_of_none : (a b : Key) (c : Bool) → ((b.owner == a.owner) && (are_of_two_owners a b && c)) ≡ false
contender_of_none a b c =
    never_both (b.owner == a.owner) (a.owner == b.owner) (class_number a.class == class_number b.class) (a.node == b.node) c
    (λ same. eq-eqb a.owner b.owner (sym (eqb-true b.owner a.owner same)))

own_none : (rules : Rules) (m : Marking) (w : Waiter) → blocks rules m w (waiter_of w) ≡ true → ⊥
own_none rules m w h =
    let k = w.wish in
    go (is_record k.key.class) rules.fair
    (none_by (mark_conflicts_by k.key k.start k.end k.kind k.key.owner) (entries m) (λ e. contender_of_none k.key e.0.0 _))
    (none_by (λ (v : Wish). (owner_of v == k.key.owner) && older_blocks k v) w.older (λ v. contender_of_none k.key v.key _)) h
  where
    go : (b f : Bool) {c d : Bool} → c ≡ false → d ≡ false → (b && (c || (f && d))) ≡ true → ⊥
    go true true clear alone h = cc (clear, alone, h)
    go true false clear alone h = cc (clear, h)
    go false f clear alone h = cc h

parked_sound : (rules : Rules) (before after : Present) (r : Request) (w : Wish) → wish_of r ≡ Some w
    → ((s : Wish) → Contains (wishes before.parked) s → owner_of w ≢ owner_of s)
    → (ClosesCircle rules before.marking before.parked r → ⊥) → after.marking ≡ before.marking → after.parked ≡ before.parked ++ r ∷ []
    → wishes after.parked ≡ wishes before.parked ++ w ∷ [] → IsSound rules before → IsSound rules after
parked_sound rules before after r w wants others closes marks parked are sound = record {
  lone = subst AreLone (sym are) (lone_pushed (wishes before.parked) w sound.lone others);
  free =
      subst (λ m. (first : ℕ) (rest : List ℕ) → IsPath waiter_of (blocks rules m) (waiters after.parked) first rest first → ⊥) (sym marks)
      (subst (λ ws. (first : ℕ) (rest : List ℕ) → IsPath waiter_of (blocks rules before.marking) ws first rest first → ⊥)
      (sym (ap (waiters_behind []) are ∙ waiters_pushed [] (wishes before.parked) w))
      (none_once_parked waiter_of (blocks rules before.marking) (waiters before.parked) (behind (wishes before.parked) w) sound.free
      (λ circle. closes (record { wish = w; wants = wants; circle = circle })) (own_none rules before.marking (behind (wishes before.parked) w))));
}

own_stage : {rules : Rules} {order : Order} {before after : Present} → OwnStage rules order before after → asks_while_waiting (asked_by order.op) before.parked ≡ false
    → IsSound rules before → IsSound rules after
own_stage {rules = rules} {order = order} {before = before} {after = after} (changes gains parked) quiet sound =
    gained_sound rules before after (asked_by order.op) (subst (λ l. Part (wishes l) (wishes before.parked)) (sym parked) (part_whole (wishes before.parked)))
    gains (λ s there. asker_lone (asked_by order.op) before.parked quiet s (subst (λ l. Contains (wishes l) s) parked there)) sound
own_stage {rules = rules} {order = order} {before = before} {after = after} (parks r wanted closes marks parked) quiet sound = go (wish_of r) refl
  where
    pushed : wishes after.parked ≡ wishes before.parked ++ cons_option (wish_of r) []
    pushed = ap wishes parked ∙ filter_map-append wish_of before.parked (r ∷ [])

    go : (o : Option Wish) → wish_of r ≡ o → IsSound rules after
    go None wants =
        gained_sound rules before after None
        (subst (λ ws. Part ws (wishes before.parked))
        (sym (pushed ∙ ap (λ o. wishes before.parked ++ cons_option o []) wants ∙ append-nil (wishes before.parked))) (part_whole (wishes before.parked)))
        (nobody_gains rules before.marking after.marking marks) (λ s there. none-some (owner_of s)) sound
    go (Some w) wants =
        parked_sound rules before after r w wants
        (λ s there same. asker_lone (asked_by order.op) before.parked quiet s there (sym wanted ∙ ap (option_map owner_of) wants ∙ ap (λ n. Some n) same))
        closes marks parked (pushed ∙ ap (λ o. wishes before.parked ++ cons_option o []) wants) sound

all_later : {rules : Rules} {before after : Present} → AreLater rules before after → IsSound rules before → IsSound rules after
all_later none sound = sound
all_later (more stage rest) sound = all_later rest (later_stage stage sound)

-- an order that isn't asked while its asker waits keeps it
pub step_sound : (rules : Rules) (order : Order) (before after : Present) → IsTakenInStages rules order before after
    → asks_while_waiting (asked_by order.op) before.parked ≡ false → IsSound rules before → IsSound rules after
step_sound rules order before after taken quiet sound = all_later taken.later (own_stage taken.own quiet sound)
