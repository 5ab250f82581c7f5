-- Which requests still wait once locks have changed.
use Rattle.std.proofs.Common.{◌≡◌, ℕ, ◌==◌, ◌&&◌, Bool, true, false, cond, not, ◌||◌, nat_le, option_map, Option, Some}
use Rattle.std.proofs.Common.{None, List, [], ◌∷◌, ◌++◌, append-nil, refl, sym, ap, ◌∙◌, subst, arith}
use Rattle.std.proofs.lemmas.Bool.Decides.{nat_tests}
use Rattle.std.specs.List.{filter, AllByRecursion}
use Rattle.fl_core.specs.Inside.Touched.{concerns, concerns_request, SameOff, OthersWait}
use Rattle.fl_waiting.specs.LockRequest.{is_flock, key_of, start_of, end_of, mark_of, stroke_of}
use Rattle.fl_waiting.specs.Waiting.{Wish, wish_on, wish_of, older_blocks, any_older_blocks, anyone}
use Rattle.fl_waiting.specs.Waiting.{is_blocked_by_older, conflicts_with_held, passes_free, waits, taken_behind}
use Rattle.fl_waiting.specs.Waiting.{AllBehind, AllWait}
use Rattle.fl_core.specs.Settling.{free_behind, oldest_free}
use Rattle.fl_waiting.specs.declared.parked.Request.{Request}
use Rattle.fl_waiting.specs.declared.rules.Rules.{Rules}
use Rattle.fl_core.specs.declared.settling.Touched.{Touched}
use Rattle.fl_core.specs.declared.settling.Touched.TheVariants.{Nothing, OfClass, OfNode, Anything}
use Rattle.fl_core.proofs.Alone.{waits_alone, waits_by, waits_unfair, each_so, behind_more, behind_parts, behind_both}
use Rattle.fl_core.proofs.Alone.{behind_less, behind_without}
use Rattle.fl_core.proofs.Taken.{keep}
use Rattle.fl_marks.specs.declared.lock.Class.{Class}
use Rattle.fl_marks.specs.declared.lock.Key.{Key}
use Rattle.fl_marks.specs.declared.lock.Kind.{Kind}
use Rattle.fl_marks.specs.declared.lock.Mark.{Mark}
use Rattle.fl_marks.specs.Conflict.{conflicts, kinds_conflict, SameElsewhere}
use Rattle.fl_marks.specs.Marking.{Marking, Stroke, class_number}

conflict_same : (m n : Marking) (s : Stroke) (mark : Option Mark)
    → ((kind : Kind) → conflicts n s.key s.start s.end kind ≡ conflicts m s.key s.start s.end kind) → conflicts_with_held n s mark ≡ conflicts_with_held m s mark
conflict_same m n s None same = refl
conflict_same m n s (Some mark) same = same mark.kind

-- if nothing changed for requests that aren't concerned, they still wait
pub others_after : (t : Touched) (rules : Rules) (m n : Marking) (parked : List Request)
    → ((r : Request) → concerns_request t r ≡ false → waits_alone n r ≡ waits_alone m r) → OthersWait t rules m parked → OthersWait t rules n parked
others_after t rules m n parked same all = each_so _ _ (λ older r waits apart.
    waits_by rules n older r ∙ ap (λ b. b || is_blocked_by_older rules older r) (same r apart) ∙ sym (waits_by rules m older r) ∙ waits apart) [] parked all

pub others_kept : (t : Touched) (rules : Rules) (m : Marking) (parked : List Request) → AllWait rules m parked → OthersWait t rules m parked
others_kept t rules m parked all = each_so _ _ (λ older r waits apart. waits) [] parked all

-- all wait if no lock was touched that one of them waits for
pub none_concerned : (t : Touched) (rules : Rules) (m : Marking) (parked : List Request)
    → AllByRecursion (λ (r : Request). concerns_request t r ≡ false) parked → OthersWait t rules m parked → AllWait rules m parked
none_concerned t rules m parked none all = go [] parked none all
  where
    go : (older parked : List Request) → AllByRecursion (λ (r : Request). concerns_request t r ≡ false) parked
        → AllBehind (λ older r. concerns_request t r ≡ false → waits rules m older r ≡ true) older parked
        → AllBehind (λ older r. waits rules m older r ≡ true) older parked
    go older [] none all = tt
    go older (r ∷ parked) none all = (all.0 none.0, go (older ++ r ∷ []) parked none.1 all.1)

-- if no other lock was touched each that isn't concerned still waits
pub others_off : (t : Touched) (rules : Rules) (m n : Marking) (parked : List Request) → SameOff t m n → AllWait rules m parked → OthersWait t rules n parked
others_off t rules m n parked off all =
    others_after t rules m n parked (λ r apart. let s = stroke_of r.node r.ask in conflict_same m n s (mark_of r.ask) (λ kind. off s.key s.start s.end kind apart))
    (others_kept t rules m parked all)

-- a test of those alone that are concerned finds the oldest that is free
pub free_found : (t : Touched) (rules : Rules) (m : Marking) (parked : List Request) → OthersWait t rules m parked
    → taken_behind (passes_free rules (λ r. concerns_request t r && not (waits_alone m r))) [] parked ≡ oldest_free rules m parked
unfolding taken_behind free_behind
free_found t rules m parked others = go [] parked others
  where
    one : (concerned alone older waiting : Bool) → waiting ≡ (alone || older) → (concerned ≡ false → waiting ≡ true)
        → ((concerned && not alone) && not older) ≡ not waiting
    one true true older waiting e f = ap not (sym e)
    one true false older waiting e f = ap not (sym e)
    one false alone older waiting e f = ap not (sym (f refl))

    by : (passing waiting : Bool) (r : Request) (parked : List Request) {x y : Option (Request × List Request)} → passing ≡ not waiting → x ≡ y
        → cond passing (Some (r, parked)) (keep r x) ≡ cond waiting (keep r y) (Some (r, parked))
    by passing true r parked {x} {y} e same = ap (λ b. cond b (Some (r, parked)) (keep r x)) e ∙ ap (keep r) same
    by passing false r parked {x} {y} e same = ap (λ b. cond b (Some (r, parked)) (keep r x)) e

    go : (older parked : List Request) → AllBehind (λ older r. concerns_request t r ≡ false → waits rules m older r ≡ true) older parked
        → taken_behind (passes_free rules (λ r. concerns_request t r && not (waits_alone m r))) older parked ≡ free_behind rules m older parked
    go older [] all = refl
    go older (r ∷ parked) all =
        by _ (waits rules m older r) r parked
        (one (concerns_request t r) (waits_alone m r) (is_blocked_by_older rules older r) (waits rules m older r) (waits_by rules m older r) all.0)
        (go (older ++ r ∷ []) parked all.1)

concerns_alike : (t : Touched) (n k : ℕ) (a b : Class) → class_number a ≡ class_number b → n ≡ k → concerns t n a ≡ concerns t k b
concerns_alike Nothing n k a b c e = refl
concerns_alike (OfClass node own) n k a b c e = λ i. (c i == class_number own) && (e i == node)
concerns_alike (OfNode node) n k a b c e = ap (λ x. x == node) e
concerns_alike Anything n k a b c e = refl

numbers_equal : (m n : ℕ) → (m == n) ≡ true → m ≡ n
numbers_equal m n e = grind (arith, nat_tests)

pub both_true : (a b : Bool) → (a && b) ≡ true → (a ≡ true) × (b ≡ true)
both_true true b e = (refl, e)
both_true false b e = absurd (cc e)

-- a lock that is given to a request which is concerned leaves those waiting that aren't
pub off_granted : (t : Touched) (given r : Request) → concerns_request t given ≡ true → concerns_request t r ≡ false
    → ((class_number (key_of r.node r.ask).class == class_number (key_of given.node given.ask).class) && (r.node == given.node)) ≡ false
off_granted t given r there apart = go _ refl
  where
    go : (b : Bool) → ((class_number (key_of r.node r.ask).class == class_number (key_of given.node given.ask).class) && (r.node == given.node)) ≡ b → b ≡ false
    go false e = refl
    go true e =
        let parts = both_true _ _ e in
        absurd (cc (sym apart ∙ concerns_alike t r.node given.node (key_of r.node r.ask).class (key_of given.node given.ask).class (numbers_equal _ _ parts.0)
        (numbers_equal _ _ parts.1) ∙ there))

concerned : (t : Touched) (waiting : Bool) (r : Request) (b : Bool) → concerns_request t r ≡ b → (concerns_request t r ≡ false → waiting ≡ true)
    → waiting ≡ false → concerns_request t r ≡ true
concerned t waiting r true e others free = e
concerned t waiting r false e others free = absurd (cc (sym (others e) ∙ free))

no_contender : (a b c d : Bool) → (a && b) ≡ false → ((a && (b && c)) && d) ≡ false
no_contender true true c d e = absurd (cc e)
no_contender true false c d e = refl
no_contender false b c d e = refl

-- a request that is concerned goes before none that isn't
no_say : (t : Touched) (rules : Rules) (gone r : Request) → concerns_request t gone ≡ true → concerns_request t r ≡ false
    → (k : Mark) (v : Wish) → wish_of gone ≡ Some v → any_older_blocks rules anyone (v ∷ []) (wish_on (stroke_of r.node r.ask) k) ≡ false
no_say t rules gone r there apart k v wants = go (is_flock gone.ask) refl (mark_of gone.ask) wants
  where
    key_there : (o : Option Mark) → option_map
        (λ (mark : Mark). record { key = key_of gone.node gone.ask; start = start_of gone.ask; end = end_of gone.ask; kind = mark.kind }) o ≡ Some v
        → v.key ≡ key_of gone.node gone.ask
    key_there None e = absurd (cc e)
    key_there (Some mark) e =
        let same : ◌≡◌ {A = Wish} (record { key = key_of gone.node gone.ask; start = start_of gone.ask; end = end_of gone.ask; kind = mark.kind }) v = cc e in
        sym (ap (λ (w : Wish). w.key) same)

    unfair_or : (fair b : Bool) → b ≡ false → (fair && (b || false)) ≡ false
    unfair_or true b e = ap (λ c. c || false) e
    unfair_or false b e = refl

    apart_keys : (key : Key) → key ≡ key_of gone.node gone.ask → older_blocks (wish_on (stroke_of r.node r.ask) k) (record v { key = key }) ≡ false
    apart_keys key is =
        ap (λ (x : Key). older_blocks (wish_on (stroke_of r.node r.ask) k) (record v { key = x })) is
        ∙ no_contender (class_number (key_of r.node r.ask).class == class_number (key_of gone.node gone.ask).class) (r.node == gone.node)
        (not (r.ask.owner == gone.ask.owner)) ((nat_le v.start (end_of r.ask) && nat_le (start_of r.ask) v.end) && kinds_conflict k.kind v.kind)
        (off_granted t gone r there apart)

    go : (flock : Bool) → is_flock gone.ask ≡ flock → (mark : Option Mark)
        → cond flock None (option_map
        (λ (mark : Mark). record { key = key_of gone.node gone.ask; start = start_of gone.ask; end = end_of gone.ask; kind = mark.kind }) mark) ≡ Some v
        → any_older_blocks rules anyone (v ∷ []) (wish_on (stroke_of r.node r.ask) k) ≡ false
    go true f mark e = absurd (cc e)
    go false f mark e = unfair_or rules.fair _ (apart_keys v.key (key_there mark e))

-- one of those that are concerned leaves
pub others_without : (t : Touched) (rules : Rules) (m : Marking) (older : List Request) (gone : Request) (younger : List Request)
    → concerns_request t gone ≡ true → OthersWait t rules m (older ++ gone ∷ younger) → OthersWait t rules m (older ++ younger)
others_without t rules m older gone younger there all =
    let P : List Request → Request → Type 0 = λ older r. concerns_request t r ≡ false → waits rules m older r ≡ true in
    let parts = behind_parts P [] older (gone ∷ younger) all in
    behind_both P [] older younger parts.0
    (subst (λ l. AllBehind P l younger) (append-nil older)
    (behind_less P gone (λ older younger r waits apart.
    waits_by rules m (older ++ younger) r ∙ ap (λ b. waits_alone m r || b) (sym (behind_without rules older gone younger r (no_say t rules gone r there apart)))
    ∙ sym (waits_by rules m (older ++ gone ∷ younger) r) ∙ waits apart) older [] younger parts.1.1))

-- the oldest that doesn't wait leaves, and its lock may be set
pub others_granted : (t : Touched) (rules : Rules) (m n : Marking) (older : List Request) (given : Request) (younger : List Request)
    → SameElsewhere (key_of given.node given.ask) m n → waits rules m older given ≡ false
    → OthersWait t rules m (older ++ given ∷ younger) → OthersWait t rules n (older ++ younger)
others_granted t rules m n older given younger elsewhere free all =
    let P : List Request → Request → Type 0 = λ older r. concerns_request t r ≡ false → waits rules m older r ≡ true in
    let parts = behind_parts P [] older (given ∷ younger) all in
    let there = concerned t (waits rules m older given) given _ refl parts.1.0 free in
    others_after t rules m n (older ++ younger) (λ r apart. let s = stroke_of r.node r.ask in conflict_same m n s (mark_of r.ask)
    (λ kind. elsewhere s.key s.start s.end kind (off_granted t given r there apart)))
    (others_without t rules m older given younger there all)

-- one request more that waits, behind the others
pub all_wait_more : (rules : Rules) (m : Marking) (parked : List Request) (r : Request) → AllWait rules m parked → waits rules m parked r ≡ true
    → AllWait rules m (parked ++ r ∷ [])
all_wait_more rules m parked r all here = behind_more (λ older r. waits rules m older r ≡ true) [] parked r all here

-- if no request waits behind another some may leave, and the others wait but for those that were touched
pub others_wait_left : (t : Touched) (rules : Rules) (m : Marking) (stays : Request → Bool) (parked : List Request) → rules.fair ≡ false
    → OthersWait t rules m parked → OthersWait t rules m (filter stays parked)
others_wait_left t rules m stays parked unfair all = go [] [] parked all
  where
    P : List Request → Request → Type 0
    P = λ older r. concerns_request t r ≡ false → waits rules m older r ≡ true

    go : (older others parked : List Request) → AllBehind (λ older r. concerns_request t r ≡ false → waits rules m older r ≡ true) older parked
        → AllBehind (λ older r. concerns_request t r ≡ false → waits rules m older r ≡ true) others (filter stays parked)
    go older others [] all = tt
    go older others (r ∷ parked) all =
        by (stays r) (go (older ++ r ∷ []) (others ++ r ∷ []) parked all.1) (go (older ++ r ∷ []) others parked all.1)
      where
        by : (b : Bool) → AllBehind (λ older r. concerns_request t r ≡ false → waits rules m older r ≡ true) (others ++ r ∷ []) (filter stays parked)
            → AllBehind (λ older r. concerns_request t r ≡ false → waits rules m older r ≡ true) others (filter stays parked)
            → AllBehind (λ older r. concerns_request t r ≡ false → waits rules m older r ≡ true) others (cond b (r ∷ filter stays parked) (filter stays parked))
        by true here gone = ((λ apart. waits_unfair rules m others older r unfair ∙ all.0 apart), here)
        by false here gone = gone

-- if any may be free
pub anything_may : (rules : Rules) (m : Marking) (parked : List Request) → OthersWait Anything rules m parked
anything_may rules m parked = go [] parked
  where
    go : (older parked : List Request) → AllBehind (λ older r. concerns_request Anything r ≡ false → waits rules m older r ≡ true) older parked
    go older [] = tt
    go older (r ∷ parked) = ((λ apart. absurd (cc apart)), go (older ++ r ∷ []) parked)
