-- How many requests of a unique lines can have parked.
use Rattle.std.proofs.Common.{◌≡◌, ℕ, ◌+◌, ◌-◌, ◌≤◌, Bool, true, false, ◌||◌, List, [], ◌∷◌, ◌++◌, Option, None, Some}
use Rattle.std.proofs.Common.{refl, sym, ap, subst, ◌∙◌, arith}
use Rattle.std.specs.Prelude.{fold, if◌then◌else◌, option_map, ◌==◌, Result}
use Rattle.std.proofs.lemmas.Bool.{eq-eqb, eqb-true, ne_eqb}
use Rattle.std.proofs.lemmas.Grind.{fold-append}
use Rattle.fl_core.specs.Effects.{Effect, at_once, by_reply, followed_by, later, later_to, replied, request_of, told_first, waited_for, with_waiter}
use Rattle.fl_core.specs.State.{State, View}
use Rattle.fl_desk.specs.Replay.{Reading, committed, read_line, read_reply, state_after, unread}
use Rattle.fl_history.specs.declared.history.Line.{Line}
use Rattle.fl_history.specs.declared.history.Line.TheVariants as line
use Rattle.fl_order.specs.declared.errno.Errno.{Errno}
use Rattle.fl_order.specs.declared.order.LockAsk.{LockAsk}
use Rattle.fl_order.specs.declared.order.Order.{Order}
use Rattle.fl_order.specs.declared.state_part.StateLine.TheVariants as state
use Rattle.fl_order.specs.declared.state_part.StatePart.TheVariants as part
use Rattle.fl_order.specs.declared.told.Answer.{Answer}
use Rattle.fl_order.specs.declared.told.Told.{Told}
use Rattle.fl_session.specs.Known.{HaveNothing, HaveReply, IsOf}
use Rattle.fl_waiting.specs.Waiting.{is_parked, taken_first, taken_out}
use Rattle.fl_waiting.specs.declared.parked.Request.{Request}
use Rattle.fl_waiting.specs.declared.rules.Rules.{Rules}

abbrev pub bit : Bool → ℕ
bit true = 1
bit false = 0

-- so many requests have this unique
abbrev pub many : ℕ → List Request → ℕ
many u [] = 0
many u (r ∷ parked) = bit (r.unique == u) + many u parked

pub many_append : (u : ℕ) (xs ys : List Request) → many u (xs ++ ys) ≡ many u xs + many u ys
many_append u [] ys = omega arith
many_append u (x ∷ xs) ys = let more = many_append u xs ys in omega (arith, more)

free_by : (b rest : Bool) (n : ℕ) → bit b + n ≡ 0 → (n ≡ 0 → rest ≡ false) → (b || rest) ≡ false
free_by true rest n e more = absurd (omega (arith, e))
free_by false rest n e more = more (omega (arith, e))

none_parked : (u : ℕ) (parked : List Request) → many u parked ≡ 0 → is_parked u parked ≡ false
none_parked u [] e = refl
none_parked u (r ∷ parked) e = free_by (r.unique == u) (is_parked u parked) (many u parked) e (none_parked u parked)

-- ---- one is taken out

-- what a search leaves
abbrev left_by : Option (Request × List Request) → List Request → List Request
left_by None parked = parked
left_by (Some p) parked = p.1

-- one less of the unique that was looked for, and no more of any other
pub record AreFewer (u v : ℕ) (before after : List Request) : Type 0 where
  pub most : many u after ≤ many u before
  pub less : v ≡ u → many u after ≤ many u before - 1

kept_by : (u v : ℕ) (r : Request) (parked : List Request) (found : Option (Request × List Request)) → (r.unique == v) ≡ false
    → AreFewer u v parked (left_by found parked)
    → AreFewer u v (r ∷ parked) (left_by (option_map (λ (p : Request × List Request). (p.0, r ∷ p.1)) found) (r ∷ parked))
kept_by u v r parked None other f = record {
  most = omega arith;
  less = λ same.
      let none : bit (r.unique == u) ≡ 0 = ap bit (ap (λ w. r.unique == w) (sym same) ∙ other) in
      let less = f.less same in
      omega (arith, none, less);
}
kept_by u v r parked (Some p) other f = record {
  most = let most = f.most in omega (arith, most);
  less = λ same.
      let none : bit (r.unique == u) ≡ 0 = ap bit (ap (λ w. r.unique == w) (sym same) ∙ other) in
      let less = f.less same in
      omega (arith, none, less);
}

found_by : (b : Bool) (u v : ℕ) (r : Request) (parked : List Request) (found : Option (Request × List Request))
    → (r.unique == v) ≡ b → AreFewer u v parked (left_by found parked)
    → AreFewer u v (r ∷ parked)
    (left_by (if b then Some (r, parked) else option_map (λ (p : Request × List Request). (p.0, r ∷ p.1)) found) (r ∷ parked))
found_by true u v r parked found is f = record {
  most = omega arith;
  less = λ same.
      let one : bit (r.unique == u) ≡ 1 = ap bit (ap (λ w. r.unique == w) (sym same) ∙ is) in
      omega (arith, one);
}
found_by false u v r parked found is f = kept_by u v r parked found is f

taken_fewer : (u v : ℕ) (parked : List Request) → AreFewer u v parked (left_by (taken_out v parked) parked)
unfolding taken_first
taken_fewer u v [] = record { most = omega arith; less = λ same. omega arith }
taken_fewer u v (r ∷ parked) =
    found_by (r.unique == v) u v r parked (taken_out v parked) refl (taken_fewer u v parked)

later_left : (found : Option (Request × List Request)) (reply : Result Answer Errno) (v : View)
    → (later_to found reply v).view.parked ≡ left_by found v.parked
later_left None reply v = refl
later_left (Some p) reply v = refl

pub later_fewer : (u : ℕ) (told : Told) (v : View) → AreFewer u told.unique v.parked (later told v).view.parked
later_fewer u told v =
    subst (AreFewer u told.unique v.parked) (sym (later_left (taken_out told.unique v.parked) told.result v))
    (taken_fewer u told.unique v.parked)

-- ---- one more is parked at most

waiter_more : (u : ℕ) (order : Order) (asked : Option LockAsk) (parked : List Request)
    → many u (with_waiter order asked parked) ≤ many u parked + bit (order.unique == u)
waiter_more u order None parked = omega arith
waiter_more u order (Some ask) parked = let more = many_append u parked (request_of order ask ∷ []) in omega (arith, more)

reply_more : (u : ℕ) (order : Order) (own : Option (Result Answer Errno)) (v : View)
    → many u (by_reply order own v).view.parked ≤ many u v.parked + bit (order.unique == u)
reply_more u order None v = waiter_more u order (waited_for order.op) v.parked
reply_more u order (Some reply) v = omega arith

more_if : (b : Bool) (u : ℕ) (order : Order) (own : Option (Result Answer Errno)) (v : View)
    → many u (if b then record { view = v; changes = [] } else by_reply order own v).view.parked
    ≤ many u v.parked + bit (order.unique == u)
more_if true u order own v = omega arith
more_if false u order own v = reply_more u order own v

once_more : (u : ℕ) (order : Order) (own : Option (Result Answer Errno)) (v : View)
    → many u (at_once order own v).view.parked ≤ many u v.parked + bit (order.unique == u)
once_more u order own v = more_if (is_parked order.unique v.parked) u order own v

own_same_if : (b : Bool) (order : Order) (reply : Result Answer Errno) (v : View)
    → (if b then record { view = v; changes = [] } else by_reply order (Some reply) v).view.parked ≡ v.parked
own_same_if true order reply v = refl
own_same_if false order reply v = refl

own_same : (order : Order) (reply : Result Answer Errno) (v : View) → (at_once order (Some reply) v).view.parked ≡ v.parked
own_same order reply v = own_same_if (is_parked order.unique v.parked) order reply v

-- ---- lines

-- so many requests of this unique can be parked at most, with an order that was asked last
abbrev pending : ℕ → Option Order → ℕ
pending u None = 0
pending u (Some order) = bit (order.unique == u)

abbrev weight : ℕ → Reading → ℕ
weight u r = many u r.state.view.parked + pending u r.waiting

-- with one line more
abbrev pub counted : ℕ → ℕ → Line → ℕ
counted u n (line.Asked worker order) = n + bit (order.unique == u)
counted u n (line.Told told) = n - bit (told.unique == u)
counted u n (line.State (state.Part (part.Wait unique node ask))) = n + bit (unique == u)
counted u n (line.State _) = n

committed_most : (u : ℕ) (waiting : Option Order) (s : State)
    → many u (committed waiting s).view.parked ≤ many u s.view.parked + pending u waiting
committed_most u None s = omega arith
committed_most u (Some order) s = once_more u order None s.view

less_by : (b : Bool) (u v n m : ℕ) (before after : List Request) → AreFewer u v before after → (v == u) ≡ b
    → many u before ≤ n → many u after ≤ n - bit b
less_by true u v n m before after f is le =
    let less = f.less (eqb-true v u is) in omega (arith, less, le)
less_by false u v n m before after f is le = let most = f.most in omega (arith, most, le)

own_less : (b c : Bool) (u v w n : ℕ) → v ≡ w → (v == u) ≡ b → (w == u) ≡ c → n ≤ (n + bit c) - bit b
own_less true true u v w n same is at = omega arith
own_less true false u v w n same is at = absurd (cc (same, is, at))
own_less false true u v w n same is at = omega arith
own_less false false u v w n same is at = omega arith

pub first_by : (b : Bool) (u : ℕ) (order : Order) (told : Told) (v : View) → (told.unique == order.unique) ≡ b
    → many u (if b then at_once order (Some told.result) v else followed_by (later told) (at_once order None v)).view.parked
    ≤ (many u v.parked + bit (order.unique == u)) - bit (told.unique == u)
first_by true u order told v is =
    let same : many u (at_once order (Some told.result) v).view.parked ≡ many u v.parked =
    ap (many u) (own_same order told.result v) in
    let less = own_less (told.unique == u) (order.unique == u) u told.unique order.unique (many u v.parked)
    (eqb-true told.unique order.unique is) refl refl in
    omega (arith, same, less)
first_by false u order told v is =
    less_by (told.unique == u) u told.unique (many u v.parked + bit (order.unique == u)) 0
    (at_once order None v).view.parked (later told (at_once order None v).view).view.parked
    (later_fewer u told (at_once order None v).view) refl (once_more u order None v)

-- an order and its replies park no more than it

pub laters_most : (u : ℕ) (e : Effect) (tolds : List Told)
    → many u (fold (λ e t. followed_by (later t) e) e tolds).view.parked ≤ many u e.view.parked
laters_most u e [] = omega arith
laters_most u e (told ∷ tolds) =
    let one = (later_fewer u told e.view).most in
    let rest = laters_most u (followed_by (later told) e) tolds in
    omega (arith, one, rest)

pub replied_most : (u : ℕ) (order : Order) (tolds : List Told) (v : View)
    → many u (replied order tolds v).view.parked ≤ many u v.parked + bit (order.unique == u)
replied_most u order [] v = once_more u order None v
replied_most u order (told ∷ tolds) v =
    let first = first_by (told.unique == order.unique) u order told v refl in
    let rest = laters_most u (told_first order told v) tolds in
    omega (arith, first, rest)

reply_less : (u : ℕ) (waiting : Option Order) (told : Told) (s : State)
    → many u (read_reply waiting told s).view.parked ≤ (many u s.view.parked + pending u waiting) - bit (told.unique == u)
reply_less u None told s =
    let le : many u s.view.parked ≤ many u s.view.parked = omega arith in
    let less = less_by (told.unique == u) u told.unique (many u s.view.parked) 0 s.view.parked (later told s.view).view.parked
    (later_fewer u told s.view) refl le in
    omega (arith, less)
reply_less u (Some order) told s = first_by (told.unique == order.unique) u order told s.view refl

line_counted : (u n : ℕ) (r : Reading) (l : Line) → weight u r ≤ n → weight u (read_line r l) ≤ counted u n l
line_counted u n r (line.Asked worker order) le = let most = committed_most u r.waiting r.state in omega (arith, most, le)
line_counted u n r (line.Told told) le = let less = reply_less u r.waiting told r.state in omega (arith, less, le)
line_counted u n r (line.State (state.Head head)) le = omega arith
line_counted u n r (line.State (state.Part (part.Node number lookups linked mode uid gid name))) le =
    let most = committed_most u r.waiting r.state in omega (arith, most, le)
line_counted u n r (line.State (state.Part (part.File fh node))) le = let most = committed_most u r.waiting r.state in omega (arith, most, le)
line_counted u n r (line.State (state.Part (part.Lock node owner start end write pid flock))) le =
    let most = committed_most u r.waiting r.state in omega (arith, most, le)
line_counted u n r (line.State (state.Part (part.Wait unique node ask))) le =
    let most = committed_most u r.waiting r.state in
    let joined = many_append u (committed r.waiting r.state).view.parked (record { unique = unique; node = node; ask = ask } ∷ []) in
    omega (arith, most, joined, le)
line_counted u n r (line.State state.Go) le = let most = committed_most u r.waiting r.state in omega (arith, most, le)

lines_counted : (u n : ℕ) (r : Reading) (lines : List Line) → weight u r ≤ n
    → weight u (fold read_line r lines) ≤ fold (counted u) n lines
lines_counted u n r [] le = le
lines_counted u n r (l ∷ lines) le = lines_counted u (counted u n l) (read_line r l) lines (line_counted u n r l le)

-- no more are parked than by this count
pub counted_most : (u : ℕ) (rules : Rules) (lines : List Line)
    → many u (state_after rules lines).view.parked ≤ fold (counted u) 0 lines
counted_most u rules lines =
    let start : weight u (unread rules) ≤ 0 = omega arith in
    let all = lines_counted u 0 (unread rules) lines start in
    let last = committed_most u (fold read_line (unread rules) lines).waiting (fold read_line (unread rules) lines).state in
    omega (arith, all, last)

pub counted_none : (u : ℕ) (rules : Rules) (lines : List Line) → fold (counted u) 0 lines ≡ 0
    → many u (state_after rules lines).view.parked ≡ 0
counted_none u rules lines e = let most = counted_most u rules lines in omega (arith, e, most)

pub counted_free : (u : ℕ) (rules : Rules) (lines : List Line) → fold (counted u) 0 lines ≡ 0
    → is_parked u (state_after rules lines).view.parked ≡ false
counted_free u rules lines e = none_parked u (state_after rules lines).view.parked (counted_none u rules lines e)

-- lines of other uniques don't count
other_counted : (u n : ℕ) (l : Line) → (IsOf u l → ⊥) → counted u n l ≡ n
other_counted u n (line.Asked worker order) other =
    ap (λ b. n + bit b) (ne_eqb order.unique u other) ∙ omega arith
other_counted u n (line.Told told) other = ap (λ b. n - bit b) (ne_eqb told.unique u other) ∙ omega arith
other_counted u n (line.State (state.Head head)) other = refl
other_counted u n (line.State (state.Part (part.Node number lookups linked mode uid gid name))) other = refl
other_counted u n (line.State (state.Part (part.File fh node))) other = refl
other_counted u n (line.State (state.Part (part.Lock node owner start end write pid flock))) other = refl
other_counted u n (line.State (state.Part (part.Wait unique node ask))) other =
    ap (λ b. n + bit b) (ne_eqb unique u other) ∙ omega arith
other_counted u n (line.State state.Go) other = refl

pub others_counted : (u n : ℕ) (lines : List Line) → HaveNothing u lines → fold (counted u) n lines ≡ n
others_counted u n [] none = refl
others_counted u n (l ∷ lines) none =
    ap (λ m. fold (counted u) m lines) (other_counted u n l none.0) ∙ others_counted u n lines none.1

pub asked_one : (u : ℕ) (worker : ℕ) (order : Order) → order.unique ≡ u → counted u 0 (line.Asked worker order) ≡ 1
asked_one u worker order named = ap (λ b. 0 + bit b) (eq-eqb order.unique u named) ∙ omega arith

pub told_one : (u : ℕ) (told : Told) → told.unique ≡ u → counted u 1 (line.Told told) ≡ 0
told_one u told own = ap (λ b. 1 - bit b) (eq-eqb told.unique u own) ∙ omega arith

-- if more can be parked before a line, no fewer can be behind it
line_least : (u a b : ℕ) (l : Line) → a ≤ b → counted u a l ≤ counted u b l
line_least u a b (line.Asked worker order) le = omega (arith, le)
line_least u a b (line.Told told) le = omega (arith, le)
line_least u a b (line.State (state.Head head)) le = le
line_least u a b (line.State (state.Part (part.Node number lookups linked mode uid gid name))) le = le
line_least u a b (line.State (state.Part (part.File fh node))) le = le
line_least u a b (line.State (state.Part (part.Lock node owner start end write pid flock))) le = le
line_least u a b (line.State (state.Part (part.Wait unique node ask))) le = omega (arith, le)
line_least u a b (line.State state.Go) le = le

lines_least : (u a b : ℕ) (lines : List Line) → a ≤ b → fold (counted u) a lines ≤ fold (counted u) b lines
lines_least u a b [] le = le
lines_least u a b (l ∷ lines) le = lines_least u (counted u a l) (counted u b l) lines (line_least u a b l le)

-- if all lines leave none, the last of them alone leave none
pub later_counted : (u : ℕ) (front back : List Line) → fold (counted u) 0 (front ++ back) ≡ 0 → fold (counted u) 0 back ≡ 0
later_counted u front back e =
    let least : 0 ≤ fold (counted u) 0 front = omega arith in
    let le = lines_least u 0 (fold (counted u) 0 front) back least in
    let none : fold (counted u) (fold (counted u) 0 front) back ≡ 0 = sym (fold-append (counted u) 0 front back) ∙ e in
    omega (arith, le, none)

-- an order and its reply leave none
pub replied_free : (rules : Rules) (heard lines : List Line) (told : Told) → HaveReply (heard ++ lines) told
    → is_parked told.unique (state_after rules lines).view.parked ≡ false
replied_free rules heard lines told h =
    let u : ℕ = told.unique in
    let ask : Line = line.Asked h.worker h.order in
    let tell : Line = line.Told told in
    let front : fold (counted u) 0 (h.before ++ ask ∷ h.between) ≡ 1 =
    fold-append (counted u) 0 h.before (ask ∷ h.between)
    ∙ ap (λ n. fold (counted u) n (ask ∷ h.between)) (others_counted u 0 h.before h.none_before)
    ∙ ap (λ n. fold (counted u) n h.between) (asked_one u h.worker h.order h.named)
    ∙ others_counted u 1 h.between h.none_between in
    counted_free u rules lines
    (later_counted u heard lines (ap (fold (counted u) 0) h.stand
    ∙ fold-append (counted u) 0 (h.before ++ ask ∷ h.between) (tell ∷ h.after)
    ∙ ap (λ n. fold (counted u) n (tell ∷ h.after)) front
    ∙ ap (λ n. fold (counted u) n h.after) (told_one u told refl)
    ∙ others_counted u 0 h.after h.none_after))
