-- What is kept of lines leads back to them, and goes on to do so when more is kept.
use Rattle.std.proofs.Common.{◌≡◌, ℕ, ◌+◌, ◌<◌, ◌≤◌, zero, suc, Option, Some, List, [], ◌∷◌, ◌++◌, length, take, drop}
use Rattle.std.proofs.Common.{refl, ap, sym, ◌∙◌, subst}
use Rattle.std.proofs.Common.{arith, length-append}
use Rattle.std.proofs.lemmas.List.{append-nil, map-append, take-append-le, drop-append-le, length-drop}
use Rattle.std.proofs.lemmas.Option.{slice_get-map}
use Rattle.std.specs.List.{slice_get, AllByRecursion}
use Rattle.std.specs.Option.{option_map}
use Rattle.fl_history.specs.declared.history.Line.{Line}
use Rattle.fl_history.specs.declared.history.Line.TheVariants as line
use Rattle.fl_history.specs.declared.records.NameSpan.{NameSpan}
use Rattle.fl_history.specs.declared.records.ShortOp.{ShortOp}
use Rattle.fl_history.specs.declared.records.ShortOp.TheVariants as short
use Rattle.fl_history.specs.declared.records.ShortOrder.{ShortOrder}
use Rattle.fl_history.specs.declared.records.Answered.{Answered}
use Rattle.fl_history.specs.declared.records.ShortLine.{ShortLine}
use Rattle.fl_history.specs.declared.records.ShortLine.TheVariants as record_of
use Rattle.fl_history.specs.Inside.Records.{ask_of, bytes_at, opened_parts, opened_op, line_asking, asked_line}
use Rattle.fl_history.specs.Inside.Records.{answered_line}
use Rattle.fl_history.proofs.Packing.{get_left, get_right}
use Rattle.fl_history.specs.Inside.Records.{line_or_none, opened, opened_all, Begins, IsNamed, NamesAreThere, LeadsBack}
use Rattle.fl_history.specs.Inside.Records.{IsThere, AreKept}
use Rattle.fl_order.specs.Name.{IsName}
use Rattle.fl_order.specs.Order.{parts_of, op_of}
use Rattle.fl_order.specs.declared.body.Body.{Body}
use Rattle.fl_order.specs.declared.body.Body.TheVariants as body
use Rattle.fl_order.specs.declared.kind.OpKind.{OpKind}
use Rattle.fl_order.specs.declared.order.Op.{Op}
use Rattle.fl_order.specs.declared.order.Order.{Order}
use Rattle.fl_order.specs.declared.state_part.StateLine.{StateLine}

-- ---- lists with more behind them

abbrev pub begins_itself : {A : Type 0} (xs : List A) → Begins xs xs
begins_itself xs = record { rest = []; is = sym (append-nil xs) }

begins_length : {A : Type 0} (xs ys : List A) → Begins xs ys → length xs ≤ length ys
begins_length xs ys b = subst (λ l. length xs ≤ length l) (sym b.is) (omega (arith, length-append xs b.rest))

all_more : {A : Type 0} (P : A → Type 0) (xs ys : List A) → AllByRecursion P xs → AllByRecursion P ys → AllByRecursion P (xs ++ ys)
all_more P [] ys a b = b
all_more P (x ∷ xs) ys a b = (a.0, all_more P xs ys a.1 b)

all_as : {A : Type 0} (P Q : A → Type 0) (xs : List A) → ((x : A) → P x → Q x) → AllByRecursion P xs → AllByRecursion Q xs
all_as P Q [] f a = a
all_as P Q (x ∷ xs) f a = (f x a.0, all_as P Q xs f a.1)

pub all_at : {A : Type 0} (P : A → Type 0) (xs : List A) (i : ℕ) (x : A) → AllByRecursion P xs → slice_get xs i ≡ Some x → P x
all_at P [] i x a e = cc e
all_at P (y ∷ xs) zero x a e = subst P (same y x e) a.0
  where
    same : {A : Type 0} (y x : A) → ◌≡◌ {A = Option A} (Some y) (Some x) → y ≡ x
    same y x e = cc e
all_at P (y ∷ xs) (suc i) x a e = all_at P xs i x a.1 e

-- ---- one order, there and back

-- an order is that of its parts
of_its_parts : (o : Op) → op_of (parts_of o).0 (parts_of o).1 ≡ Some o
of_its_parts o = grind arith

module _ (names : List ℕ) (o : Order) (op : ShortOp) (named : NamesAreThere names op) (opened : opened_parts names op ≡ parts_of o.op) where
  op_back : opened_op names op ≡ Some o.op
  op_back = ap (λ (p : OpKind × Body). op_of p.0 p.1) opened ∙ of_its_parts o.op

  leads_back : LeadsBack names op
  leads_back = record { named = named; asked = o.op; is = op_back }

  asked_back : (worker : ℕ) → asked_line names (ask_of worker o op) ≡ line.Asked worker o
  asked_back worker = ap (line_or_none (line_asking (ask_of worker o op))) op_back

-- ---- names with more names behind them

bytes_stay : (names more : List ℕ) (span : NameSpan) → span.start + span.len ≤ length names → bytes_at (names ++ more) span ≡ bytes_at names span
bytes_stay names more span within =
    ap (take span.len) (drop-append-le span.start names more (omega arith))
    ∙ take-append-le span.len (drop span.start names) more (omega (arith, length-drop span.start names))

named_stay : (names more : List ℕ) (span : NameSpan) → IsNamed names span → IsNamed (names ++ more) span
named_stay names more span n = record {
  within = omega (arith, n.within, length-append names more);
  name = subst IsName (sym (bytes_stay names more span n.within)) n.name;
}

parts_stay : (names more : List ℕ) (s : ShortOp) → NamesAreThere names s
    → (opened_parts (names ++ more) s ≡ opened_parts names s) × NamesAreThere (names ++ more) s
parts_stay names more (short.Lock what kind pid flags fh owner start end) n = (refl, tt)
parts_stay names more (short.Create what excl mode span) n =
    (ap (λ b. (what, body.Create excl mode b)) (bytes_stay names more span n.within), named_stay names more span n)
parts_stay names more (short.Make what mode span) n =
    (ap (λ b. (what, body.Make mode b)) (bytes_stay names more span n.within), named_stay names more span n)
parts_stay names more (short.Name what span) n = (ap (λ b. (what, body.Name b)) (bytes_stay names more span n.within), named_stay names more span n)
parts_stay names more (short.Number what m) n = (refl, tt)
parts_stay names more (short.Flush what fh owner) n = (refl, tt)
parts_stay names more (short.Release what unlocks fh owner) n = (refl, tt)
parts_stay names more (short.Getattr what) n = (refl, tt)
parts_stay names more (short.Open what) n = (refl, tt)

op_stays : (names more : List ℕ) (s : ShortOp) → NamesAreThere names s → opened_op (names ++ more) s ≡ opened_op names s
op_stays names more s n = ap (λ (p : OpKind × Body). op_of p.0 p.1) (parts_stay names more s n).0

still_back : (names more : List ℕ) (s : ShortOp) → LeadsBack names s → LeadsBack (names ++ more) s
still_back names more s b = record {
  named = (parts_stay names more s b.named).1;
  asked = b.asked;
  is = op_stays names more s b.named ∙ b.is;
}

-- ---- more of everything

ask_stays : (names more : List ℕ) (asks : List ShortOrder) (at : ℕ) → AllByRecursion (λ (a : ShortOrder). LeadsBack names a.op) asks
    → line_or_none (asked_line (names ++ more)) (slice_get asks at) ≡ line_or_none (asked_line names) (slice_get asks at)
ask_stays names more [] at n = refl
ask_stays names more (a ∷ asks) zero n =
    ap (line_or_none (line_asking a)) (op_stays names more a.op n.0.named)
ask_stays names more (a ∷ asks) (suc at) n = ask_stays names more asks at n.1

module _ (asks : List ShortOrder) (answers : List Answered) (states : List StateLine) (names : List ℕ) (asks′ : List ShortOrder) (answers′ : List Answered)
    (states′ : List StateLine) (names′ : List ℕ)
    (a : Begins asks asks′) (t : Begins answers answers′) (s : Begins states states′) (n : Begins names names′) where
  opened_stays : (r : ShortLine) → IsThere (length asks) (length answers) (length states) r → AllByRecursion (λ (a : ShortOrder). LeadsBack names a.op) asks
      → opened asks′ answers′ states′ names′ r ≡ opened asks answers states names r
  opened_stays (record_of.Asked at) there named =
      (λ i. line_or_none (asked_line (n.is i)) (slice_get (a.is i) at))
      ∙ ap (λ o. line_or_none (asked_line (names ++ n.rest)) o) (get_left asks a.rest at there)
      ∙ ask_stays names n.rest asks at named
  opened_stays (record_of.Answered at) there named =
      ap (λ l. line_or_none answered_line (slice_get l at)) t.is ∙ ap (line_or_none answered_line) (get_left answers t.rest at there)
  opened_stays (record_of.Done unique) there named = refl
  opened_stays (record_of.Failed error unique) there named = refl
  opened_stays (record_of.State at) there named =
      ap (λ l. line_or_none line.State (slice_get l at)) s.is ∙ ap (line_or_none line.State) (get_left states s.rest at there)

  lines_stay : (records : List ShortLine) → AreKept records asks answers states names
      → opened_all asks′ answers′ states′ names′ records ≡ opened_all asks answers states names records
  lines_stay [] k = refl
  lines_stay (r ∷ records) k =
      (λ i. opened_stays r k.there.0 k.back i ∷ lines_stay records (record { there = k.there.1; back = k.back }) i)

  -- one line more
  pub one_line : (records : List ShortLine) (r : ShortLine) (l : Line) → AreKept records asks answers states names → opened asks′ answers′ states′ names′ r ≡ l
      → opened_all asks′ answers′ states′ names′ (records ++ r ∷ []) ≡ opened_all asks answers states names records ++ l ∷ []
  one_line records r l k e =
      map-append (opened asks′ answers′ states′ names′) records (r ∷ []) ∙ (λ i. lines_stay records k i ++ e i ∷ [])

  there_still : (r : ShortLine) → IsThere (length asks) (length answers) (length states) r → IsThere (length asks′) (length answers′) (length states′) r
  there_still (record_of.Asked at) h = omega (arith, h, begins_length asks asks′ a)
  there_still (record_of.Answered at) h = omega (arith, h, begins_length answers answers′ t)
  there_still (record_of.Done unique) h = tt
  there_still (record_of.Failed error unique) h = tt
  there_still (record_of.State at) h = omega (arith, h, begins_length states states′ s)

  -- what is kept goes on to lead to what is there
  pub kept_still : (records : List ShortLine) (r : ShortLine) → AreKept records asks answers states names → IsThere (length asks′) (length answers′) (length states′) r
      → AllByRecursion (λ (a : ShortOrder). LeadsBack names′ a.op) a.rest → AreKept (records ++ r ∷ []) asks′ answers′ states′ names′
  kept_still records r k there more = record {
    there = all_more (IsThere (length asks′) (length answers′) (length states′)) records (r ∷ [])
        (all_as (IsThere (length asks) (length answers) (length states)) (IsThere (length asks′) (length answers′) (length states′)) records there_still k.there) (there, tt);
    back = subst (AllByRecursion (λ (a : ShortOrder). LeadsBack names′ a.op)) (sym a.is)
        (all_more (λ (a : ShortOrder). LeadsBack names′ a.op) asks a.rest
        (all_as (λ (a : ShortOrder). LeadsBack names a.op) (λ (a : ShortOrder). LeadsBack names′ a.op) asks
        (λ x h. subst (λ ns. LeadsBack ns x.op) (sym n.is) (still_back names n.rest x.op h)) k.back) more);
  }

-- ---- in the words of the calls

pub asked_kept : (records records′ : List ShortLine) (asks asks′ : List ShortOrder) (answers : List Answered) (states : List StateLine) (names names′ : List ℕ)
    (worker : ℕ) (o : Order) (op : ShortOp) (new : ShortOrder) → AreKept records asks answers states names → Begins names names′ → NamesAreThere names′ op
    → opened_parts names′ op ≡ parts_of o.op → new ≡ ask_of worker o op → asks′ ≡ asks ++ new ∷ []
    → records′ ≡ records ++ record_of.Asked (length asks) ∷ []
    → AreKept records′ asks′ answers states names′
    × (opened_all asks′ answers states names′ records′ ≡ opened_all asks answers states names records ++ line.Asked worker o ∷ [])
asked_kept records records′ asks asks′ answers states names names′ worker o op new k n named of is joins last =
    let a : Begins asks asks′ = record { rest = new ∷ []; is = joins } in
    let t = begins_itself answers in
    let s = begins_itself states in
    let inside : length asks < length asks′ = subst (λ l. length asks < length l) (sym joins) (omega (arith, length-append asks (new ∷ []))) in
    let back : LeadsBack names′ new.op = subst (λ (x : ShortOrder). LeadsBack names′ x.op) (sym is) (leads_back names′ o op named of) in
    let found : line_or_none (asked_line names′) (slice_get asks′ (length asks)) ≡ line.Asked worker o =
    ap (λ l. line_or_none (asked_line names′) (slice_get l (length asks))) joins
    ∙ ap (line_or_none (asked_line names′)) (get_right asks (new ∷ []) (length asks) 0 (omega arith))
    ∙ ap (asked_line names′) is ∙ asked_back names′ o op named of worker in
    subst (λ rs. AreKept rs asks′ answers states names′
    × (opened_all asks′ answers states names′ rs ≡ opened_all asks answers states names records ++ line.Asked worker o ∷ []))
    (sym last) (
      kept_still asks answers states names asks′ answers states names′ a t s n records (record_of.Asked (length asks)) k inside (back, tt),
      one_line asks answers states names asks′ answers states names′ a t s n records (record_of.Asked (length asks)) (line.Asked worker o) k found,
    )

pub told_kept : (records records′ : List ShortLine) (asks : List ShortOrder) (answers answers′ : List Answered) (states : List StateLine) (names : List ℕ)
    (r : ShortLine) (l : Line) → AreKept records asks answers states names → Begins answers answers′
    → IsThere (length asks) (length answers′) (length states) r → opened asks answers′ states names r ≡ l → records′ ≡ records ++ r ∷ []
    → AreKept records′ asks answers′ states names × (opened_all asks answers′ states names records′ ≡ opened_all asks answers states names records ++ l ∷ [])
told_kept records records′ asks answers answers′ states names r l k t there is last =
    let a = begins_itself asks in
    let s = begins_itself states in
    let n = begins_itself names in
    subst (λ rs. AreKept rs asks answers′ states names
    × (opened_all asks answers′ states names rs ≡ opened_all asks answers states names records ++ l ∷ [])) (sym last) (
      kept_still asks answers states names asks answers′ states names a t s n records r k there tt,
      one_line asks answers states names asks answers′ states names a t s n records r l k is,
    )

pub state_kept : (records records′ : List ShortLine) (asks : List ShortOrder) (answers : List Answered) (states states′ : List StateLine) (names : List ℕ)
    (state : StateLine) → AreKept records asks answers states names → states′ ≡ states ++ state ∷ []
    → records′ ≡ records ++ record_of.State (length states) ∷ []
    → AreKept records′ asks answers states′ names
    × (opened_all asks answers states′ names records′ ≡ opened_all asks answers states names records ++ line.State state ∷ [])
state_kept records records′ asks answers states states′ names state k joins last =
    let a = begins_itself asks in
    let t = begins_itself answers in
    let n = begins_itself names in
    let s : Begins states states′ = record { rest = state ∷ []; is = joins } in
    let inside : length states < length states′ = subst (λ l. length states < length l) (sym joins) (omega (arith, length-append states (state ∷ []))) in
    let found : line_or_none line.State (slice_get states′ (length states)) ≡ line.State state =
    ap (λ l. line_or_none line.State (slice_get l (length states))) joins
    ∙ ap (line_or_none line.State) (get_right states (state ∷ []) (length states) 0 (omega arith)) in
    subst (λ rs. AreKept rs asks answers states′ names
    × (opened_all asks answers states′ names rs ≡ opened_all asks answers states names records ++ line.State state ∷ [])) (sym last) (
      kept_still asks answers states names asks answers states′ names a t s n records (record_of.State (length states)) k inside tt,
      one_line asks answers states names asks answers states′ names a t s n records (record_of.State (length states)) (line.State state) k found,
    )

pub line_at : (asks : List ShortOrder) (answers : List Answered) (states : List StateLine) (names : List ℕ) (records : List ShortLine) (i : ℕ) (r : ShortLine)
    → slice_get records i ≡ Some r
    → slice_get (opened_all asks answers states names records) i ≡ Some (opened asks answers states names r)
line_at asks answers states names records i r e =
    slice_get-map (opened asks answers states names) records i ∙ ap (option_map (opened asks answers states names)) e

pub there_at : (asks : List ShortOrder) (answers : List Answered) (states : List StateLine) (names : List ℕ) (records : List ShortLine) (i : ℕ) (r : ShortLine)
    → AreKept records asks answers states names → slice_get records i ≡ Some r → IsThere (length asks) (length answers) (length states) r
there_at asks answers states names records i r k e = all_at (IsThere (length asks) (length answers) (length states)) records i r k.there e

pub back_at : (asks : List ShortOrder) (answers : List Answered) (states : List StateLine) (names : List ℕ) (records : List ShortLine) (i : ℕ) (a : ShortOrder)
    → AreKept records asks answers states names
    → slice_get asks i ≡ Some a → LeadsBack names a.op
back_at asks answers states names records i a k e = all_at (λ (a : ShortOrder). LeadsBack names a.op) asks i a k.back e
