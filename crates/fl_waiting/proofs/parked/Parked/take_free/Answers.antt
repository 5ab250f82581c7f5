use Rattle.std.proofs.Common.{◌≡◌, ◌∙◌, Bor, Bool, true, false, not, Option, Some, None, MatchOption, List, [], is_some}
use Rattle.std.proofs.Common.{option_map, slice_get, map, remove, refl, ap, sym, subst}
use Rattle.std.proofs.lemmas.Option.{slice_get-map}
use Rattle.std.specs.Option.{option_copied}
use Rattle.fl_arena.specs.Chains.{items}
use Rattle.fl_arena.specs.declared.cursors.Cursor.{Cursor}
use Rattle.fl_waiting.specs.declared.claim.Claim.{Claim}
use Rattle.fl_waiting.specs.declared.parked.Request.{Request}
use Rattle.fl_waiting.specs.declared.rules.Rules.{Rules}
use Rattle.fl_waiting.specs.Inside.Claims.{request_in, requests_of, ruled}
use Rattle.fl_waiting.specs.Inside.Counts.{AreUpTo, AreCounted}
use Rattle.fl_waiting.specs.Waiting.{passes_free, taken_behind, AllBehind}
use Rattle.fl_waiting.proofs.Behind.{free_unfair, none_behind, taken_there}
use Rattle.fl_waiting.proofs.Claims.{requests_less, stands_at}
use Rattle.fl_waiting.proofs.Copies.{none_left}
use Rattle.fl_waiting.proofs.Counts.{count_there, counted_less, up_to_removed}
use Rattle.fl_waiting.proofs.parked.Parked.take_free.Goals as goal

not_so : (b : Bool) → not b ≡ true → b ≡ false
not_so true e = sym e
not_so false e = refl

so : (b : Bool) → not b ≡ false → b ≡ true
so true e = refl
so false e = sym e

pub returns-then-not-rules : goal.returns-then-not-rules
returns-then-not-rules g c p tests =
    subst (λ x. MatchOption c.take_first.result ((x ≡ None) × (c.take_first.new.self ≡ c.args.self.now)) (λ claim. x ≡ Some (claim.request, c.take_first.new.self)))
    (sym (free_unfair c.args.rules p c.args.self.now (not_so c.args.rules.fair c.if-not-rules.true))) (c.take_first.ensures p tests)

-- the rules are fair: what else they say has no part in it
as_fair : (rules : Rules) (p : Request → Bool) (parked : List Request) → rules.fair ≡ true
    → taken_behind (passes_free rules p) [] parked ≡ taken_behind (passes_free (ruled true) p) [] parked
as_fair rules p parked fair = ap (λ f. taken_behind (passes_free (ruled f) p) [] parked) fair

none_found : (o : Option Claim) → is_some o ≡ false → o ≡ None
none_found None e = refl
none_found (Some claim) e = absurd (cc e)

pub returns-then-is_none : goal.returns-then-is_none
returns-then-is_none g c = λ p tests.
    let a = c.self.inside.claims in
    let i = c.first_free-cursor.result.index in
    let first = c.first_free-cursor.ensures.first p tests in
    let none : slice_get (items a 0) i ≡ None = sym (c.item.ensures.at_index 0 i c.first_free-cursor.ensures.at) ∙ none_copied c.item.result c.if-is_none.ensures in
    let all = subst (AllBehind (λ older r. passes_free (ruled true) p older r ≡ false) []) (none_left a i none) first.none in (
      as_fair c.args.rules p c.args.self.now (so c.args.rules.fair c.if-not-rules.false)
          ∙ ap (taken_behind (passes_free (ruled true) p) []) (sym c.self.view_is)
          ∙ none_behind (passes_free (ruled true) p) [] (requests_of a) all,
      refl,
    )
  where
    none_copied : {X : Type 0} (o : Option (Bor X)) → is_some o ≡ false → option_copied o ≡ None
    none_copied None e = refl
    none_copied (Some x) e = absurd (cc e)

pub overflow_sub-self : goal.overflow_sub-self
overflow_sub-self g c =
    let a = c.self.inside.claims in
    let i = c.first_free-cursor.result.index in
    let claim = c.remove-claim.result in
    let chain = ap (λ (k : Cursor). k.chain) c.first_free-cursor.ensures.at in
    let at : slice_get (items a 0) i ≡ Some claim = ap (λ k. slice_get (items a k) i) (sym chain) ∙ c.remove-claim.ensures.value in
    let there = stands_at a i claim at in
    count_there c.self.inside.on_nodes
    (requests_of a) i claim.request c.bucket.result c.self.invariant.3 c.bucket.ensures.is c.bucket.ensures.below there.0 there.1

pub invariant_of-self : goal.invariant_of-self
invariant_of-self g c =
    let a = c.self.inside.claims in
    let i = c.first_free-cursor.result.index in
    let claim = c.remove-claim.result in
    let chain = ap (λ (k : Cursor). k.chain) c.first_free-cursor.ensures.at in
    let at : slice_get (items a 0) i ≡ Some claim = ap (λ k. slice_get (items a k) i) (sym chain) ∙ c.remove-claim.ensures.value in
    let there = stands_at a i claim at in
    let fewer : items c.remove-claim.new.self 0 ≡ remove (items a 0) i =
    ap (items c.remove-claim.new.self) (sym chain) ∙ c.remove-claim.ensures.items ∙ ap (λ k. remove (items a k) i) chain in
    let left : requests_of c.remove-claim.new.self ≡ remove (requests_of a) i = ap (map request_in) fewer ∙ requests_less (items a 0) i in (
      c.remove-claim.ensures.size.chains ∙ c.self.invariant.0,
      c.remove-claim.ensures.size.slots ∙ c.self.invariant.1,
      subst (AreUpTo c.self.inside.greatest) (sym left) (up_to_removed c.self.inside.greatest (requests_of a) i c.self.invariant.2),
      subst (AreCounted _) (sym left)
          (counted_less c.self.inside.on_nodes
          (requests_of a) i claim.request c.bucket.result c.self.told c.self.invariant.3 c.bucket.ensures.is c.bucket.ensures.below there.0 there.1),
    )

pub returns : goal.returns
returns g c = λ p tests.
    let a = c.self.inside.claims in
    let i = c.first_free-cursor.result.index in
    let claim = c.remove-claim.result in
    let first = c.first_free-cursor.ensures.first p tests in
    let chain = ap (λ (k : Cursor). k.chain) c.first_free-cursor.ensures.at in
    let at : slice_get (items a 0) i ≡ Some claim = ap (λ k. slice_get (items a k) i) (sym chain) ∙ c.remove-claim.ensures.value in
    let there : slice_get (requests_of a) i ≡ Some claim.request = slice_get-map request_in (items a 0) i ∙ ap (option_map request_in) at in
    let fewer : items c.remove-claim.new.self 0 ≡ remove (items a 0) i =
    ap (items c.remove-claim.new.self) (sym chain) ∙ c.remove-claim.ensures.items ∙ ap (λ k. remove (items a k) i) chain in
    let left : requests_of c.remove-claim.new.self ≡ remove (requests_of a) i = ap (map request_in) fewer ∙ requests_less (items a 0) i in
    as_fair c.args.rules p c.args.self.now (so c.args.rules.fair c.if-not-rules.false)
    ∙ ap (taken_behind (passes_free (ruled true) p) []) (sym c.self.view_is)
    ∙ taken_there (passes_free (ruled true) p) [] (requests_of a) i claim.request first.none there (first.passes claim.request there)
    ∙ ap (λ others. Some (claim.request, others)) (sym left)
