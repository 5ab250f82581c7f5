use Rattle.std.proofs.Common.{◌≡◌, ◌∙◌, false, Option, Some, None, is_some, option_map, slice_get, map, remove, refl}
use Rattle.std.proofs.Common.{ap, sym, subst}
use Rattle.std.proofs.lemmas.List.Folds.{find_at}
use Rattle.std.specs.List.{find, position_or_len}
use Rattle.fl_arena.specs.Chains.{items}
use Rattle.fl_arena.specs.declared.cursors.Cursor.{Cursor}
use Rattle.fl_waiting.specs.declared.claim.Claim.{Claim}
use Rattle.fl_waiting.specs.Inside.Claims.{request_in, requests_of}
use Rattle.fl_waiting.specs.Inside.Counts.{AreUpTo, AreCounted}
use Rattle.fl_waiting.specs.Waiting.{taken_first}
use Rattle.fl_waiting.proofs.Chain.{some_copied}
use Rattle.fl_waiting.proofs.Claims.{requests_less, stands_at, taken_found, without}
use Rattle.fl_waiting.proofs.Counts.{count_there, counted_less, up_to_removed}
use Rattle.fl_waiting.proofs.parked.Parked.take_first.Goals as goal

none_found : (o : Option Claim) → is_some o ≡ false → o ≡ None
none_found None e = refl
none_found (Some claim) e = absurd (cc e)

pub returns-then-is_none : goal.returns-then-is_none
returns-then-is_none g c = λ p tests.
    let claims = items c.self.inside.claims 0 in
    let test = λ (claim : Claim). p claim.request in
    let none = none_found (find test claims)
    (ap is_some (sym (c.item.ensures.item ∙ c.first_where-cursor.ensures.found test tests)) ∙ sym (some_copied c.item.result) ∙ c.if-is_none.ensures) in (
      ap (taken_first p) (sym c.self.view_is) ∙ taken_found p claims ∙ ap (option_map (λ k. (request_in k, without claims (position_or_len test claims)))) none,
      refl,
    )

pub returns : goal.returns
returns g c = λ p tests.
    let a = c.self.inside.claims in
    let test = λ (claim : Claim). p claim.request in
    let first = c.first_where-cursor.ensures.first test tests in
    let chain = ap (λ (k : Cursor). k.chain) first in
    let index = ap (λ (k : Cursor). k.index) first in
    let found : find test (items a 0) ≡ Some c.remove-claim.result =
    find_at test (items a 0) ∙ (λ j. slice_get (items a (sym chain j)) (sym index j)) ∙ c.remove-claim.ensures.value in
    let left : remove (items a 0) (position_or_len test (items a 0)) ≡ items c.remove-claim.new.self 0 =
    (λ j. remove (items a (sym chain j)) (sym index j)) ∙ sym c.remove-claim.ensures.items ∙ ap (items c.remove-claim.new.self) chain in
    ap (taken_first p) (sym c.self.view_is) ∙ taken_found p (items a 0) ∙ (λ j. option_map (λ k. (request_in k, map request_in (left j))) (found j))

pub overflow_sub-self : goal.overflow_sub-self
overflow_sub-self g c =
    let a = c.self.inside.claims in
    let i = c.first_where-cursor.result.index in
    let claim = c.remove-claim.result in
    let at : slice_get (items a 0) i ≡ Some claim = ap (λ k. slice_get (items a k) i) (sym c.first_where-cursor.ensures.chain) ∙ c.remove-claim.ensures.value in
    let there = stands_at a i claim at in
    count_there c.self.inside.on_nodes
    (requests_of a) i claim.request c.bucket.result c.self.invariant.3 c.bucket.ensures.is c.bucket.ensures.below there.0 there.1

pub invariant_of-self : goal.invariant_of-self
invariant_of-self g c =
    let a = c.self.inside.claims in
    let i = c.first_where-cursor.result.index in
    let claim = c.remove-claim.result in
    let chain : c.first_where-cursor.result.chain ≡ 0 = c.first_where-cursor.ensures.chain in
    let at : slice_get (items a 0) i ≡ Some claim = ap (λ k. slice_get (items a k) i) (sym chain) ∙ c.remove-claim.ensures.value in
    let there = stands_at a i claim at in
    let fewer : items c.remove-claim.new.self 0 ≡ remove (items a 0) i =
    ap (items c.remove-claim.new.self) (sym chain) ∙ c.remove-claim.ensures.items ∙ ap (λ k. remove (items a k) i) chain in
    let left : requests_of c.remove-claim.new.self ≡ remove (requests_of a) i = ap (map request_in) fewer ∙ requests_less (items a 0) i in (
      c.remove-claim.ensures.size.chains ∙ c.self.invariant.0,
      c.remove-claim.ensures.size.slots ∙ c.self.invariant.1,
      subst (AreUpTo c.self.inside.greatest) (sym left) (up_to_removed c.self.inside.greatest (requests_of a) i c.self.invariant.2),
      subst (AreCounted _) (sym left)
          (counted_less c.self.inside.on_nodes
          (requests_of a) i claim.request c.bucket.result c.self.told c.self.invariant.3 c.bucket.ensures.is c.bucket.ensures.below there.0 there.1),
    )
