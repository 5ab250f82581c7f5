use Rattle.std.proofs.Common.{◌≡◌, ◌∙◌, Bool, true, false, not, ◌&&◌, Option, Some, None, option_map, [], ◌∷◌, ◌++◌}
use Rattle.std.proofs.Common.{take, slice_get, refl, sym, ap, subst, arith}
use Rattle.std.proofs.lemmas.List.{take_more}
use Rattle.std.proofs.lemmas.Option.{none-some, slice_get-map}
use Rattle.std.specs.Option.{option_copied}
use Rattle.fl_arena.specs.Chains.{items}
use Rattle.fl_waiting.specs.Inside.Claims.{request_in, requests_of, ruled}
use Rattle.fl_waiting.specs.Waiting.{is_blocked_by_older, passes_free, AllBehind}
use Rattle.fl_waiting.specs.declared.parked.Request.{Request}
use Rattle.fl_waiting.proofs.Behind.{all_behind_more}
use Rattle.fl_waiting.proofs.Copies.{is_next}
use Rattle.fl_waiting.proofs.parked.first_free.Goals as goal
use Rattle.fl_waiting.proofs.parked.first_free.Goals.{else-test-via-then-test+else-not-is_blocked_by_older}
use Rattle.fl_waiting.proofs.parked.first_free.Goals.{else-test-via-else-test}
use Rattle.fl_waiting.proofs.parked.first_free.Goals.{in-Some+then-test+then-not-is_blocked_by_older, in_default}

fails_first : (a b : Bool) → a ≡ false → (a && b) ≡ false
fails_first true b e = absurd (cc e)
fails_first false b e = refl

fails_second : (a b : Bool) → b ≡ true → (a && not b) ≡ false
fails_second true b e = ap not e
fails_second false b e = refl

passes_both : (a b : Bool) → a ≡ true → b ≡ false → (a && not b) ≡ true
passes_both a b e f = λ i. e i && not (f i)

pub loop-claim-preserved : goal.loop-claim-preserved
loop-claim-preserved g c =
    let a = c.args.claims.now in
    let parked = requests_of a in
    let i = c.loop-claim.cursor.index in
    let here = c.loop-claim.invariant.at in
    let claim = c.in-Some.claim.now in
    let r = claim.request in
    let found : slice_get (items a 0) i ≡ Some claim = sym (c.in-Some.ensures.at_index 0 i here) in
    let next = is_next a i claim c.step.new.cursor found (c.step.ensures.at_index _ _ (c.in-Some.ensures.some.0 refl) here) in
    record {
      at = next.at;
      within = omega (arith, next.index, next.inside);
      none = λ p tests.
          let failing : passes_free (ruled true) p (take i parked) r ≡ false = elim c.else-test.branch [
            | else-test-via-then-test+else-not-is_blocked_by_older w ↦ fails_second (p r) _ (sym w.is_blocked_by_older.ensures ∙ w.if-not-is_blocked_by_older.false)
            | else-test-via-else-test w ↦ fails_first (p r) _ (sym (tests (c.in-Some.claim, tt) c.test.result c.test.ensures) ∙ w.if-test.false)
          ] in
          subst (AllBehind (λ older r. passes_free (ruled true) p older r ≡ false) [])
          (sym (ap (λ n. take n parked) next.index ∙ take_more parked i r next.there ∙ ap (λ x. take i parked ++ x ∷ []) next.value))
          (all_behind_more (λ older r. passes_free (ruled true) p older r ≡ false) [] (take i parked) r (c.loop-claim.invariant.none p tests) failing);
    }

same_some : {x y : Request} → ◌≡◌ {A = Option Request} (Some x) (Some y) → x ≡ y
same_some e = cc e

pub returns-clause-first : goal.returns-clause-first
returns-clause-first g c p tests =
    let a = c.args.claims.now in
    let parked = requests_of a in
    let i = c.loop-claim.cursor.index in
    let here = c.loop-claim.invariant.at in
    record {
      none = c.loop-claim.invariant.none p tests;
      passes = λ r there. elim c.match-item.branch [
        | in-Some+then-test+then-not-is_blocked_by_older w ↦
            let claim = w.in-Some.claim.now in
            let found : slice_get (items a 0) i ≡ Some claim = sym (w.in-Some.ensures.at_index 0 i here) in
            let same : claim.request ≡ r = same_some (ap (option_map request_in) (sym found) ∙ sym (slice_get-map request_in (items a 0) i) ∙ there) in
            ap (passes_free (ruled true) p (take i parked)) (sym same)
            ∙ passes_both (p claim.request) (is_blocked_by_older (ruled true) (take i parked) claim.request)
            (sym (tests (w.in-Some.claim, tt) w.test.result w.test.ensures) ∙ w.if-test.true)
            (sym w.is_blocked_by_older.ensures ∙ w.if-not-is_blocked_by_older.true)
        | in_default w ↦
            let none : slice_get (items a 0) i ≡ None = sym (c.item.ensures.at_index 0 i here) ∙ ap option_copied w.in_default.is in
            absurd (none-some r (sym (slice_get-map request_in (items a 0) i ∙ ap (option_map request_in) none) ∙ there))
      ];
    }
