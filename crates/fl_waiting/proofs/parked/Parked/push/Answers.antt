use Rattle.std.proofs.Common.{◌≡◌, ◌∙◌, [], ◌∷◌, ◌++◌, length, map, insert, sym, ap, subst, arith}
use Rattle.std.proofs.lemmas.List.{length-map, map-append}
use Rattle.std.proofs.lemmas.List.Edits.{insert_end}
use Rattle.fl_arena.specs.Chains.{Entry, entries, items}
use Rattle.fl_waiting.specs.Inside.Claims.{request_in, requests_of}
use Rattle.fl_waiting.specs.Inside.Counts.{AreUpTo, AreCounted}
use Rattle.fl_waiting.specs.declared.claim.Claim.{Claim}
use Rattle.fl_waiting.proofs.Counts.{count_fits, counted_more, up_to_more}
use Rattle.fl_waiting.proofs.parked.Parked.push.Goals as goal

pub overflow_add-self : goal.overflow_add-self
overflow_add-self c =
    let few = count_fits c.self.inside.on_nodes (requests_of c.self.inside.claims) c.bucket.result c.self.invariant.3 c.bucket.ensures.below in
    omega (arith, few, c.requires, ap length c.self.view_is)

pub invariant_of-self : goal.invariant_of-self
invariant_of-self c =
    let a = c.self.inside.claims in
    let claims = items a 0 in
    let old = requests_of a in
    let claim = c.args.claim in
    let r = claim.request in
    let more : items c.insert.new.self 0 ≡ claims ++ claim ∷ [] =
    c.in-Ok.ensures.items ∙ ap (λ n. insert claims n claim) (sym (length-map (entries a 0) (λ (e : Entry Claim). e.item))) ∙ insert_end claims claim in
    let new : requests_of c.insert.new.self ≡ old ++ r ∷ [] = ap (map request_in) more ∙ map-append request_in claims (claim ∷ []) in (
      c.in-Ok.ensures.size.chains ∙ c.self.invariant.0,
      c.in-Ok.ensures.size.slots ∙ c.self.invariant.1,
      subst (AreUpTo c.max-self-inside.result) (sym new)
          (up_to_more c.self.inside.greatest c.max-self-inside.result old r c.self.invariant.2 (omega (arith, c.max-self-inside.ensures))
          (omega (arith, c.max-self-inside.ensures))),
      subst (AreCounted _) (sym new)
          (counted_more c.self.inside.on_nodes old r c.bucket.result c.self.told c.self.invariant.3 c.bucket.ensures.is c.bucket.ensures.below),
    )
