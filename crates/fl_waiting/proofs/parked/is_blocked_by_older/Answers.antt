use Rattle.std.proofs.Common.{rules, ◌∙◌, true, [], ◌∷◌, nat_lt, take, sym, ap, arith}
use Rattle.std.proofs.lemmas.List.{length-map}
use Rattle.std.specs.List.{list_any}
use Rattle.fl_arena.specs.Chains.{items}
use Rattle.fl_arena.specs.declared.cursors.Cursor.{Cursor}
use Rattle.fl_marks.specs.Marking.{Stroke}
use Rattle.fl_marks.specs.declared.lock.Mark.{Mark}
use Rattle.fl_waiting.specs.Inside.Claims.{request_in, requests_of, ruled}
use Rattle.fl_waiting.specs.Waiting.{Wish, any_older_blocks, older_blocks, anyone, passes, wish_on, wishes}
use Rattle.fl_waiting.specs.declared.claim.Claim.{Claim}
use Rattle.fl_waiting.specs.declared.parked.Request.{Request}
use Rattle.fl_waiting.proofs.Behind.{before_place}
use Rattle.fl_waiting.proofs.Claims.{position_of_request}
use Rattle.fl_waiting.proofs.parked.is_blocked_by_older.Goals as goal

pub returns : goal.returns
returns c =
    let a = c.args.claims.now in
    let claim = c.args.claim.now in
    let mark = c.in-Some.mark in
    let wanted : Wish = record { key = claim.key; start = claim.range.start; end = claim.range.end; kind = mark.kind } in
    let test = λ (r : Request). list_any (older_blocks wanted) (wishes (r ∷ [])) in
    let of_claim = λ (k : Claim). test k.request in
    let first = c.first_where-first.ensures.first of_claim (λ a r k. search rules) in
    let older = take c.args.place (requests_of a) in
    ap (λ (k : Cursor). nat_lt k.index c.args.place) first
    ∙ ap (λ n. nat_lt n c.args.place) (position_of_request test (items a 0))
    ∙ before_place (older_blocks wanted) (requests_of a) c.args.place (omega (arith, c.requires.within, length-map (items a 0) request_in))
    ∙ ap (λ m. passes (λ (k : Mark). any_older_blocks (ruled true) anyone (wishes older) (record { key = claim.key; start = claim.range.start; end = claim.range.end; kind = k.kind })) m)
    (sym c.in-Some.is)
    ∙ ap (λ (s : Stroke). passes (λ (k : Mark). any_older_blocks (ruled true) anyone (wishes older) (wish_on s k)) s.mark) claim.wanted
