-- Requests that are ended, one after another.
use Rattle.std.proofs.Common.{◌≡◌, Bool, Some, None, List, [], ◌∷◌, ◌++◌, append_assoc, append-nil, map, sym, ap, ◌∙◌}
use Rattle.fl_core.specs.Replies.{ended_with, ended_all}
use Rattle.fl_waiting.specs.Waiting.{taken_first}
use Rattle.fl_waiting.specs.declared.parked.Request.{Request}
use Rattle.fl_core.proofs.Taken.{is_taken, none_taken}
use Rattle.fl_order.specs.declared.errno.Errno.{Errno}
use Rattle.fl_order.specs.declared.told.Told.{Told}

-- what was told and is left to tell stays the whole
pub ending_goes_on : (e : Errno) (test : Request → Bool) (given told more : List Told) (all now left : List Request) (r : Request) (reply : Told)
    → told ++ ended_all e test now ≡ given ++ ended_all e test all
    → taken_first test now ≡ Some (r, left) → reply ≡ ended_with e r → more ≡ told ++ reply ∷ [] → more ++ ended_all e test left ≡ given ++ ended_all e test all
ending_goes_on e test given told more all now left r reply so_far taken reply_is more_is =
    let rest = ended_all e test left in
    ap (λ t. t ++ rest) more_is ∙ append_assoc told (reply ∷ []) rest ∙ ap (λ t. told ++ t ∷ rest) reply_is
    ∙ ap (λ xs. told ++ map (ended_with e) xs) (sym (is_taken test now r left taken).passing) ∙ so_far

pub ending_ends : (e : Errno) (test : Request → Bool) (given told : List Told) (all now : List Request)
    → told ++ ended_all e test now ≡ given ++ ended_all e test all → taken_first test now ≡ None → told ≡ given ++ ended_all e test all
ending_ends e test given told all now so_far none =
    sym (append-nil told) ∙ ap (λ xs. told ++ map (ended_with e) xs) (sym (none_taken test now none).0) ∙ so_far
