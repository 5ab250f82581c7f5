-- What a marking has at a spot after changes.
use Rattle.std.proofs.Common.{◌≡◌, Bool, true, false, cond, ◌==◌, Option, Some, None, List, [], ◌∷◌, refl, ap, ◌∙◌}
use Rattle.std.specs.FinMap.{get, get-empty}
use Rattle.fl_marks.specs.declared.lock.Mark.{Mark}
use Rattle.fl_marks.specs.Marking.{Spot, spot_cmp, Marking, covers}
use Rattle.fl_marks.specs.Change.{Change, struck, cleared, after_change, marking_after, said_by, said_or, last_said}
use Rattle.fl_ranges.proofs.Markings.{get-stroked, get-without_node}

said_if : (b : Bool) (new old : Option Mark) → cond b new old ≡ said_or (cond b (Some new) None) old
said_if true new old = refl
said_if false new old = refl

get-after_change : (c : Change) (m : Marking) (q : Spot) → get (after_change c m) q ≡ said_or (said_by c q) (get m q)
get-after_change (struck s) m q = get-stroked s m q ∙ said_if (covers s q) s.mark (get m q)
get-after_change (cleared node) m q = get-without_node m node q ∙ said_if (q.0.node == node) None (get m q)

-- a spot has what the last change says that covers it, and nothing if none does
pub get-marking_after : (changes : List Change) (q : Spot) → get (marking_after changes) q ≡ last_said changes q
get-marking_after [] q = get-empty spot_cmp q
get-marking_after (c ∷ earlier) q = get-after_change c (marking_after earlier) q ∙ ap (said_or (said_by c q)) (get-marking_after earlier q)
