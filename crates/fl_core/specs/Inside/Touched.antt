-- Which requests an order may have set free: those on a node, of one class or of both, or any.
use Rattle.std.specs.Prelude.{◌≡◌, ℕ, ◌==◌, ◌&&◌, Bool, true, false, Option, Some, Result, Ok, List, [], ◌∷◌, ◌++◌}
use Rattle.fl_waiting.specs.LockRequest.{key_of}
use Rattle.fl_waiting.specs.Waiting.{waits, AllBehind}
use Rattle.fl_waiting.specs.declared.parked.Request.{Request}
use Rattle.fl_waiting.specs.declared.rules.Rules.{Rules}
use Rattle.fl_core.specs.declared.settling.Touched.{Touched}
use Rattle.fl_core.specs.declared.settling.Touched.TheVariants.{Nothing, OfClass, OfNode, Anything}
use Rattle.fl_order.specs.declared.errno.Errno.{Errno}
use Rattle.fl_order.specs.declared.told.Answer.{Answer}
use Rattle.fl_marks.specs.declared.lock.Class.{Class}
use Rattle.fl_marks.specs.declared.lock.Key.{Key}
use Rattle.fl_marks.specs.declared.lock.Kind.{Kind}
use Rattle.fl_marks.specs.Conflict.{conflicts}
use Rattle.fl_marks.specs.Marking.{Marking, class_number}

-- locks of this class and node may have gone
abbrev pub concerns : Touched → ℕ → Class → Bool
concerns Nothing of class = false
concerns (OfClass node own) of class = (class_number class == class_number own) && (of == node)
concerns (OfNode node) of class = of == node
concerns Anything of class = true

-- those that the request waits for may
abbrev pub concerns_request : Touched → Request → Bool
concerns_request t r = concerns t r.node (key_of r.node r.ask).class

-- each other request waits
abbrev pub OthersWait : Touched → Rules → Marking → List Request → Type 0
OthersWait t rules m parked =
    AllBehind (λ older r. concerns_request t r ≡ false → waits rules m older r ≡ true) [] parked

-- a request has to wait, and waits now behind the others
pub record WaitsNow (rules : Rules) (before after : Marking) (parked parked_after : List Request) (r : Request)
    : Type 0 where
  pub locks : after ≡ before
  pub last : parked_after ≡ parked ++ r ∷ []
  pub waits : waits rules before parked r ≡ true

-- no other locks changed than those that were touched: any other request has the same conflicts before and after
abbrev pub SameOff : Touched → Marking → Marking → Type 0
SameOff t before after =
    (key : Key) (start end : ℕ) (kind : Kind) → concerns t key.node key.class ≡ false
    → conflicts after key start end kind ≡ conflicts before key start end kind

-- what an order with this answer touched; `touched` is what it touches if it is done
abbrev pub touched_if_done : Option (Result Answer Errno) → Touched → Touched
touched_if_done (Some (Ok answer)) touched = touched
touched_if_done own touched = Nothing
