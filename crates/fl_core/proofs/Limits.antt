-- No order changes how many files and open files there may be.
use Rattle.std.proofs.Common.{Bool, true, false, cond, ℕ, Option, Some, None, Result, Ok, Err, List}
use Rattle.std.specs.FinMap.{get, remove}
use Rattle.fl_core.specs.Effects.{listing_answered, listing_replied, listing_unanswered}
use Rattle.fl_core.specs.Kept.{IsRuled}
use Rattle.fl_dir.specs.Changes.{after_close, after_lookup, after_make, after_open, after_reply, after_unlink, swept, swept_node, unlinked}
use Rattle.fl_dir.specs.Directory.{Listing, linked}
use Rattle.fl_dir.specs.OpenFiles.{lives}
use Rattle.fl_dir.specs.declared.node.Node.{Node}
use Rattle.fl_order.specs.declared.errno.Errno.{Errno}
use Rattle.fl_order.specs.declared.told.Answer.{Answer}
use Rattle.fl_order.specs.declared.told.Answer.TheVariants.{Entry, Open as Opened, Made}
use Rattle.fl_order.specs.declared.order.Order.{Order}
use Rattle.fl_order.specs.declared.order.Op.{Op}
use Rattle.fl_order.specs.declared.order.Op.TheVariants.{Lookup, Forget, Unlink, Open, Release, Create, Mknod, Mkdir, Rmdir}
use Rattle.fl_waiting.specs.declared.rules.Rules.{Rules}

module _ (rules : Rules) where
  ruled_swept : (number : ℕ) (d : Listing) → IsRuled rules d → IsRuled rules (swept number d)
  ruled_swept number d ruled = go (get d.nodes number)
    where
      by_life : (b : Bool) → IsRuled rules (cond b d (record d { nodes = remove d.nodes number }))
      by_life true = ruled
      by_life false = record { nodes = ruled.nodes; files = ruled.files }

      go : (o : Option Node) → IsRuled rules (swept_node d number o)
      go None = ruled
      go (Some node) = by_life (lives d number node)

  ruled_lookup : (d : Listing) (reply : Result Answer Errno) → IsRuled rules d → IsRuled rules (after_lookup d reply)
  ruled_lookup d (Ok (Entry attr)) ruled = record { nodes = ruled.nodes; files = ruled.files }
  ruled_lookup d other ruled = ruled

  ruled_reply : (d : Listing) (node : Node) (reply : Result Answer Errno) → IsRuled rules d → IsRuled rules (after_reply d node reply)
  ruled_reply d node (Ok (Made attr fh)) ruled = record { nodes = ruled.nodes; files = ruled.files }
  ruled_reply d node other ruled = ruled

  ruled_make : (d : Listing) (node : Node) (reply : Result Answer Errno) → IsRuled rules d → IsRuled rules (after_make d node reply)
  ruled_make d node (Ok (Entry attr)) ruled = record { nodes = ruled.nodes; files = ruled.files }
  ruled_make d node other ruled = ruled

  ruled_open : (d : Listing) (node : ℕ) (reply : Result Answer Errno) → IsRuled rules d → IsRuled rules (after_open d node reply)
  ruled_open d node (Ok (Opened fh)) ruled = record { nodes = ruled.nodes; files = ruled.files }
  ruled_open d node other ruled = ruled

  ruled_unlink : (d : Listing) (name : List ℕ) (reply : Result Answer Errno) → IsRuled rules d → IsRuled rules (after_unlink d name reply)
  ruled_unlink d name (Ok answer) ruled = go (linked d name)
    where
      go : (o : Option (ℕ × Node)) → IsRuled rules (unlinked d o)
      go None = ruled
      go (Some found) = ruled_swept found.0 _ (record { nodes = ruled.nodes; files = ruled.files })
  ruled_unlink d name (Err e) ruled = ruled

  pub ruled_close : {X : Type 0} (d : Listing) (node fh : ℕ) (reply : Result X Errno) → IsRuled rules d → IsRuled rules (after_close d node fh reply)
  ruled_close d node fh (Ok answer) ruled = ruled_swept node _ (record { nodes = ruled.nodes; files = ruled.files })
  ruled_close d node fh (Err e) ruled = ruled

  ruled_answered : (order : Order) (op : Op) (reply : Result Answer Errno) (d : Listing) → IsRuled rules d → IsRuled rules (listing_answered order op reply d)
  ruled_answered order (Lookup name) reply d ruled = ruled_lookup d reply ruled
  ruled_answered order (Unlink name) reply d ruled = ruled_unlink d name reply ruled
  ruled_answered order (Mknod mode name) reply d ruled = ruled_make d _ reply ruled
  ruled_answered order (Mkdir mode name) reply d ruled = ruled_make d _ reply ruled
  ruled_answered order (Rmdir name) reply d ruled = ruled_unlink d name reply ruled
  ruled_answered order Open reply d ruled = ruled_open d order.node reply ruled
  ruled_answered order (Release fh unlocks owner) reply d ruled = ruled_close d order.node fh reply ruled
  ruled_answered order (Create excl mode name) reply d ruled = ruled_reply d _ reply ruled
  ruled_answered order op reply d ruled = ruled

  ruled_unanswered : (order : Order) (op : Op) (d : Listing) → IsRuled rules d → IsRuled rules (listing_unanswered order op d)
  ruled_unanswered order (Forget n) d ruled = ruled_swept order.node _ (record { nodes = ruled.nodes; files = ruled.files })
  ruled_unanswered order op d ruled = ruled

  pub ruled_replied : (order : Order) (own : Option (Result Answer Errno)) (d : Listing) → IsRuled rules d → IsRuled rules (listing_replied order own d)
  ruled_replied order None d ruled = ruled_unanswered order order.op d ruled
  ruled_replied order (Some reply) d ruled = ruled_answered order order.op reply d ruled
