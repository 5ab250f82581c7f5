use Rattle.std.proofs.Common.{◌∷◌, [], codes, map, string_bytes}
use Rattle.std.specs.List.{join_with_byte}
use Rattle.fl_locks.specs.Json.{waiting_members, unique_json, blocker_json}
use Rattle.fl_locks.proofs.Members.{five_pieces}
use Rattle.fl_locks.proofs.json.push_waiting.Goals as goal

pub returns : goal.returns
unfolding waiting_members
returns c =
    simp (
      c.in_ok-push_str-3.ensures.bytes,
      c.in_ok-push_blockers.ensures,
      c.as_slice.ensures,
      c.in_ok-push_str-2.ensures.bytes,
      c.in_ok-push_unique.ensures,
      c.in_ok-push_str.ensures.bytes,
    ) (five_pieces (string_bytes c.args.text.now) (codes "\"unique\":") (unique_json c.args.row.now.unique) (codes ",\"blockers\":[")
    (join_with_byte 44 (map blocker_json c.args.row.now.blockers)) (93 ∷ []))
