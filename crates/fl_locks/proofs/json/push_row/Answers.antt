use Rattle.std.proofs.Common.{string_bytes}
use Rattle.fl_locks.specs.Json.{lock_members, range_members, waiting_members, file_members}
use Rattle.fl_locks.proofs.Members.{object_written}
use Rattle.fl_locks.proofs.json.push_row.Goals as goal

pub returns : goal.returns
returns c =
    let row = c.args.row.now in
    simp (
      c.in_ok-push_str-5.ensures.bytes,
      c.in_ok-push_file.ensures,
      c.in_ok-push_str-4.ensures.bytes,
      c.in_ok-push_waiting.ensures,
      c.in_ok-push_str-3.ensures.bytes,
      c.in_ok-push_range.ensures,
      c.in_ok-push_str-2.ensures.bytes,
      c.in_ok-push_lock.ensures,
      c.in_ok-push_str.ensures.bytes,
    ) (object_written (string_bytes c.args.text.now) (lock_members row) (range_members row) (waiting_members row) (file_members row))
