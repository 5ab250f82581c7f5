use Rattle.std.proofs.Common.{◌++◌, ap, string_bytes}
use Rattle.fl_locks.specs.Json.{lock_members}
use Rattle.fl_locks.specs.Words.{class_word, kind_word}
use Rattle.fl_locks.proofs.Members.{words_written}
use Rattle.fl_locks.proofs.json.push_lock.Goals as goal

pub returns : goal.returns
unfolding lock_members
returns c =
    simp (c.in_ok-write.ensures.bytes, c.class_word-class.ensures, c.kind_word-kind.ensures, c.is_some-waits.ensures)
    (ap (λ text. string_bytes c.args.text.now ++ text) (words_written (class_word c.args.row.now.key.class) (kind_word c.args.row.now.mark.kind) _))
