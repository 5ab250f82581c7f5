-- What is given to be sent for orders that are handed in together.
use Rattle.std.specs.Prelude.{ℕ, List, map}
use Rattle.fl_order.specs.declared.told.Told.{Told}
use Rattle.fl_workers.specs.Sent.{entry, replies_to}
use Rattle.fl_workers.specs.declared.entry.ReplyEntry.{ReplyEntry}

-- lists of replies, as this author gives them to be sent
abbrev pub entries_for : ℕ → List (List Told) → List ReplyEntry
entries_for author lists = map (λ tolds. entry author (replies_to tolds)) lists
