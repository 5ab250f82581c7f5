-- Room for the replies to orders that are handed in together.
use Rattle.std.specs.Prelude.{◌≡◌, ℕ, ◌<◌, ◌≤◌, [], vec_capacity}
use Rattle.fl_workers.specs.declared.room.ReplyRoom.{ReplyRoom}
use Rattle.fl_workers.specs.declared.room.BatchRoom.{BatchRoom}

-- there is room for so many replies, as many as one order may be given, and a place for their list
abbrev pub HasRoomFor : ℕ → ReplyRoom → Type 0
HasRoomFor most room = (most ≤ room.tolds.room) × (most ≤ room.lists.room) × (0 < room.lists.places)

-- the same of a worker's room, with an empty batch that has room for an order
abbrev pub HasBatchFor : ℕ → BatchRoom → Type 0
HasBatchFor most room = (room.batch.items ≡ []) × (0 < vec_capacity room.batch) × HasRoomFor most room.replies
