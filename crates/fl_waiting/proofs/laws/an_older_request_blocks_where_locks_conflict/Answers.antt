use Rattle.fl_waiting.proofs.First.{first_words}
use Rattle.fl_waiting.proofs.laws.an_older_request_blocks_where_locks_conflict.Goals as goal

pub returns : goal.returns
returns c = first_words
