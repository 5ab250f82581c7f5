use Rattle.std.proofs.Common.{◌≡◌, ◌≤◌, ◌*◌, length}
use Rattle.fl_audit.specs.Inside.Hearing.{IsRoomy, HasRead}
use Rattle.fl_audit.specs.Inside.Keeping.{along}
use Rattle.fl_audit.proofs.reading.hear_all.Given as goal

abbrev pub invariant-loop-reads : goal.invariant-loop-reads
invariant-loop-reads g l = record {
  room : IsRoomy l.listener;
  few : length l.listener.judge.lines ≤ 65536 * l.reads;
  bytes : l.listener.bytes ≤ 65536 * l.reads;
  rules : l.listener.judge.rules ≡ l.fn.rules;
  most : l.listener.most ≡ l.fn.most;
  along : l.listener.judge.along ≡ along l.fn.beside;
  read : HasRead (g.R.Read.remaining l.initial.input) (g.R.Read.remaining l.input) l.listener;
}
