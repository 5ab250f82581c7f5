use Rattle.std.proofs.Common.{◌≡◌, drop}
use Rattle.fl_audit.specs.Inside.Rowing.{HaveRow}
use Rattle.fl_audit.specs.Rows.{left_of, rules_of}
use Rattle.fl_audit.proofs.row.audit_row.Given as goal

abbrev pub invariant-loop-at : goal.invariant-loop-at
invariant-loop-at g l = record {
  have : HaveRow (rules_of l.initial.pieces) (left_of g.R.Read.remaining l.initial.pieces) l.at l.before;
  same : rules_of l.pieces ≡ rules_of l.initial.pieces;
  left : drop l.at l.pieces ≡ drop l.at l.initial.pieces;
}
