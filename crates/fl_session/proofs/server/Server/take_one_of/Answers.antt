use Rattle.std.proofs.Common.{rules, map, true, false}
use Rattle.fl_transport.specs.Response.{bytes_of, lost}
use Rattle.fl_order.specs.Order.{kind_of}
use Rattle.fl_wire.specs.Spell.{spelling_of}
use Rattle.fl_session.proofs.server.Server.take_one_of.Goals as goal

pub returns-in-Ok-clause-taken : goal.returns-in-Ok-clause-taken
returns-in-Ok-clause-taken g c = record {
  replies = map spelling_of c.take.new.tolds.told;
  taken = record { refused = false; is = λ before. search rules };
  collected = search rules;
  behind = search rules;
}

pub returns-in-Err-clause-taken : goal.returns-in-Err-clause-taken
returns-in-Err-clause-taken g c = record {
  replies = bytes_of (lost (kind_of c.args.order.now.op) c.args.order.now.unique);
  taken = record { refused = true; is = λ before. search rules };
  collected = search rules;
  behind = search rules;
}
