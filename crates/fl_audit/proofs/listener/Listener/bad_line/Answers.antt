use Rattle.std.proofs.Common.{◌∙◌, Some, ap, arith}
use Rattle.std.proofs.lemmas.Option.{IfSome_then}
use Rattle.fl_audit.proofs.Listening.{ends_bad, ends_inside, ends_whole, ends_enough}
use Rattle.fl_audit.proofs.listener.Listener.bad_line.Goals as goal

pub returns-in-Some-clause-bad : goal.returns-in-Some-clause-bad
returns-in-Some-clause-bad c =
    IfSome_then c.number.result c.number.ensures.some
    (λ n is. ends_bad c.a_line_is_short.ensures.lacks c.args.self.now n c.args.cut (c.in-Some.is ∙ ap Some is))

pub returns-in-Some-clause-none : goal.returns-in-Some-clause-none
returns-in-Some-clause-none c = λ none.
    ends_enough c.args.self.now c.args.cut (c.in-Some.is ∙ ap Some (c.number.ensures.none none)) c.requires.room.within

pub returns-in-None-clause-bad : goal.returns-in-None-clause-bad
returns-in-None-clause-bad c =
    IfSome_then c.rest_line.result c.rest_line.ensures.some
    (λ n so. ends_inside c.args.self.now n c.args.cut c.in-None.is so.2 so.1
    (let kept = c.requires.room.kept in let room = c.requires.room.room in omega (arith, kept, room)) so.0)

pub returns-in-None-clause-none : goal.returns-in-None-clause-none
returns-in-None-clause-none c = λ none.
    ends_whole c.args.self.now c.args.cut c.in-None.is (c.rest_line.ensures.none none) c.requires.room.within
