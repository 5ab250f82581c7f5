use Rattle.std.proofs.Common.{rules, ◌≡◌, ◌<◌, length, All, arith, subst, List}
use Rattle.std.proofs.Math.ListN.{get_or}
use Rattle.std.proofs.lemmas.List.{take_more, take_all}
use Rattle.std.proofs.lemmas.List.Elements.{All-push}
use Rattle.fl_log.specs.Appended.{HasMost}
use Rattle.fl_log.proofs.shared_log.begins_with.Goals as goal

pub loop-appender-preserved : goal.loop-appender-preserved
loop-appender-preserved g c =
    let its = c.args.appenders.now in
    let i = c.loop-appender.appender-index in
    let P = HasMost g.E.Entry.author c.args.all.now in
    let lt : i < length its = search rules in
    let most : P c.appender-item.result = search rules in
    let is : get_or its i c.appender-item.result ≡ c.appender-item.result = search rules in
    rw (take_more its i c.appender-item.result lt, is) (All-push P _ _ c.loop-appender.invariant most)

pub returns : goal.returns
returns g c = λ test. subst (All (HasMost g.E.Entry.author c.args.all.now))
    (take_all c.loop-appender.appender-index c.args.appenders.now (omega (arith, c.loop-appender-test.false)))
    c.loop-appender.invariant
