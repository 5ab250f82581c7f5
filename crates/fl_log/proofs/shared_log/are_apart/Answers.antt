use Rattle.std.proofs.Common.{rules, ◌≡◌, ◌≢◌, ◌<◌, ◌∙◌, ap, length, take, refl, sym, subst, arith}
use Rattle.std.proofs.Math.ListN.{get_or}
use Rattle.std.proofs.lemmas.List.{take_more, take_all}
use Rattle.std.proofs.lemmas.List.Quantifiers.{all_pairs_push}
use Rattle.fl_log.specs.Appended.{AreApart}
use Rattle.fl_log.proofs.shared_log.are_apart.Goals as goal

pub loop-i-preserved : goal.loop-i-preserved
loop-i-preserved g c =
    let its = c.args.appenders.now in
    let i = c.loop-i.i in
    let appender = c.index-appenders-i.result in
    let lt : i < length its = search rules in
    let is : get_or its i appender ≡ appender = sym c.index-appenders-i.is in
    let whose : c.appender.inside.author ≡ appender.author = ap (λ (a : _). a.author) c.appender.view_is in
    rw (take_more its i appender lt, is)
    (all_pairs_push (λ (a b : _). a.author ≢ b.author) (take i its) appender c.loop-i.invariant
    (λ k d short same. c.if-has_author.ensures refl k d short (same ∙ sym whose)))

pub returns : goal.returns
returns g c = λ test. subst AreApart (take_all c.loop-i.i c.args.appenders.now (omega (arith, c.loop-i-test.false)))
    c.loop-i.invariant
