use Rattle.std.proofs.Common.{rules, ◌≡◌, length, All, refl, subst, sum_by}
use Rattle.fl_log.proofs.Counts.{has_all}
use Rattle.fl_log.specs.Appended.{Appended, AreApart, HasMost}
use Rattle.fl_log.proofs.shared_log.SharedLog.is_by.Goals as goal

pub returns-clause-each : goal.returns-clause-each
returns-clause-each g c test =
    let its = c.args.appenders.items in
    let total : length c.args.self.now ≡ sum_by (λ (a : Appended _). a.count) its = search rules in
    has_all g.E.Entry.author c.args.self.now its
    (subst (λ l. AreApart l) c.deref-else-not-begins_with.ensures.value (c.if-not-are_apart.ensures refl))
    (subst (All (HasMost g.E.Entry.author c.args.self.now)) c.deref.ensures.value
    (rw (← c.self.view_is) (c.if-not-begins_with.ensures refl))) total
