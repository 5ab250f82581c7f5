use Rattle.std.proofs.Common.{rules, ◌≡◌, ◌+◌, ◌++◌, ◌∷◌, [], length, refl, ap, sym, ◌∙◌, subst, arith}
use Rattle.fl_log.specs.Appended.{Appended, HasMost, entries_by}
use Rattle.fl_log.proofs.Counts.{one_more_by}
use Rattle.fl_log.proofs.shared_log.SharedLog.append.Goals as goal

pub invariant_of-appender : goal.invariant_of-appender
invariant_of-appender g c =
    let author_of = g.E.Entry.author in
    let was = c.self.inside.all in
    let entry = g.M.Plain.ask c.args.about.now in
    let author = c.appender.inside.author in
    let its : author_of entry ≡ author =
    c.requires.appender ∙ ap (λ (a : Appended _). a.author) (sym c.appender.view_is) in
    let grown : c.again.result ≡ was ++ entry ∷ [] = search rules in
    let most = subst (HasMost author_of was) (sym c.appender.view_is) (c.if-not-begins.ensures refl) in
    let more : length (entries_by author_of author c.again.result) ≡ length (entries_by author_of author was) + 1 =
    ap (λ l. length (entries_by author_of author l)) grown ∙ one_more_by author_of author was entry its in
    (c.add-2.ensures.parts ∙ c.appender.invariant.0, omega (arith, c.add-2.ensures.amount, most.count, more))
