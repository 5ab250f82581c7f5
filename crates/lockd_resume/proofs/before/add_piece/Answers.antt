use Rattle.std.proofs.Common.{◌∙◌, ◌++◌, ap, refl}
use Rattle.lockd_resume.proofs.BeforeLemmas.{found_before}
use Rattle.lockd_resume.proofs.before.add_piece.Goals as goal

pub returns-clause-added : goal.returns-clause-added
returns-clause-added g c added =
    let last = c.args.last.now in
    found_before (g.B.Read.remaining c.args.piece) c.args.place last _ _ c.in-Ok.ensures refl
    (c.if-not-ends_before.ensures.legal refl) (c.if-not-ends_before.ensures.meets refl)
    (c.followed_by-past.ensures ∙ ap (λ l. l ++ last.past.items) c.in-Some.ensures.past) c.extend.ensures
