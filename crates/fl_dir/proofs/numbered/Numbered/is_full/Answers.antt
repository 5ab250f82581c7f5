use Rattle.std.proofs.Common.{◌≡◌, ◌==◌, subst, ◌∙◌}
use Rattle.std.proofs.lemmas.Bool.{eq-eqb}
use Rattle.fl_dir.specs.Inside.Numbers.{is_full}
use Rattle.fl_dir.proofs.Numbers.{full_of_none, room_of_some}
use Rattle.fl_dir.proofs.numbered.Numbered.is_full.Goals as goal

pub returns-then-free-eq0 : goal.returns-then-free-eq0
returns-then-free-eq0 g c =
    let own = c.self.inside in
    subst (λ n. (c.free.result == 0) ≡ is_full n) c.self.view_is
    (eq-eqb c.free.result 0 c.if-free-eq0.true
    ∙ full_of_none own.entries own.mask own.next c.free.result (own.next == 18446744073709551615) c.self.invariant c.free.ensures.total c.if-free-eq0.true)

pub returns-else-free-eq0 : goal.returns-else-free-eq0
returns-else-free-eq0 g c =
    let own = c.self.inside in
    subst (λ n. (own.next == 18446744073709551615) ≡ is_full n) c.self.view_is
    (room_of_some own.entries own.mask own.next c.free.result (own.next == 18446744073709551615) c.self.invariant c.free.ensures.total c.if-free-eq0.false)
