use Rattle.std.proofs.Common.{◌≡◌, ◌∙◌, Option, List, ℕ, take, take_at, drop, refl, sym, ap, subst}
use Rattle.std.proofs.KnownBytes.{Keeps-refl}
use Rattle.std.specs.Io.KnownBytes.{Consumes}
use Rattle.std.specs.Vec.{with_items}
use Rattle.fl_audit.proofs.Listening.{read_more, read_none, read_nothing, read_room, other_room}
use Rattle.fl_audit.proofs.listener.Listener.read.Goals as goal
use Rattle.fl_audit.specs.declared.listener.Listener.{Listener}

pub returns-in-Ok-clause-reads : goal.returns-in-Ok-clause-reads
returns-in-Ok-clause-reads g c = λ left so.
    let before = c.args.self.now in
    let old : Option (List ℕ) = g.R.Read.remaining c.args.input.now in
    let new : Option (List ℕ) = g.R.Read.remaining c.read_piece.new.input in
    let mid : Listener =
    record { judge = before.judge; bytes = before.bytes; most = before.most; room = with_items before.room c.read_piece.new.room; kept = before.kept; stopped = before.stopped } in
    let same : mid.room.items ≡ c.read_piece.new.room =
    take_at c.read_piece.new.room _ before.room.len (c.read_piece.auto.room ∙ c.deref_mut.ensures.len) in
    read_more left old new mid c.hear.new.self (take c.in-Ok.came (drop before.kept mid.room.items))
    (subst (λ (r : List ℕ). Consumes old new (take c.in-Ok.came (drop before.kept r))) (sym same) c.in-Ok.ensures.read) c.hear.ensures.hears
    (read_none left old old before mid (Keeps-refl old)
    (other_room before mid refl refl refl refl refl (ap (take before.kept) same ∙ c.read_piece.ensures.kept ∙ ap (take before.kept) c.deref_mut.ensures.value)) so)

pub returns-in-Ok-clause-room : goal.returns-in-Ok-clause-room
returns-in-Ok-clause-room g c = c.hear.ensures.room

pub returns-in-Ok-clause-few : goal.returns-in-Ok-clause-few
returns-in-Ok-clause-few g c = c.hear.ensures.few

pub returns-in-Ok-clause-bytes : goal.returns-in-Ok-clause-bytes
returns-in-Ok-clause-bytes g c = c.hear.ensures.bytes

pub returns-in-Ok-clause-rules : goal.returns-in-Ok-clause-rules
returns-in-Ok-clause-rules g c = c.hear.ensures.rules

pub returns-in-Ok-clause-along : goal.returns-in-Ok-clause-along
returns-in-Ok-clause-along g c = c.hear.ensures.along

pub returns-in-Ok-clause-most : goal.returns-in-Ok-clause-most
returns-in-Ok-clause-most g c = c.hear.ensures.most

pub returns-in-Ok-eq0-clause-reads : goal.returns-in-Ok-eq0-clause-reads
returns-in-Ok-eq0-clause-reads g c left so =
    read_nothing left _ _ _ _ (ap (λ n. take n (drop c.args.self.now.kept c.read_piece.new.room)) c.in-Ok-eq0.field-0-test)
    c.in-Ok-eq0.ensures.read
    (read_room left _ c.args.self.now c.read_piece.new.room (c.read_piece.auto.room ∙ c.deref_mut.ensures.len)
    (c.read_piece.ensures.kept ∙ ap (take c.args.self.now.kept) c.deref_mut.ensures.value) so)

pub returns-in-Err-clause-reads : goal.returns-in-Err-clause-reads
returns-in-Err-clause-reads g c left so =
    read_none left _ _ _ _ c.in-Err.ensures.failed (λ text is. is)
    (read_room left _ c.args.self.now c.read_piece.new.room (c.read_piece.auto.room ∙ c.deref_mut.ensures.len)
    (c.read_piece.ensures.kept ∙ ap (take c.args.self.now.kept) c.deref_mut.ensures.value) so)
