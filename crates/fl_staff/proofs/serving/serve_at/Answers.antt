use Rattle.std.proofs.Common.{[], arith, false, inl, refl, ap, sym, ◌∙◌}
use Rattle.std.proofs.KnownBytes.{Keeps-refl}
use Rattle.std.specs.List.{range_with_len}
use Rattle.fl_staff.proofs.CrewLemmas.{as_many, workers_of}
use Rattle.fl_staff.proofs.EndLemmas.{nothing_given}
use Rattle.fl_staff.proofs.serving.serve_at.Goals as goal

pub returns-in_default-clause-unserved : goal.returns-in_default-clause-unserved
returns-in_default-clause-unserved g c = record {
  why = inl refl;
  unread = Keeps-refl _;
  unwritten = λ _. c.requires.start;
  log = [];
  broken = false;
  sent = rw c.requires.start (nothing_given g.N.WriterName.start);
}

pub manned-crew-requires-clause-rest : goal.manned-crew-requires-clause-rest
manned-crew-requires-clause-rest g c =
    let many = as_many g.C.Counter.worker _ _ c.requires.whose in
    let whole = c.new-sender.ensures.whole in
    (omega (arith, many, whole.0, c.requires.sending.2), whole.1)

pub manned-crew-requires-clause-whose : goal.manned-crew-requires-clause-whose
manned-crew-requires-clause-whose g c =
    c.requires.whose ∙ sym (ap (range_with_len 0) (as_many g.C.Counter.worker _ _ c.requires.whose))

pub manned-crew-requires-clause-few : goal.manned-crew-requires-clause-few
manned-crew-requires-clause-few g c =
    omega (arith, as_many g.C.Counter.worker _ _ c.requires.whose, c.requires.workers.1)

pub manned-crew-requires-clause-enough : goal.manned-crew-requires-clause-enough
manned-crew-requires-clause-enough g c =
    let many = sym (as_many g.C.Counter.worker _ _ c.requires.whose) in
    let enough = c.in-Ok.ensures.enough in
    (enough.0 ∙ many, enough.1 ∙ many)

pub manned-crew-requires-clause-room : goal.manned-crew-requires-clause-room
manned-crew-requires-clause-room g c =
    let many = as_many g.C.Counter.worker _ _ c.requires.whose in
    let room = c.in-Ok.ensures.room in (
      omega (arith, many, room.0),
      omega (arith, many, room.1),
      omega (arith, many, room.2),
      omega (arith, many, room.3),
      omega (arith, many, room.4),
    )

pub appender-own-requires-clause-rest : goal.appender-own-requires-clause-rest
appender-own-requires-clause-rest g c =
    let many = as_many g.C.Counter.worker _ _ c.requires.whose in
    let whole = c.new-sender.ensures.whole in
    let rest = c.manned-crew.ensures.rest in
    (omega (arith, many, whole.0, c.requires.sending.2, rest.0), rest.1)

pub run_pool-requires-clause-workers : goal.run_pool-requires-clause-workers
run_pool-requires-clause-workers g c _ _ =
    workers_of g.C.Counter.worker (λ worker. worker.post.seat) _ _ c.manned-crew.ensures.seats ∙ c.requires.whose
    ∙ sym (ap (range_with_len 0) c.in-Ok.ensures.takers)
