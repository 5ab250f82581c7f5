use Rattle.std.proofs.Common.{rules}
use Rattle.std.specs.Prelude.{◌≢◌}
use Rattle.fl_stream.specs.declared.manner.WhenWriterFails.TheVariants.{GoOn}
use Rattle.lockd_serve.proofs.AheadLemmas.{is_over}
use Rattle.lockd_serve.proofs.serving.serve_stream.Goals as goal

pub returns-in-Ok-new-2-clause-over : goal.returns-in-Ok-new-2-clause-over
returns-in-Ok-new-2-clause-over g c =
    let ended = c.end_streamed-in-Writer-2.ensures in
    let ahead : c.args.options.when_full ≢ GoOn = search rules in
    λ _. is_over _ _ _ _ _ _ _ _ _ _ _ c.record-recorded-in-Writer-2.result c.streamed.result c.in-Writer-2.writer c.in-Writer-2.is
    ahead c.staff_of-staff.ensures.0 c.staff_of-staff.ensures.1 c.streamed.ensures c.record-recorded-in-Writer-2.ensures.served ended.traced
    ended.untraced ended.noted
