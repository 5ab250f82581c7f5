use Rattle.fl_stream.proofs.Streaming.{more_written}
use Rattle.fl_stream.proofs.writing.write_front.Goals as goal

pub loop-preserved : goal.loop-preserved
loop-preserved g c =
    more_written _ _ _ c.args.bytes.now c.loop.at c.write_some-n.result.0 c.loop.invariant.0 c.write_some-n.ensures.bound
    c.loop.invariant.1 c.write_some-n.ensures.bytes

pub returns-then-not-more-clause-bytes : goal.returns-then-not-more-clause-bytes
returns-then-not-more-clause-bytes g c =
    (more_written _ _ _ c.args.bytes.now c.loop.at c.write_some-n.result.0 c.loop.invariant.0 c.write_some-n.ensures.bound
    c.loop.invariant.1 c.write_some-n.ensures.bytes).1
