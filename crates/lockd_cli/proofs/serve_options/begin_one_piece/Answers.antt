use Rattle.std.proofs.Common.{inr}
use Rattle.clap.specs.Matches.{found_of}
use Rattle.lockd_cli.specs.Inside.{Misfits}
use Rattle.lockd_cli.proofs.RefusedLemmas.{passed_on}
use Rattle.lockd_cli.proofs.serve_options.begin_one_piece.Goals as goal

pub returns-in_err-trace-clause-refused : goal.returns-in_err-trace-clause-refused
returns-in_err-trace-clause-refused c =
    passed_on c.from_residual-in_err-trace.result _ _ (Misfits (found_of c.args.options.now)) c.from_residual-in_err-trace.ensures.1
    (λ full. inr (c.requires.resume, c.requires.pieces.0, c.in_err-trace.ensures.refused full))
