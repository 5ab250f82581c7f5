use Rattle.std.proofs.Common.{true, sym, subst}
use Rattle.std.specs.Prelude.{◌&&◌}
use Rattle.lockd_faults.specs.Ending.{Ending, EndsBehind}
use Rattle.lockd_faults.proofs.EndingLemmas.{gone}
use Rattle.lockd_faults.proofs.ending.end_at.Goals as goal

pub returns : goal.returns
returns g c = λ fault told ends.
    let now = g.F.Write.contents c.end_without_file.new.faults in
    let before : Ending = record { status = c.args.status; told = told; told_now = g.F.Write.contents c.args.faults.now } in
    let behind : Ending = record { status = c.end_without_file.result; told = told; told_now = now } in
    let said = c.end_without_file.ensures in
    let told_so = gone c.args.status c.end_without_file.result told _ now said.good said.bad said.told said.untold fault
    (subst (λ b. EndsBehind fault b before) c.if-not-whole.false ends) in
    subst (λ b. EndsBehind fault (b && c.args.there) behind) (sym c.if-not-whole.false)
    (subst (λ b. EndsBehind fault (true && b) behind) (sym c.if-there.false) told_so)
