use Rattle.std.proofs.Common.{◌≡◌, Ok, inl, map, refl, rules, sym, subst}
use Rattle.lockd_drive.specs.Drive.{text_says}
use Rattle.lockd_drive.specs.Drive.Inside.{said_by, TextFaults}
use Rattle.lockd_faults.specs.declared.fault.CommandFault.TheVariants.{NoMemory}
use Rattle.lockd_drive.proofs.DriveLemmas.{did_all, did_not_begin, did_not_connect, did_not_read, did_stop, in_part, in_part_none}
use Rattle.lockd_drive.proofs.drive.drive.Goals as goal

pub returns-in_err-actions-clause-did : goal.returns-in_err-actions-clause-did
returns-in_err-actions-clause-did g c =
    let bad = subst (λ text. TextFaults text c.in_err-actions.field-0.0) c.deref.ensures.value c.in_err-actions.ensures.error in
    let did = did_not_begin (g.R.Read.remaining c.args.input.now) (g.W.Write.contents c.args.output.now)
    c.in_ok-text.text.items c.in_err-actions.field-0.0 c.in_ok-text.ensures.bytes bad in
    search rules

pub returns-in_err-stream-clause-did : goal.returns-in_err-stream-clause-did
returns-in_err-stream-clause-did g c =
    let lines = map said_by c.in_ok-actions.actions.items in
    let said = subst (λ text. text_says text ≡ Ok lines) c.deref.ensures.value c.in_ok-actions.ensures.said in
    let did = did_not_connect (g.R.Read.remaining c.args.input.now) (g.W.Write.contents c.args.output.now)
    c.in_ok-text.text.items lines c.in_err-stream.field-0.0 c.in_ok-text.ensures.bytes said
    c.in_err-stream.ensures.error in
    search rules

pub returns-in_err-drive_over-clause-did : goal.returns-in_err-drive_over-clause-did
returns-in_err-drive_over-clause-did g c =
    let text = c.in_ok-text.text.items in
    let told = subst (λ text. text_says text ≡ Ok (map said_by c.in_ok-actions.actions.items)) c.deref.ensures.value
    c.in_ok-actions.ensures.said in
    let said = subst (λ actions. text_says text ≡ Ok (map said_by actions)) (sym c.deref-2.ensures.value) told in
    let did = did_stop (g.R.Read.remaining c.args.input.now) (g.W.Write.contents c.args.output.now)
    (g.W.Write.contents c.drive_over.new.output) _ _ _ _ text (map said_by c.deref-2.result.now)
    c.in_err-drive_over.field-0.0 c.in_ok-text.ensures.bytes said c.in_err-drive_over.ensures.stopped in
    search rules

pub returns-clause-did : goal.returns-clause-did
returns-clause-did g c =
    let text = c.in_ok-text.text.items in
    let told = subst (λ text. text_says text ≡ Ok (map said_by c.in_ok-actions.actions.items)) c.deref.ensures.value
    c.in_ok-actions.ensures.said in
    let said = subst (λ actions. text_says text ≡ Ok (map said_by actions)) (sym c.deref-2.ensures.value) told in
    did_all (g.R.Read.remaining c.args.input.now) (g.W.Write.contents c.args.output.now)
    (g.W.Write.contents c.drive_over.new.output) _ _ _ _ text (map said_by c.deref-2.result.now)
    c.in_ok-text.ensures.bytes said c.in_ok-drive_over.ensures.done

pub returns-in_err-stream-clause-begun : goal.returns-in_err-stream-clause-begun
returns-in_err-stream-clause-begun g c =
    let begun = in_part_none (g.R.Read.remaining c.args.input.now) (g.W.Write.contents c.args.output.now) in
    search rules

pub returns-in_err-drive_over-clause-begun : goal.returns-in_err-drive_over-clause-begun
returns-in_err-drive_over-clause-begun g c =
    let text = c.in_ok-text.text.items in
    let told = subst (λ text. text_says text ≡ Ok (map said_by c.in_ok-actions.actions.items)) c.deref.ensures.value
    c.in_ok-actions.ensures.said in
    let said = subst (λ actions. text_says text ≡ Ok (map said_by actions)) (sym c.deref-2.ensures.value) told in
    let begun = in_part (g.R.Read.remaining c.args.input.now) (g.W.Write.contents c.args.output.now)
    (g.W.Write.contents c.drive_over.new.output) _ _ text (map said_by c.deref-2.result.now)
    c.in_ok-text.ensures.bytes said c.in_err-drive_over.ensures.begun in
    search rules

pub returns-in_err-text-clause-did : goal.returns-in_err-text-clause-did
returns-in_err-text-clause-did g c =
    let did = did_not_read (g.R.Read.remaining c.args.input.now) (g.W.Write.contents c.args.output.now)
    c.in_err-text.field-0.0 c.in_err-text.ensures.error in
    search rules

pub returns-in_err-room-clause-did : goal.returns-in_err-room-clause-did
returns-in_err-room-clause-did g c =
    let did = did_not_read (g.R.Read.remaining c.args.input.now) (g.W.Write.contents c.args.output.now) NoMemory (inl refl) in
    search rules
