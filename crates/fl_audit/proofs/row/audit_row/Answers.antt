use Rattle.std.proofs.Common.{◌≡◌, ◌∙◌, ◌+◌, ◌<◌, drop, Some, Err, List, ℕ, map, length, get_or, slice_get, sym, refl, ap, subst, arith}
use Rattle.std.specs.Prelude.{Result}
use Rattle.std.proofs.lemmas.List.{drop-set-lt}
use Rattle.std.proofs.lemmas.Option.{slice_get-map, slice_get-get_or}
use Rattle.std.specs.Option.{option_map}
use Rattle.fl_audit.specs.First.{IsSoOfAll}
use Rattle.fl_audit.specs.Inside.Rowing.{IsTextOutcome}
use Rattle.fl_audit.specs.Inside.Seams.{end_seen}
use Rattle.fl_audit.specs.Rows.{left_of, rules_of}
use Rattle.fl_audit.specs.declared.finding.AuditFault.TheVariants as fault
use Rattle.fl_audit.specs.declared.row.Outcome.{Outcome}
use Rattle.fl_audit.specs.declared.row.PieceReader.{PieceReader}
use Rattle.fl_audit.specs.declared.row.RowFault.{RowFault}
use Rattle.fl_audit.specs.declared.row.RowFinding.{RowFinding}
use Rattle.fl_audit.proofs.Sequences.{seen_alike, row_starts, row_on, row_ends, row_bad, drop_more, same_at}
use Rattle.fl_audit.proofs.row.audit_row.Goals as goal

-- what is left of a piece that isn't read yet
unread : {A B : Type 0} (f : A → B) (now old : List A) (k : ℕ) (d : A) → drop k now ≡ drop k old → k < length now
    → slice_get (map f old) k ≡ Some (f (get_or now k d))
unread f now old k d left below =
    slice_get-map f old k ∙ ap (option_map f) (same_at now old k (get_or now k d) left (slice_get-get_or now k d below))

pub loop-at-init : goal.loop-at-init
loop-at-init g c =
    let pieces : List (PieceReader g.row.R.Denot) = c.args.pieces.now in
    record { have = row_starts (rules_of pieces) (left_of g.R.Read.remaining pieces); same = refl; left = refl }

pub loop-at-preserved : goal.loop-at-preserved
loop-at-preserved g c =
    let have = c.loop-at.invariant.have in
    let k = c.loop-at.at in
    let now : List (PieceReader g.row.R.Denot) = c.loop-at.pieces in
    let old : List (PieceReader g.row.R.Denot) = c.args.pieces.now in
    let d = c.index-pieces-at.result in
    let test = c.loop-at-test.true in
    let long = c.loop-at.auto.pieces in
    let below : k < length now = omega (arith, test, long) in
    let found = unread (λ p. g.R.Read.remaining p.input) now old k d c.loop-at.invariant.left below in
    let named = unread (λ p. p.rules) now old k d c.loop-at.invariant.left below in
    let piece = get_or now k d in
    let end = option_map (λ e. end_seen e) c.loop-at.before in
    let said : IsSoOfAll (g.R.Read.remaining piece.input) (λ text. IsTextOutcome piece.rules end text c.in-Ok-Ends.field-0) = c.in-Ok-Ends.ensures.said in
    record {
      have = row_on (rules_of old) (left_of g.R.Read.remaining old) k (g.R.Read.remaining piece.input) piece.rules c.loop-at.before have
          found named (k + 1) c.in-Ok-Ends.end refl
          (subst (λ (o : Outcome). IsSoOfAll (g.R.Read.remaining piece.input) (λ text. IsTextOutcome piece.rules end text o)) c.in-Ok-Ends.field-0-is said);
      same = seen_alike (λ p. p.rules) now k c.hear_piece.new.piece d c.hear_piece.ensures.rules ∙ c.loop-at.invariant.same;
      left = drop-set-lt (k + 1) now k c.hear_piece.new.piece (omega arith) ∙ drop_more now old k c.loop-at.invariant.left;
    }

pub returns-in-Ok-Breaks-clause-found : goal.returns-in-Ok-Breaks-clause-found
returns-in-Ok-Breaks-clause-found g c =
    let have = c.loop-at.invariant.have in
    let k = c.loop-at.at in
    let now : List (PieceReader g.row.R.Denot) = c.loop-at.pieces in
    let old : List (PieceReader g.row.R.Denot) = c.args.pieces.now in
    let d = c.index-pieces-at.result in
    let test = c.loop-at-test.true in
    let long = c.loop-at.auto.pieces in
    let below : k < length now = omega (arith, test, long) in
    let found = unread (λ p. g.R.Read.remaining p.input) now old k d c.loop-at.invariant.left below in
    let named = unread (λ p. p.rules) now old k d c.loop-at.invariant.left below in
    let piece = get_or now k d in
    let end = option_map (λ e. end_seen e) c.loop-at.before in
    let said : IsSoOfAll (g.R.Read.remaining piece.input) (λ text. IsTextOutcome piece.rules end text c.in-Ok-Breaks.field-0) = c.in-Ok-Breaks.ensures.said in
    row_ends (rules_of old) (left_of g.R.Read.remaining old) k (g.R.Read.remaining piece.input) piece.rules c.loop-at.before have
    found named (k + 1) c.in-Ok-Breaks.line refl
    (subst (λ (o : Outcome). IsSoOfAll (g.R.Read.remaining piece.input) (λ text. IsTextOutcome piece.rules end text o)) c.in-Ok-Breaks.field-0-is said)

same_fault : (f h : RowFault) → ◌≡◌ {A = Result RowFinding RowFault} (Err f) (Err h) → f ≡ h
same_fault f h e = cc e

pub returns-in-Err-clause-bad : goal.returns-in-Err-clause-bad
returns-in-Err-clause-bad g c = λ piece line e.
    let have = c.loop-at.invariant.have in
    let k = c.loop-at.at in
    let now : List (PieceReader g.row.R.Denot) = c.loop-at.pieces in
    let old : List (PieceReader g.row.R.Denot) = c.args.pieces.now in
    let d = c.index-pieces-at.result in
    let test = c.loop-at-test.true in
    let long = c.loop-at.auto.pieces in
    let below : k < length now = omega (arith, test, long) in
    let found = unread (λ p. g.R.Read.remaining p.input) now old k d c.loop-at.invariant.left below in
    let named = unread (λ p. p.rules) now old k d c.loop-at.invariant.left below in
    let here = get_or now k d in
    let same = same_fault (record { piece = k + 1; fault = c.in-Err.fault }) (record { piece = piece; fault = fault.BadLine line }) e in
    row_bad (rules_of old) (left_of g.R.Read.remaining old) k (g.R.Read.remaining here.input) here.rules c.loop-at.before have
    found named piece line (sym (ap (λ (f : RowFault). f.piece) same)) (c.in-Err.ensures.bad line (ap (λ (f : RowFault). Err f.fault) same))

pub returns-in-Ok-Breaks-clause-rules : goal.returns-in-Ok-Breaks-clause-rules
returns-in-Ok-Breaks-clause-rules g c =
    let now : List (PieceReader g.row.R.Denot) = c.loop-at.pieces in
    seen_alike (λ p. p.rules) now c.loop-at.at c.hear_piece.new.piece c.index-pieces-at.result c.hear_piece.ensures.rules ∙ c.loop-at.invariant.same

pub returns-in-Err-clause-rules : goal.returns-in-Err-clause-rules
returns-in-Err-clause-rules g c =
    let now : List (PieceReader g.row.R.Denot) = c.loop-at.pieces in
    seen_alike (λ p. p.rules) now c.loop-at.at c.hear_piece.new.piece c.index-pieces-at.result c.hear_piece.ensures.rules ∙ c.loop-at.invariant.same
