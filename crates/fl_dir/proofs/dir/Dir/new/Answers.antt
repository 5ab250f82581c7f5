use Rattle.std.proofs.Common.{◌∙◌, ◌<◌, ◌≤◌, ◌+◌, ap, sym, subst, refl, arith}
use Rattle.fl_dir.specs.declared.nodes.Slot.{Slot}
use Rattle.std.specs.FinMap as map
use Rattle.fl_dir.specs.Directory.{opening_listing}
use Rattle.fl_dir.specs.Inside.Numbers.{Numbers}
use Rattle.fl_dir.proofs.Bare.{bare_empty}
use Rattle.fl_dir.proofs.Kept.{seen, new_kept}
use Rattle.fl_dir.proofs.dir.Dir.new.Goals as goal

pub invariant_of-result : goal.invariant_of-result
invariant_of-result c =
    new_kept c.in_ok-new.field-0 c.in_ok-new-3.field-0 c.in_ok-new-2.field-0.entries c.in_ok-new-2.field-0.mask (c.in_ok-new-2.field-0.mask + 1) c.args.files
    (ap (λ (n : Numbers Slot). n.values) c.in_ok-new.ensures) (ap (λ (n : Numbers _). n.values) c.in_ok-new-3.ensures) c.in_ok-new-2.ensures refl
    (sym (ap (λ (n : Numbers Slot). n.limit) c.in_ok-new.ensures))
    (subst (λ m. m ≤ 65536) (sym (ap (λ (n : Numbers _). n.limit) c.in_ok-new-3.ensures)) c.requires.open_files.1)
    (subst (λ m. 1 < m) (sym (ap (λ (n : Numbers Slot). n.next) c.in_ok-new.ensures)) (omega arith))
    (subst (λ m. 0 < m) (sym (ap (λ (n : Numbers _). n.next) c.in_ok-new-3.ensures)) (omega arith))

pub returns : goal.returns
returns c =
    ap (λ n. seen n c.in_ok-new-3.field-0) c.in_ok-new.ensures
    ∙ ap (λ f. seen (record { values = map.empty; next = 2; limit = c.args.files }) f) c.in_ok-new-3.ensures
    ∙ ap (λ b. record (opening_listing c.args.files c.args.open_files) { nodes = b; next_node = 2; next_fh = 1 }) bare_empty
