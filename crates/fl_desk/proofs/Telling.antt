-- What tells a core is a head.
use Rattle.std.proofs.Common.{◌≡◌, ◌<◌, List, [], ◌++◌, map, ap, sym, subst, ◌∙◌}
use Rattle.fl_core.specs.State.{Snapshot, snapshot_of}
use Rattle.fl_desk.specs.Heads.{IsToldBy, NamesRules}
use Rattle.fl_order.specs.declared.state_part.Head.{Head}
use Rattle.fl_order.specs.declared.state_part.StatePart.{StatePart}
use Rattle.fl_state.specs.Parts.{part_of}
use Rattle.fl_state.specs.Telling.{told_by, AreTold, Tells}

pub told_head : (p : Snapshot) (head : Head) (before after : List StatePart) → NamesRules head p.rules → head.node ≡ p.view.directory.next_node
    → head.fh ≡ p.view.directory.next_fh → before ≡ [] → Tells p before after
    → IsToldBy p.rules head after × (snapshot_of (told_by p.rules head.node head.fh (map part_of after)) ≡ p)
told_head p head before after names node fh none t =
    let all : after ≡ t.parts = t.added ∙ ap (λ b. b ++ t.parts) none in (
      record {
        under = names;
        node = subst (λ n. 1 < n) (sym node) t.kept.listed.next_node_above;
        fh = subst (λ n. 0 < n) (sym fh) t.kept.listed.next_fh_above;
        fit = subst (λ ps. AreTold p.rules head.node head.fh (map part_of ps)) (sym all)
            (subst (λ n. AreTold p.rules n head.fh (map part_of t.parts)) (sym node)
            (subst (λ n. AreTold p.rules p.view.directory.next_node n (map part_of t.parts)) (sym fh) t.fit));
      },
      (λ i. snapshot_of (told_by p.rules (node i) (fh i) (map part_of (all i)))) ∙ t.tell,
    )
