use Rattle.std.proofs.Common.{◌≡◌, ◌↔◌, ◌∙◌, ◌++◌, List, map, refl, ap, sym, subst}
use Rattle.std.specs.List.{AllByRecursion}
use Rattle.fl_core.specs.State.{Snapshot}
use Rattle.fl_ranges.specs.Layout.{table_runs}
use Rattle.fl_state.specs.Inside.Saying.{all_items, node_part, file_part, lock_part}
use Rattle.fl_state.specs.Inside.Seeking.{Has, Sought}
use Rattle.fl_state.proofs.Seekings.{all_sought}
use Rattle.fl_state.proofs.same.is_within.Goals as goal

pub returns : goal.returns
returns c =
    let p = c.args.one.now in
    let q = c.args.other.now in
    let arenas = c.arenas-arenas in
    let a = arenas.result in
    let begun = c.new-seeking.ensures in
    let first = c.tell_all.ensures in
    let second = c.tell_all-2.ensures in
    let third = c.tell_locks.ensures in
    let nodes = map node_part (all_items a.directory.nodes.now) in
    let files = map file_part (all_items a.directory.files.now) in
    let locks = map lock_part (table_runs a.locks.now) in
    let sought = c.tell_locks.new.sink in
    let core : sought.core ≡ q = third.kept ∙ second.kept ∙ first.kept ∙ ap (λ (s : Sought). s.core) begun in
    let told : sought.told ≡ (nodes ++ files) ++ locks =
    third.told (third.infallible refl) ∙ ap (λ l. l ++ locks) (second.told (second.infallible refl) ∙ ap (λ l. l ++ files) (first.told (first.infallible refl)
    ∙ ap (λ (s : Sought). s.told ++ nodes) begun)) in
    let is = all_sought a p q arenas.ensures.kept sought.told told in
    let found = c.found_all.ensures in (
      λ yes. is.0 (subst (λ (x : Snapshot). AllByRecursion (Has x) sought.told) core (found.0 yes)),
      λ within. found.1 (subst (λ (x : Snapshot). AllByRecursion (Has x) sought.told) (sym core) (is.1 within)),
    )
