use Rattle.std.proofs.Common.{◌≡◌, ◌≤◌, false, List, [], ◌∷◌, length, map, ap, subst, ◌∙◌}
use Rattle.std.specs.List.{AllByRecursion}
use Rattle.fl_core.specs.Kept.{IsRuled}
use Rattle.fl_core.specs.State.{Snapshot}
use Rattle.fl_dir.specs.Arenas.{joined}
use Rattle.fl_dir.specs.Listed.{IsListed, nodes_on}
use Rattle.fl_ranges.specs.Layout.{table_runs}
use Rattle.fl_ranges.specs.Setting.{CanBeSet}
use Rattle.fl_waiting.specs.LockRequest.{is_malformed}
use Rattle.fl_waiting.specs.Waiting.{AllWait, AreApart}
use Rattle.fl_waiting.specs.declared.claim.Claim.{Claim}
use Rattle.fl_waiting.specs.declared.parked.Request.{Request}
use Rattle.fl_core.proofs.state.Core.arenas.Goals as goal

pub returns-clause-hold : goal.returns-clause-hold
returns-clause-hold c =
    let shown = c.parts.view_is ∙ c.self.view_is in
    record {
      nodes = c.arenas.ensures.nodes ∙ ap (λ (t : Snapshot). t.view.directory.nodes) shown;
      files = c.arenas.ensures.files ∙ ap (λ (t : Snapshot). t.view.directory.files) shown;
      next_node = c.arenas.ensures.next.0 ∙ ap (λ (t : Snapshot). t.view.directory.next_node) shown;
      next_fh = c.arenas.ensures.next.1 ∙ ap (λ (t : Snapshot). t.view.directory.next_fh) shown;
      locks = c.rows.ensures.marking ∙ ap (λ (t : Snapshot). t.marking) shown;
      parked = c.arena.ensures.requests ∙ ap (λ (t : Snapshot). t.view.parked) shown;
    }

pub returns-clause-linked : goal.returns-clause-linked
returns-clause-linked c =
    record { directory = c.arenas.ensures.linked; locks = c.rows.ensures.linked; parked = c.arena.ensures.linked }

all_formed : (claims : List Claim) → AllByRecursion (λ (r : Request). is_malformed r.ask ≡ false) (map (λ (claim : Claim). claim.request) claims)
all_formed [] = tt
all_formed (claim ∷ claims) = (claim.asked, all_formed claims)

pub returns-clause-kept : goal.returns-clause-kept
returns-clause-kept c =
    let own = c.parts.inside in
    let now = c.args.self.now in
    let nodes = nodes_on c.arenas.result.nodes.now in
    let files = joined c.arenas.result.files.now.chains in
    let runs = table_runs c.rows.result.now in
    let shown = c.parts.view_is ∙ c.self.view_is in
    record {
      ruled = subst (λ (t : Snapshot). IsRuled t.rules t.view.directory) shown c.parts.invariant.1;
      listed = subst (λ (t : Snapshot). IsListed t.view.directory nodes files) shown c.arenas.ensures.listed;
      settable = subst (λ (t : Snapshot). CanBeSet t.rules.runs t.marking runs) shown
          (subst (λ n. CanBeSet n own.locks.marking runs) c.parts.invariant.0 c.rows.ensures.settable);
      formed = subst (λ (t : Snapshot). AllByRecursion (λ (r : Request). is_malformed r.ask ≡ false) t.view.parked) shown
          (subst (AllByRecursion (λ (r : Request). is_malformed r.ask ≡ false)) c.arena.ensures.requests (all_formed _));
      waiting = subst (λ (t : Snapshot). AllWait t.rules t.marking t.view.parked) c.self.view_is c.self.invariant.0;
      apart = subst (λ (t : Snapshot). AreApart t.view.parked) c.self.view_is c.self.invariant.1;
      few = subst (λ (t : Snapshot). length t.view.parked ≤ t.rules.parked) c.self.view_is c.self.invariant.2;
    }
