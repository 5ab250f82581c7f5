use Rattle.std.proofs.Common.{subst}
use Rattle.fl_dir.specs.Arenas.{joined}
use Rattle.fl_dir.specs.Directory.{Listing}
use Rattle.fl_dir.specs.Listed.{IsListed, nodes_on}
use Rattle.fl_dir.proofs.Listed.{is_listed}
use Rattle.fl_dir.proofs.dir.Dir.arenas.Goals as goal

pub returns-clause-listed : goal.returns-clause-listed
returns-clause-listed c =
    let own = c.self.inside in
    let nodes = c.arena-node_chains.result.0.now in
    let files = c.arena-file_chains.result.0.now in
    subst (λ (d : Listing). IsListed d (nodes_on nodes) (joined files.chains)) c.self.view_is
    (is_listed own.nodes own.files own.names.entries own.names.mask nodes files c.self.invariant c.arena-node_chains.ensures.home
    c.arena-file_chains.ensures.home)

pub returns-clause-linked : goal.returns-clause-linked
returns-clause-linked c =
    record {
      nodes = c.arena-node_chains.ensures.linked;
      names = c.keeps_links.ensures;
      files = c.arena-file_chains.ensures.linked;
    }
