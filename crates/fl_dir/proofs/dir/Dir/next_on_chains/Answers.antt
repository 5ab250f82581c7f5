use Rattle.std.proofs.Common.{◌≡◌, length, subst, arith}
use Rattle.fl_dir.specs.Directory.{Listing}
use Rattle.fl_dir.specs.Naming.{is_linked_at}
use Rattle.fl_dir.specs.Inside.Next.{IsNext, linked_before}
use Rattle.fl_dir.proofs.Next.{next_of_all}
use Rattle.fl_dir.proofs.dir.Dir.next_on_chains.Goals as goal

pub returns : goal.returns
returns c =
    let own = c.self.inside in
    let a = c.arena-chains.result.0.now in
    let whole : c.loop-chain.chain ≡ length a.chains = omega (arith, c.arena-chains.ensures.chains) in
    let all = subst (λ k. IsNext (linked_before a k) c.args.from c.loop-chain.least) whole c.loop-chain.invariant in
    subst (λ (d : Listing). IsNext (is_linked_at d) c.args.from c.loop-chain.least) c.self.view_is
    (next_of_all a own.nodes.values c.arena-chains.ensures.spread c.args.from c.loop-chain.least all)
