use Rattle.std.proofs.Common.{rules, ◌≡◌, ◌∙◌, ℕ, Some, None, ◌==◌, ◌&&◌, option_map, ap, sym, subst}
use Rattle.std.specs.FinMap.{get}
use Rattle.fl_dir.specs.declared.nodes.Slot.{Slot}
use Rattle.fl_dir.specs.Directory.{Listing, linked}
use Rattle.fl_dir.specs.Inside.Kept.{link_name, name_in, has_name}
use Rattle.fl_dir.proofs.Bare.{get_bare}
use Rattle.fl_dir.proofs.Kept.{searched, found_named, named_there, not_linked, is_linked, linked_so}
use Rattle.fl_dir.proofs.dir.Dir.linked.Goals as goal
use Rattle.fl_dir.proofs.dir.Dir.linked.Goals.{After-at}

pub returns-in-None-clause-linked : goal.returns-in-None-clause-linked
returns-in-None-clause-linked c =
    let own = c.self.inside in
    let found = searched own.nodes own.files own.names.entries own.names.mask c.args.name.now c.args.self.now c.hash_of-hash.result c.from.result c.chain_of-chain.result c.get.result
    c.self.view_is c.hash_of-hash.ensures c.from.ensures c.chain_of-chain.ensures
    (c.get.ensures.item
    ∙ c.first_where-at.ensures.found (λ (e : ℕ × ℕ). (e.1 == c.hash_of-hash.result) && has_name (get c.args.self.now.nodes e.0) c.args.name.now) (λ a r k. search rules)) in
    subst (λ d. None ≡ linked d c.args.name.now) c.self.view_is
    (sym (not_linked own.nodes own.names.entries own.names.mask own.files c.args.name.now c.self.invariant (sym found ∙ c.in-None.is)))

pub at-requires : goal.at-requires
at-requires c =
    let own = c.self.inside in
    let found = searched own.nodes own.files own.names.entries own.names.mask c.args.name.now c.args.self.now c.hash_of-hash.result c.from.result c.chain_of-chain.result c.get.result
    c.self.view_is c.hash_of-hash.ensures c.from.ensures c.chain_of-chain.ensures
    (c.get.ensures.item
    ∙ c.first_where-at.ensures.found (λ (e : ℕ × ℕ). (e.1 == c.hash_of-hash.result) && has_name (get c.args.self.now.nodes e.0) c.args.name.now) (λ a r k. search rules)) in
    named_there own.nodes.values c.in-Some.number c.args.name.now
    (found_named own.nodes c.args.name.now _ (c.in-Some.number, c.in-Some.field-0-1) (sym found ∙ c.in-Some.is))

under_it : (c : After-at) → link_name c.at.result.now.node ≡ Some c.args.name.now
under_it c =
    let own = c.self.inside in
    let found = searched own.nodes own.files own.names.entries own.names.mask c.args.name.now c.args.self.now c.hash_of-hash.result c.from.result c.chain_of-chain.result c.get.result
    c.self.view_is c.hash_of-hash.ensures c.from.ensures c.chain_of-chain.ensures
    (c.get.ensures.item
    ∙ c.first_where-at.ensures.found (λ (e : ℕ × ℕ). (e.1 == c.hash_of-hash.result) && has_name (get c.args.self.now.nodes e.0) c.args.name.now) (λ a r k. search rules)) in
    sym (ap name_in c.at.ensures) ∙ found_named own.nodes c.args.name.now _ (c.in-Some.number, c.in-Some.field-0-1) (sym found ∙ c.in-Some.is)

pub returns-in-Some-clause-named : goal.returns-in-Some-clause-named
returns-in-Some-clause-named c = (linked_so c.at.result.now.node c.args.name.now (under_it c)).1

pub returns-in-Some-clause-has_it : goal.returns-in-Some-clause-has_it
returns-in-Some-clause-has_it c = (linked_so c.at.result.now.node c.args.name.now (under_it c)).0

pub returns-in-Some-clause-listed : goal.returns-in-Some-clause-listed
returns-in-Some-clause-listed c =
    subst (λ (d : Listing). get d.nodes c.in-Some.number ≡ Some c.at.result.now.node) c.self.view_is
    (get_bare c.self.inside.nodes.values c.in-Some.number ∙ ap (option_map (λ (s : Slot). s.node)) c.at.ensures)

pub returns-in-Some-clause-linked : goal.returns-in-Some-clause-linked
returns-in-Some-clause-linked c =
    let own = c.self.inside in
    subst (λ d. Some (c.in-Some.number, c.at.result.now.node) ≡ linked d c.args.name.now) c.self.view_is
    (sym (is_linked own.nodes own.names.entries own.names.mask own.files c.args.name.now c.in-Some.number c.at.result.now c.self.invariant c.at.ensures
    (under_it c)))
