-- What the walks tell, as parts of a state.
use Rattle.std.proofs.Common.{◌≡◌, ℕ, List, [], ◌∷◌, ◌++◌, map, refl, ap, ◌∙◌}
use Rattle.std.specs.List.{flat_map}
use Rattle.fl_arena.specs.Chains.{Chains, Entry}
use Rattle.fl_core.specs.Restored.{a_node, a_file, a_lock, a_request}
use Rattle.fl_dir.specs.Arenas.{joined}
use Rattle.fl_dir.specs.declared.node.Node.{Node}
use Rattle.fl_dir.specs.declared.nodes.Slot.{Slot}
use Rattle.fl_marks.specs.declared.lock.Class.{Class}
use Rattle.fl_marks.specs.declared.lock.Class.TheVariants.{Record, Flock}
use Rattle.fl_marks.specs.declared.lock.Kind.{Kind}
use Rattle.fl_marks.specs.declared.lock.Kind.TheVariants.{Read, Write}
use Rattle.fl_marks.specs.declared.run.Run.{Run}
use Rattle.fl_state.specs.Inside.Saying.{all_items, node_part, file_part, wait_part, lock_part, is_flock, is_write}
use Rattle.fl_state.specs.Parts.{part_of, class_of, kind_of}
use Rattle.fl_waiting.specs.declared.claim.Claim.{Claim}

pub flat_joined : {X : Type 0} (cs : List (List (Entry (ℕ × X)))) → flat_map (λ es. map (λ (e : Entry (ℕ × X)). e.item) es) cs ≡ joined cs
flat_joined [] = refl
flat_joined (es ∷ cs) = ap (λ l. map (λ (e : Entry _). e.item) es ++ l) (flat_joined cs)

nodes_each : (es : List (ℕ × Slot)) → map part_of (map node_part es) ≡ map (λ (e : ℕ × Node). a_node e.0 e.1) (map (λ (e : ℕ × Slot). (e.0, e.1.node)) es)
nodes_each [] = refl
nodes_each (e ∷ es) = ap (λ l. a_node e.0 e.1.node ∷ l) (nodes_each es)

pub nodes_said : (a : Chains (ℕ × Slot)) → map part_of (map node_part (all_items a)) ≡ map (λ (e : ℕ × Node). a_node e.0 e.1) (map (λ (e : ℕ × Slot). (e.0, e.1.node)) (joined a.chains))
nodes_said a = ap (λ es. map part_of (map node_part es)) (flat_joined a.chains) ∙ nodes_each (joined a.chains)

files_each : (es : List (ℕ × ℕ)) → map part_of (map file_part es) ≡ map (λ (e : ℕ × ℕ). a_file e.0 e.1) es
files_each [] = refl
files_each (e ∷ es) = ap (λ l. a_file e.0 e.1 ∷ l) (files_each es)

pub files_said : (a : Chains (ℕ × ℕ)) → map part_of (map file_part (all_items a)) ≡ map (λ (e : ℕ × ℕ). a_file e.0 e.1) (joined a.chains)
files_said a = ap (λ es. map part_of (map file_part es)) (flat_joined a.chains) ∙ files_each (joined a.chains)

pub same_class : (c : Class) → class_of (is_flock c) ≡ c
same_class Record = refl
same_class Flock = refl

pub same_kind : (k : Kind) → kind_of (is_write k) ≡ k
same_kind Read = refl
same_kind Write = refl

lock_said : (r : Run) → part_of (lock_part r) ≡ a_lock r
lock_said r = λ i. a_lock (record {
  key = record { class = same_class r.key.class i; node = r.key.node; owner = r.key.owner };
  start = r.start;
  end = r.end;
  mark = record { kind = same_kind r.mark.kind i; pid = r.mark.pid };
})

pub locks_said : (rs : List Run) → map part_of (map lock_part rs) ≡ map a_lock rs
locks_said [] = refl
locks_said (r ∷ rs) = λ i. lock_said r i ∷ locks_said rs i

pub waits_said : (claims : List Claim) → map part_of (map wait_part claims) ≡ map a_request (map (λ (claim : Claim). claim.request) claims)
waits_said [] = refl
waits_said (claim ∷ claims) = ap (λ l. a_request claim.request ∷ l) (waits_said claims)
