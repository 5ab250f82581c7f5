-- Which heads are used, and what their chains hold.
use Rattle.std.specs.Prelude.{◌≡◌, ◌≢◌, ℕ, ◌+◌, ◌≤◌, ◌<◌, ◌==◌, [], length, sum_by, if◌then◌else◌}
use Rattle.std.specs.List.{AllByRecursion}
use Rattle.fl_arena.specs.Chains.{Entry, Chains, entries, item_count}
use Rattle.fl_spans.specs.declared.rows.Head.{Head}

module _ {K : Type 0} where
  -- what heads weigh together
  abbrev pub weight : (Entry (Head K) → ℕ) → Chains (Head K) → ℕ
  weight w heads = sum_by (λ es. sum_by w es) heads.chains

  -- one for a head with this number, and else nothing
  abbrev pub has_number : ℕ → Entry (Head K) → ℕ
  has_number m e = if e.item.runs == m then 1 else 0

module _ {K R : Type 0} where
  -- how many runs a head has
  abbrev pub runs_of : Chains R → Entry (Head K) → ℕ
  runs_of runs e = length (entries runs e.item.runs)

  -- there are as many heads as slots for runs and chains of runs; each of these chains has one head that names it, no
  -- head names another; no run stands elsewhere than on such a chain
  pub record AreKept (heads : Chains (Head K)) (runs : Chains R) (unused : ℕ) : Type 0 where
    pub chains : length heads.chains ≡ unused + 1
    pub few_chains : unused < 65536
    pub count : item_count heads ≡ runs.slots
    pub slots : heads.slots ≡ runs.slots
    pub numbers : length runs.chains ≡ runs.slots
    pub small : runs.slots ≤ 65536
    pub once : (m : ℕ) → m < runs.slots → weight (has_number m) heads ≡ 1
    pub named : (c : ℕ) → AllByRecursion (λ e. e.item.runs < runs.slots) (entries heads c)
    pub all : weight (runs_of runs) heads ≡ item_count runs

  -- the same, and a head on the last chain has no runs, any other has one
  pub record AreRows (heads : Chains (Head K)) (runs : Chains R) (unused : ℕ) : Type 0 where
    pub kept : AreKept heads runs unused
    pub used : (c : ℕ) → c < unused → AllByRecursion (λ e. entries runs e.item.runs ≢ []) (entries heads c)
    pub spare : AllByRecursion (λ e. entries runs e.item.runs ≡ []) (entries heads unused)
