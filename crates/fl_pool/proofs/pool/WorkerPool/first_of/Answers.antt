use Rattle.std.proofs.Common.{◌≡◌, ◌<◌, List, [], ◌∷◌, ◌++◌, arith, drop, get_or, length, sym, take}
use Rattle.fl_pool.proofs.pool.WorkerPool.first_of.Goals as goal

first_removed : {A : Type 0} (xs rest : List A) (x : A) → 0 < length xs → x ≡ get_or xs 0 x
    → rest ≡ take 0 xs ++ drop 1 xs → xs ≡ x ∷ rest
first_removed [] rest x some at is = absurd (omega arith)
first_removed (y ∷ ys) rest x some at is = λ i. sym at i ∷ sym is i

pub returns-then-self : goal.returns-then-self
returns-then-self g c = first_removed _ _ _ c.requires c.remove.ensures.value c.remove.ensures.by_index.2
