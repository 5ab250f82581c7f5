-- Which orders a history asks.
use Rattle.std.specs.Prelude.{ℕ, ◌==◌, List, [], ◌∷◌, flat_map, if◌then◌else◌}
use Rattle.fl_history.specs.declared.history.Line.{Line}
use Rattle.fl_history.specs.declared.history.Line.TheVariants as line
use Rattle.fl_order.specs.declared.order.Order.{Order}

-- orders, one after another
abbrev pub Orders : Type 0
Orders = List Order

-- the order that a line asks, if it asks one
abbrev pub order_asked : Line → Orders
order_asked (line.Asked worker order) = order ∷ []
order_asked (line.Told told) = []
order_asked (line.State state) = []

-- the orders that the lines ask
abbrev pub asked : List Line → Orders
asked lines = flat_map order_asked lines

-- the order that a line asks for this worker, if it asks one
abbrev pub order_asked_by : ℕ → Line → Orders
order_asked_by worker (line.Asked asker order) = if asker == worker then order ∷ [] else []
order_asked_by worker (line.Told told) = []
order_asked_by worker (line.State state) = []

-- the orders that the lines ask for this worker
abbrev pub asked_by : ℕ → List Line → Orders
asked_by worker lines = flat_map (order_asked_by worker) lines
