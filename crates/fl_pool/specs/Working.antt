-- What the workers of a session did together.
use Rattle.std.specs.Prelude.{◌≡◌, ℕ, Bool, false, List, [], ◌∷◌, ◌||◌, All, map, sum_by}
use Rattle.atomic_table.specs.Seated.{TableId}
use Rattle.fl_counter.specs.Answered.{Answered}
use Rattle.fl_counter.specs.Asked.{Orders}
use Rattle.fl_history.specs.declared.history.Line.{Line}
use Rattle.fl_intake.specs.Ends.{TakeSide}
use Rattle.fl_intake.specs.Often.{Weight}
use Rattle.fl_log.specs.Appended.{Appended, unused}
use Rattle.fl_workers.specs.Worked.{HasDone, HasWorked, Shows, Standing, standing}
use Rattle.fl_workers.specs.declared.entry.ReplyEntry.{ReplyEntry}

-- one of these is so
abbrev pub some_is : List Bool → Bool
some_is [] = false
some_is (b ∷ bs) = b || some_is bs

-- the end is this intake's, and took nothing
abbrev pub IsFresh : TableId → TakeSide → Type 0
IsFresh of end = (end.of ≡ of) × (end.taken ≡ [])

-- what a counter says of its seats
pub record Reading (S : Type 0) : Type 0 where
  pub worker : S → ℕ
  pub count : S → ℕ
  pub answered : S → List Answered
  pub front : S → List Line
  pub stored : S → List Line

-- the same by its members
abbrev pub reading : {S : Type 0} → (S → ℕ) → (S → ℕ) → (S → List Answered) → (S → List Line) → (S → List Line) → Reading S
reading worker count answered front stored =
    record { worker = worker; count = count; answered = answered; front = front; stored = stored }

-- where a worker stands, by its seat and what it gave to be sent
abbrev pub standing_at : {S : Type 0} → Reading S → S → Appended ReplyEntry → Standing
standing_at r seat sent = standing r.worker r.count r.answered r.front r.stored seat sent

-- a worker that has done nothing, and gives its replies in its own name
abbrev pub idle : ℕ → Standing
idle worker =
    record {
      worker = worker;
      count = 0;
      answered = [];
      front = [];
      stored = [];
      sent = unused worker;
    }

-- nothing was done at this seat
abbrev pub IsIdle : {S : Type 0} → Reading S → S → Appended ReplyEntry → Type 0
IsIdle r seat sent = standing_at r seat sent ≡ idle (r.worker seat)

-- The seat of this worker came back, and its end of the same intake. What the end took since was worked on there.
pub record HasComeBack {S : Type 0} (r : Reading S) (shows : Shows) (worker : ℕ) (end : TakeSide) (seat : S)
    (sent : Appended ReplyEntry) (end_now : TakeSide) (any lost : Bool) : Type 0 where
  pub whose : r.worker seat ≡ worker
  pub same : end_now.of ≡ end.of
  pub did : HasDone shows end.taken end_now.taken (idle worker) (standing_at r seat sent) any lost

-- a worker's seat and what it gave to be sent, the orders that it worked on, and whether some of these were refused,
-- or what is owed for some was lost
pub record Work (S : Type 0) : Type 0 where
  pub seat : S
  pub sent : Appended ReplyEntry
  pub orders : Orders
  pub any : Bool
  pub lost : Bool

-- it worked on these orders, from the start
abbrev pub IsDone : {S : Type 0} → Reading S → Shows → Work S → Type 0
IsDone r shows work =
    HasWorked shows work.orders (idle (r.worker work.seat)) (standing_at r work.seat work.sent) work.any work.lost

-- What weighs this was, each order as often, worked on at these seats, whose workers gave this to be sent. `any` is
-- true exactly if some order was refused, and `lost` if what is owed for some was lost.
pub record HaveDone {S : Type 0} (r : Reading S) (shows : Shows) (orders : Weight → ℕ) (seats : List S)
    (sent : List (Appended ReplyEntry)) (any lost : Bool) : Type 0 where
  pub works : List (Work S)
  pub at : map (λ work. work.seat) works ≡ seats
  pub gave : map (λ work. work.sent) works ≡ sent
  pub each : All (IsDone r shows) works
  pub weighs : (weight : Weight) → orders weight ≡ sum_by (λ work. sum_by weight work.orders) works
  pub refused : any ≡ some_is (map (λ work. work.any) works)
  pub missing : lost ≡ some_is (map (λ work. work.lost) works)
