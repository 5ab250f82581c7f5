-- The text of a history: a line of text for each of its lines, and which histories can be read back.
use Rattle.std.specs.Prelude.{◌≡◌, ℕ, ◌+◌, ◌≤◌, ◌<◌, List, [], ◌∷◌, ◌++◌, length, All, codes}
use Rattle.std.specs.Prelude.{Option, Some, None, Result, Ok, Err}
use Rattle.std.specs.List.{flat_map}
use Rattle.std.specs.Fmt.{decimal}
use Rattle.fl_history.specs.declared.history.Line.{Line}
use Rattle.fl_history.specs.declared.history.Line.TheVariants as line
use Rattle.fl_order.specs.Errno.{number_of}
use Rattle.fl_order.specs.OpKind.{word_for}
use Rattle.fl_order.specs.Order.{kind_of, body_of}
use Rattle.fl_order.specs.Sayable.{IsSayable, FitsTold, FitsState}
use Rattle.fl_order.specs.declared.body.Body.{Body}
use Rattle.fl_order.specs.declared.body.Body.TheVariants as body
use Rattle.fl_order.specs.declared.errno.Errno.{Errno}
use Rattle.fl_order.specs.declared.order.Op.{Op}
use Rattle.fl_order.specs.declared.order.Order.{Order}
use Rattle.fl_order.specs.declared.told.Answer.{Answer}
use Rattle.fl_order.specs.declared.told.Answer.TheVariants.{Done, Entry, Attr, Open, Made, Lock}
use Rattle.fl_order.specs.declared.told.Attr.{Attr as Attributes}
use Rattle.fl_order.specs.declared.told.Told.{Told}
use Rattle.fl_words.specs.State.{lock_ask_text, state_text}
use Rattle.fl_words.specs.Words.{spaced, flag_text, name_text, behind}

-- the fields of a body, if it has any
abbrev pub fields_text : Body → Option (List ℕ)
fields_text (body.Lock ask) = Some (lock_ask_text ask)
fields_text (body.Create excl mode name) = Some (spaced (flag_text excl ∷ decimal mode ∷ name_text name ∷ []))
fields_text (body.Make mode name) = Some (spaced (decimal mode ∷ name_text name ∷ []))
fields_text (body.Name name) = Some (name_text name)
fields_text (body.Number n) = Some (decimal n)
fields_text (body.Flush fh owner) = Some (spaced (decimal fh ∷ decimal owner ∷ []))
fields_text (body.Release fh unlocks owner) = Some (spaced (decimal fh ∷ flag_text unlocks ∷ decimal owner ∷ []))
fields_text body.Getattr = None
fields_text body.Open = None

-- what is asked: the word of its kind, and the fields of its body
abbrev pub op_text : Op → List ℕ
op_text op = word_for (kind_of op) ++ behind (fields_text (body_of op))

-- an order
abbrev pub order_text : Order → List ℕ
order_text o =
    spaced (decimal o.unique ∷ decimal o.node ∷ decimal o.uid ∷ decimal o.gid ∷ decimal o.pid ∷ op_text o.op ∷ [])

-- a worker, and the order that it handed in
abbrev pub asked_text : ℕ → Order → List ℕ
asked_text worker order = spaced (decimal worker ∷ order_text order ∷ [])

-- a node's attributes
abbrev pub attr_text : Attributes → List ℕ
attr_text a = spaced (decimal a.node ∷ decimal a.mode ∷ decimal a.nlink ∷ decimal a.uid ∷ decimal a.gid ∷ [])

-- a node's attributes and the number of an open file
abbrev pub made_text : Attributes → ℕ → List ℕ
made_text a fh =
    spaced (decimal a.node ∷ decimal a.mode ∷ decimal a.nlink ∷ decimal a.uid ∷ decimal a.gid ∷ decimal fh ∷ [])

-- a lock record
abbrev pub lock_text : ℕ → ℕ → ℕ → ℕ → List ℕ
lock_text start end kind pid = spaced (decimal start ∷ decimal end ∷ decimal kind ∷ decimal pid ∷ [])

-- an answer that is no error
abbrev pub answer_text : Answer → List ℕ
answer_text Done = codes "ok"
answer_text (Entry a) = spaced (codes "entry" ∷ attr_text a ∷ [])
answer_text (Attr a) = spaced (codes "attr" ∷ attr_text a ∷ [])
answer_text (Open fh) = spaced (codes "open" ∷ decimal fh ∷ [])
answer_text (Made a fh) = spaced (codes "made" ∷ made_text a fh ∷ [])
answer_text (Lock start end kind pid) = spaced (codes "lock" ∷ lock_text start end kind pid ∷ [])

-- an answer, or the number of an error
abbrev pub result_text : Result Answer Errno → List ℕ
result_text (Ok answer) = answer_text answer
result_text (Err error) = spaced (codes "err" ∷ decimal (number_of error) ∷ [])

-- a reply
abbrev pub told_text : Told → List ℕ
told_text t = spaced (decimal t.unique ∷ result_text t.result ∷ [])

-- a line of a history, without the newline at its end
abbrev pub line_text : Line → List ℕ
line_text (line.Asked worker order) = spaced (codes "ask" ∷ asked_text worker order ∷ [])
line_text (line.Told told) = spaced (codes "tell" ∷ told_text told ∷ [])
line_text (line.State state) = state_text state

-- the whole text: each line with a newline at its end
abbrev pub text_of : List Line → List ℕ
text_of lines = flat_map (λ line. line_text line ++ 10 ∷ []) lines

-- a line that can be read back: its worker is one of sixteen, and what it says can be said
abbrev pub LineFits : Line → Type 0
LineFits (line.Asked worker order) = (worker ≤ 15) × IsSayable order
LineFits (line.Told told) = FitsTold told
LineFits (line.State state) = FitsState state

-- a history whose text can be read back
abbrev pub Fits : List Line → Type 0
Fits lines = All LineFits lines

-- The first n - 1 lines of a text are lines of a sort. Something is left after them, and no line of the sort begins it.
pub record BreaksAt (IsGood : Line → Type 0) (text : List ℕ) (n : ℕ) : Type 0 where
  pub front : List Line
  pub rest : List ℕ
  pub good : All IsGood front
  pub parts : text ≡ text_of front ++ rest
  pub number : n ≡ length front + 1
  pub more : 0 < length rest
  pub bad : (line : Line) (after : List ℕ) → IsGood line → rest ≡ line_text line ++ 10 ∷ after → ⊥
