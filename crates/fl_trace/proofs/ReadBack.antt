-- A line is found again in its text: its words are what stands between spaces, and each field is read off its word.
use Rattle.std.proofs.Common.{◌≡◌, ℕ, ◌<◌, ◌^◌, ◌==◌, Bool, true, false, if◌then◌else◌, Option, None, Some, List, []}
use Rattle.std.proofs.Common.{◌∷◌, length, get_or, drop, codes}
use Rattle.std.proofs.Common.{Result, Ok, Err, refl, sym, ap, ◌∙◌, arith}
use Rattle.std.specs.Fmt.{decimal}
use Rattle.std.specs.List.{find}
use Rattle.std.specs.Option.{unwrap_or}
use Rattle.std.specs.Str.{IsUtf8, bytes_eq}
use Rattle.std.specs.Str.Iter.{LacksByte}
use Rattle.fl_history.specs.declared.history.Line.{Line}
use Rattle.fl_history.specs.declared.history.Line.TheVariants.{Asked, Told, State}
use Rattle.fl_order.specs.Errno.{number_of}
use Rattle.fl_order.specs.Body.{body_shape}
use Rattle.fl_order.specs.OpKind.{word_for, shape_for, kind_of_word}
use Rattle.fl_order.specs.Order.{kind_of, body_of, op_of}
use Rattle.fl_order.specs.Sayable.{FitsBody, FitsOp, FitsLock, FitsResult, FitsAttr, FitsState}
use Rattle.fl_order.specs.declared.body.Body.{Body}
use Rattle.fl_order.specs.declared.body.Body.TheVariants as body
use Rattle.fl_order.specs.declared.body.Shape.{Shape}
use Rattle.fl_order.specs.declared.body.Shape.TheVariants as shape
use Rattle.fl_order.specs.declared.refusal.Refusal.{Refusal}
use Rattle.fl_order.specs.declared.errno.Errno.{Errno}
use Rattle.fl_order.specs.declared.errno.Errno.TheVariants.{EPERM, ENOENT, EINTR, EBADF, EAGAIN, ENOMEM, EEXIST}
use Rattle.fl_order.specs.declared.errno.Errno.TheVariants.{ENOTDIR, EISDIR, EINVAL, ENFILE, EFBIG, ENOSPC, EDEADLK}
use Rattle.fl_order.specs.declared.errno.Errno.TheVariants.{ENAMETOOLONG, ENOLCK, ENOSYS, EPROTO, EOPNOTSUPP}
use Rattle.fl_order.specs.declared.kind.OpKind.{OpKind}
use Rattle.fl_order.specs.declared.order.LockAsk.{LockAsk}
use Rattle.fl_order.specs.declared.order.Op.{Op}
use Rattle.fl_order.specs.declared.order.Op.TheVariants.{Getlk}
use Rattle.fl_order.specs.declared.order.Order.{Order}
use Rattle.fl_order.specs.declared.state_part.StateLine.{StateLine}
use Rattle.fl_order.specs.declared.state_part.StateLine.TheVariants as state
use Rattle.fl_order.specs.declared.state_part.StatePart.TheVariants as part
use Rattle.fl_order.specs.declared.told.Answer.{Answer}
use Rattle.fl_order.specs.declared.told.Answer.TheVariants.{Done, Entry, Attr, Open, Made, Lock}
use Rattle.fl_order.specs.declared.told.Attr.{Attr as Attributes}
use Rattle.fl_trace.specs.Text.{line_text, LineFits}
use Rattle.fl_words.specs.ReadBack.{AreReadBack, words_of, number_of_word, name_of_word}
use Rattle.fl_words.specs.Words.{flag_text}
use Rattle.fl_trace.proofs.LineWords.{lock_ask_words, field_words, attr_words, result_words, state_words, line_words}
use Rattle.fl_trace.proofs.LineWords.{line_spaced, small}
use Rattle.fl_trace.proofs.LineWords.{number_small, line_are}

-- ---- the line of its words

abbrev pub word_at : List (List ℕ) → ℕ → List ℕ
word_at words k = get_or words k []

abbrev pub number_at : List (List ℕ) → ℕ → ℕ
number_at words k = number_of_word (word_at words k)

abbrev pub lock_ask_of : List (List ℕ) → LockAsk
lock_ask_of ws = record {
  fh = number_at ws 0;
  owner = number_at ws 1;
  start = number_at ws 2;
  end = number_at ws 3;
  kind = number_at ws 4;
  pid = number_at ws 5;
  flags = number_at ws 6;
}

abbrev pub body_of_words : Result Shape Refusal → List (List ℕ) → Body
body_of_words (Ok shape.Create) ws = body.Create (bytes_eq (word_at ws 0) (codes "1")) (number_at ws 1) (name_of_word (word_at ws 2))
body_of_words (Ok shape.Make) ws = body.Make (number_at ws 0) (name_of_word (word_at ws 1))
body_of_words (Ok shape.Name) ws = body.Name (name_of_word (word_at ws 0))
body_of_words (Ok shape.Number) ws = body.Number (number_at ws 0)
body_of_words (Ok shape.Flush) ws = body.Flush (number_at ws 0) (number_at ws 1)
body_of_words (Ok shape.Release) ws = body.Release (number_at ws 0) (bytes_eq (word_at ws 1) (codes "1")) (number_at ws 2)
body_of_words (Ok shape.Getattr) ws = body.Getattr
body_of_words (Ok shape.Open) ws = body.Open
body_of_words _ ws = body.Lock (lock_ask_of ws)

abbrev pub op_of_words : Option OpKind → List (List ℕ) → Option Op
op_of_words None ws = None
op_of_words (Some k) ws = op_of k (body_of_words (shape_for k) ws)

abbrev pub attr_of : List (List ℕ) → Attributes
attr_of ws = record { node = number_at ws 1; mode = number_at ws 2; nlink = number_at ws 3; uid = number_at ws 4; gid = number_at ws 5 }

-- each error once
abbrev pub all_errors : List Errno
all_errors =
    EPERM ∷ ENOENT ∷ EINTR ∷ EBADF ∷ EAGAIN ∷ ENOMEM ∷ EEXIST ∷ ENOTDIR ∷ EISDIR ∷ EINVAL ∷ ENFILE ∷ EFBIG ∷ ENOSPC ∷ EDEADLK ∷ ENAMETOOLONG ∷ ENOLCK ∷ ENOSYS ∷ EPROTO ∷ EOPNOTSUPP ∷ []

abbrev pub error_of : ℕ → Errno
error_of number = unwrap_or (find (λ e. number_of e == number) all_errors) ENOENT

abbrev pub result_of : List (List ℕ) → Result Answer Errno
result_of ws =
    let is : List ℕ → Bool = bytes_eq (word_at ws 0) in
    if is (codes "ok") then Ok Done
    else if is (codes "entry") then Ok (Entry (attr_of ws))
    else if is (codes "attr") then Ok (Attr (attr_of ws))
    else if is (codes "open") then Ok (Open (number_at ws 1))
    else if is (codes "made") then Ok (Made (attr_of ws) (number_at ws 6))
    else if is (codes "lock") then Ok (Lock (number_at ws 1) (number_at ws 2) (number_at ws 3) (number_at ws 4))
    else Err (error_of (number_at ws 1))

abbrev pub order_of : List (List ℕ) → Order
order_of ws = record {
  unique = number_at ws 2;
  node = number_at ws 3;
  uid = number_at ws 4;
  gid = number_at ws 5;
  pid = number_at ws 6;
  op = unwrap_or (op_of_words (kind_of_word (word_at ws 7)) (drop 8 ws)) (Getlk (lock_ask_of ws));
}

abbrev pub flag_at : List (List ℕ) → ℕ → Bool
flag_at ws k = bytes_eq (word_at ws k) (codes "1")

abbrev pub state_of : List (List ℕ) → StateLine
state_of ws =
    let is : List ℕ → Bool = bytes_eq (word_at ws 0) in
    if is (codes "state") then state.Head (record {
      lines = number_at ws 1;
      fair = flag_at ws 2;
      runs = number_at ws 3;
      parked = number_at ws 4;
      files = number_at ws 5;
      open_files = number_at ws 6;
      node = number_at ws 7;
      fh = number_at ws 8;
    })
    else if is (codes "node") then state.Part (part.Node (number_at ws 1) (number_at ws 2) (flag_at ws 3) (number_at ws 4) (number_at ws 5)
    (number_at ws 6) (name_of_word (word_at ws 7)))
    else if is (codes "file") then state.Part (part.File (number_at ws 1) (number_at ws 2))
    else if is (codes "lock") then state.Part (part.Lock (number_at ws 1) (number_at ws 2) (number_at ws 3) (number_at ws 4) (flag_at ws 5)
    (number_at ws 6) (flag_at ws 7))
    else if is (codes "wait") then state.Part (part.Wait (number_at ws 1) (number_at ws 2) (lock_ask_of (drop 3 ws)))
    else state.Go

abbrev pub line_of_words : List (List ℕ) → Line
line_of_words ws =
    if bytes_eq (word_at ws 0) (codes "ask") then Asked (number_at ws 1) (order_of ws)
    else if bytes_eq (word_at ws 0) (codes "tell") then Told (record { unique = number_at ws 1; result = result_of (drop 2 ws) })
    else State (state_of ws)

-- the line that a text is of
abbrev pub line_in : List ℕ → Line
line_in text = line_of_words (words_of text)

flag_back : (flag : Bool) → bytes_eq (flag_text flag) (codes "1") ≡ flag
flag_back true = refl
flag_back false = refl

kind_found : (k : OpKind) → kind_of_word (word_for k) ≡ Some k
kind_found k = grind arith

-- an order's kind has the shape of its body
pub shape_made : (op : Op) → shape_for (kind_of op) ≡ Ok (body_shape (body_of op))
shape_made op = grind arith

op_made : (op : Op) → op_of (kind_of op) (body_of op) ≡ Some op
op_made op = grind arith

-- each error is found by its number
pub error_is_found : (e : Errno) → find (λ one. number_of one == number_of e) all_errors ≡ Some e
error_is_found e = grind arith

error_back : (e : Errno) → error_of (number_of e) ≡ e
error_back e = ap (λ found. unwrap_or found ENOENT) (error_is_found e)

line_some : (line : Line) → 0 < length (line_words line)
line_some (Asked worker o) = omega arith
line_some (Told told) = omega arith
line_some (State (state.Head h)) = omega arith
line_some (State (state.Part (part.Node number lookups linked mode uid gid name))) = omega arith
line_some (State (state.Part (part.File fh node))) = omega arith
line_some (State (state.Part (part.Lock node owner start end write pid flock))) = omega arith
line_some (State (state.Part (part.Wait unique node ask))) = omega arith
line_some (State state.Go) = omega arith

-- no line of a head begins as another line does
state_line : (line : StateLine) → line_of_words (state_words line) ≡ State (state_of (state_words line))
state_line (state.Head h) = refl
state_line (state.Part (part.Node number lookups linked mode uid gid name)) = refl
state_line (state.Part (part.File fh node)) = refl
state_line (state.Part (part.Lock node owner start end write pid flock)) = refl
state_line (state.Part (part.Wait unique node ask)) = refl
state_line state.Go = refl

module _ (w : AreReadBack) where
  value32 : (n : ℕ) → n < 2 ^ 32 → number_of_word (decimal n) ≡ n
  value32 n below = w.number n (small n below)

  lock_ask_back : (a : LockAsk) → FitsLock a → lock_ask_of (lock_ask_words a) ≡ a
  lock_ask_back a f = λ i. record {
    fh = w.number a.fh f.fh i;
    owner = w.number a.owner f.owner i;
    start = w.number a.start f.start i;
    end = w.number a.end f.end i;
    kind = value32 a.kind f.kind i;
    pid = value32 a.pid f.pid i;
    flags = value32 a.flags f.flags i;
  }

  body_back : (b : Body) → FitsBody b → body_of_words (Ok (body_shape b)) (field_words b) ≡ b
  body_back (body.Lock ask) f = λ i. body.Lock (lock_ask_back ask f i)
  body_back (body.Create excl mode name) f = let few = f.0 in λ i. body.Create (flag_back excl i) (w.number mode (omega arith) i) (w.name name f.1 i)
  body_back (body.Make mode name) f = λ i. body.Make (value32 mode f.0 i) (w.name name f.1 i)
  body_back (body.Name name) f = λ i. body.Name (w.name name f i)
  body_back (body.Number n) f = λ i. body.Number (w.number n f i)
  body_back (body.Flush fh owner) f = λ i. body.Flush (w.number fh f.0 i) (w.number owner f.1 i)
  body_back (body.Release fh unlocks owner) f = λ i. body.Release (w.number fh f.0 i) (flag_back unlocks i) (w.number owner f.1 i)
  body_back body.Getattr f = refl
  body_back body.Open f = refl

  op_back : (op : Op) → FitsOp op → op_of_words (kind_of_word (word_for (kind_of op))) (field_words (body_of op)) ≡ Some op
  op_back op f =
      ap (λ found. op_of_words found (field_words (body_of op))) (kind_found (kind_of op))
      ∙ ap (λ s. op_of (kind_of op) (body_of_words s (field_words (body_of op)))) (shape_made op)
      ∙ ap (op_of (kind_of op)) (body_back (body_of op) f)
      ∙ op_made op

  attr_back : (word : List ℕ) (a : Attributes) (more : List (List ℕ)) → FitsAttr a → attr_of (word ∷ attr_words a more) ≡ a
  attr_back word a more f = λ i. record {
    node = w.number a.node f.node i;
    mode = value32 a.mode f.mode i;
    nlink = value32 a.nlink f.nlink i;
    uid = value32 a.uid f.uid i;
    gid = value32 a.gid f.gid i;
  }

  result_back : (told : Result Answer Errno) → FitsResult told → result_of (result_words told) ≡ told
  result_back (Ok Done) f = refl
  result_back (Ok (Entry a)) f = λ i. Ok (Entry (attr_back (codes "entry") a [] f i))
  result_back (Ok (Attr a)) f = λ i. Ok (Attr (attr_back (codes "attr") a [] f i))
  result_back (Ok (Open fh)) f = λ i. Ok (Open (w.number fh f i))
  result_back (Ok (Made a fh)) f = λ i. Ok (Made (attr_back (codes "made") a (decimal fh ∷ []) f.0 i) (w.number fh f.1 i))
  result_back (Ok (Lock start end kind pid)) f = λ i. Ok (Lock (w.number start f.0 i) (w.number end f.1 i) (value32 kind f.2 i) (value32 pid f.3 i))
  result_back (Err error) f = ap (λ n. Err (error_of n)) (value32 (number_of error) (number_small error)) ∙ ap (λ e. Err e) (error_back error)

  state_back : (line : StateLine) → FitsState line → state_of (state_words line) ≡ line
  state_back (state.Head h) f = λ i. state.Head (record {
    lines = w.number h.lines f.lines i;
    fair = flag_back h.fair i;
    runs = value32 h.runs f.runs i;
    parked = value32 h.parked f.parked i;
    files = value32 h.files f.files i;
    open_files = value32 h.open_files f.open_files i;
    node = w.number h.node f.node i;
    fh = w.number h.fh f.fh i;
  })
  state_back (state.Part (part.Node number lookups linked mode uid gid name)) f = λ i.
      state.Part (part.Node (w.number number f.0 i) (w.number lookups f.1 i) (flag_back linked i) (value32 mode f.2 i) (value32 uid f.3 i)
      (value32 gid f.4 i) (w.name name f.5 i))
  state_back (state.Part (part.File fh node)) f = λ i. state.Part (part.File (w.number fh f.0 i) (w.number node f.1 i))
  state_back (state.Part (part.Lock node owner start end write pid flock)) f = λ i.
      state.Part (part.Lock (w.number node f.0 i) (w.number owner f.1 i) (w.number start f.2 i) (w.number end f.3 i) (flag_back write i)
      (value32 pid f.4 i) (flag_back flock i))
  state_back (state.Part (part.Wait unique node ask)) f = λ i.
      state.Part (part.Wait (w.number unique f.0 i) (w.number node f.1 i) (lock_ask_back ask f.2 i))
  state_back state.Go f = refl

  line_back : (line : Line) → LineFits line → line_of_words (line_words line) ≡ line
  line_back (Asked worker o) f =
      let few = f.0 in
      let s = f.1 in
      λ i. Asked (w.number worker (omega arith) i) (record {
        unique = w.number o.unique s.unique i;
        node = w.number o.node s.node i;
        uid = value32 o.uid s.uid i;
        gid = value32 o.gid s.gid i;
        pid = value32 o.pid s.pid i;
        op = unwrap_or (op_back o.op s.op i) (Getlk (lock_ask_of (line_words (Asked worker o))));
      })
  line_back (Told told) f = λ i. Told (record { unique = w.number told.unique f.unique i; result = result_back told.result f.result i })
  line_back (State line) f = state_line line ∙ ap State (state_back line f)

  -- ---- the line of a text

  pub line_found : (line : Line) → LineFits line → line_in (line_text line) ≡ line
  line_found line fits =
      ap line_in (sym (line_spaced line)) ∙ ap line_of_words (w.words (line_words line) (line_some line) (line_are w line fits)) ∙ line_back line fits

  -- two lines never have one text
  pub line_alone : (line other : Line) → LineFits line → LineFits other → line_text line ≡ line_text other → line ≡ other
  line_alone line other fits also e = sym (line_found line fits) ∙ ap line_in e ∙ line_found other also

  -- a line's text has no newline, and is UTF-8
  pub line_lacks : (line : Line) → LineFits line → LacksByte 10 (line_text line)
  line_lacks line fits = rw (← line_spaced line) (w.text_lacks_newline (line_words line) (line_are w line fits))

  pub line_utf8 : (line : Line) → LineFits line → IsUtf8 (line_text line)
  line_utf8 line fits = rw (← line_spaced line) (w.text_is_utf8 (line_words line) (line_are w line fits))
