-- How long the text of a line can be.
use Rattle.std.proofs.Common.{ℕ, ◌+◌, ◌<◌, ◌≤◌, ◌^◌, Bool, true, false, List, [], ◌∷◌, length, codes, Result, Ok, Err}
use Rattle.std.proofs.Common.{ap, arith, length-append}
use Rattle.std.proofs.lemmas.Fmt.{length-decimal-le}
use Rattle.std.specs.Fmt.{decimal}
use Rattle.fl_history.specs.declared.history.Line.{Line}
use Rattle.fl_history.specs.declared.history.Line.TheVariants.{Asked, Told, State}
use Rattle.fl_order.specs.Errno.{number_of}
use Rattle.fl_order.specs.OpKind.{word_for}
use Rattle.fl_order.specs.Order.{kind_of, body_of}
use Rattle.fl_order.specs.Sayable.{FitsBody, FitsLock, FitsResult, FitsAttr, FitsState}
use Rattle.fl_order.specs.declared.body.Body.{Body}
use Rattle.fl_order.specs.declared.body.Body.TheVariants as body
use Rattle.fl_order.specs.declared.errno.Errno.{Errno}
use Rattle.fl_order.specs.declared.kind.OpKind.{OpKind}
use Rattle.fl_order.specs.declared.order.LockAsk.{LockAsk}
use Rattle.fl_order.specs.declared.state_part.StateLine.{StateLine}
use Rattle.fl_order.specs.declared.state_part.StateLine.TheVariants as state
use Rattle.fl_order.specs.declared.state_part.StatePart.TheVariants as part
use Rattle.fl_order.specs.declared.told.Answer.{Answer}
use Rattle.fl_order.specs.declared.told.Answer.TheVariants.{Done, Entry, Attr, Open, Made, Lock}
use Rattle.fl_order.specs.declared.told.Attr.{Attr as Attributes}
use Rattle.fl_trace.specs.Text.{line_text, LineFits}
use Rattle.fl_words.specs.ReadBack.{AreReadBack}
use Rattle.fl_words.specs.Words.{spaced, flag_text, name_text}
use Rattle.fl_trace.proofs.LineWords.{lock_ask_words, field_words, attr_words, result_words, state_words, line_words, line_spaced}
use Rattle.fl_trace.proofs.LineWords.{small, number_small}

-- a word in front of others
word : (w : List ℕ) (ws : List (List ℕ)) (a m : ℕ) → length w ≤ a → length (spaced ws) ≤ m → length (spaced (w ∷ ws)) ≤ a + 1 + m
word w [] a m long rest = omega arith
word w (v ∷ ws) a m long rest = omega (arith, length-append w (32 ∷ spaced (v ∷ ws)))

number : (n : ℕ) (ws : List (List ℕ)) (m : ℕ) → n < 2 ^ 64 → length (spaced ws) ≤ m → length (spaced (decimal n ∷ ws)) ≤ 21 + m
number n ws m below rest =
    let digits : length (decimal n) ≤ 20 = length-decimal-le 20 n (omega arith) (omega arith) below in
    let more : length (spaced (decimal n ∷ ws)) ≤ 20 + 1 + m = word (decimal n) ws 20 m digits rest in
    omega (arith, more)

u32_number : (n : ℕ) (ws : List (List ℕ)) (m : ℕ) → n < 2 ^ 32 → length (spaced ws) ≤ m → length (spaced (decimal n ∷ ws)) ≤ 21 + m
u32_number n ws m below rest = number n ws m (small n below) rest

nothing : length (spaced []) ≤ 0
nothing = omega arith

flag_short : (flag : Bool) → length (flag_text flag) ≤ 1
flag_short true = omega arith
flag_short false = omega arith

kind_short : (k : OpKind) → length (word_for k) ≤ 12
kind_short k = grind arith

lock_ask_short : (a : LockAsk) → FitsLock a → length (spaced (lock_ask_words a)) ≤ 147
lock_ask_short a f =
    let w1 : List (List ℕ) = decimal a.flags ∷ [] in
    let w2 : List (List ℕ) = decimal a.pid ∷ w1 in
    let w3 : List (List ℕ) = decimal a.kind ∷ w2 in
    let w4 : List (List ℕ) = decimal a.end ∷ w3 in
    let w5 : List (List ℕ) = decimal a.start ∷ w4 in
    let w6 : List (List ℕ) = decimal a.owner ∷ w5 in
    number a.fh w6 126 f.fh (number a.owner w5 105 f.owner (number a.start w4 84 f.start (number a.end w3 63 f.end
    (u32_number a.kind w2 42 f.kind (u32_number a.pid w1 21 f.pid (u32_number a.flags [] 0 f.flags nothing))))))

attr_short : (a : Attributes) (more : List (List ℕ)) (m : ℕ) → FitsAttr a → length (spaced more) ≤ m → length (spaced (attr_words a more)) ≤ 105 + m
attr_short a more m f rest =
    let w1 : List (List ℕ) = decimal a.gid ∷ more in
    let w2 : List (List ℕ) = decimal a.uid ∷ w1 in
    let w3 : List (List ℕ) = decimal a.nlink ∷ w2 in
    let w4 : List (List ℕ) = decimal a.mode ∷ w3 in
    let e1 : length (spaced w1) ≤ 21 + m = u32_number a.gid more m f.gid rest in
    let e2 : length (spaced w2) ≤ 21 + (21 + m) = u32_number a.uid w1 (21 + m) f.uid e1 in
    let e3 : length (spaced w3) ≤ 21 + (21 + (21 + m)) = u32_number a.nlink w2 (21 + (21 + m)) f.nlink e2 in
    let e4 : length (spaced w4) ≤ 21 + (21 + (21 + (21 + m))) = u32_number a.mode w3 (21 + (21 + (21 + m))) f.mode e3 in
    let e5 : length (spaced (decimal a.node ∷ w4)) ≤ 21 + (21 + (21 + (21 + (21 + m)))) = number a.node w4 (21 + (21 + (21 + (21 + m)))) f.node e4 in
    omega (arith, e5)

result_short : (told : Result Answer Errno) → FitsResult told → length (spaced (result_words told)) ≤ 200
result_short (Ok Done) f = omega arith
result_short (Ok (Entry a)) f = let e = word (codes "entry") (attr_words a []) 5 105 (omega arith) (attr_short a [] 0 f nothing) in omega (arith, e)
result_short (Ok (Attr a)) f = let e = word (codes "attr") (attr_words a []) 4 105 (omega arith) (attr_short a [] 0 f nothing) in omega (arith, e)
result_short (Ok (Open fh)) f = let e = word (codes "open") (decimal fh ∷ []) 4 21 (omega arith) (number fh [] 0 f nothing) in omega (arith, e)
result_short (Ok (Made a fh)) f =
    let e = word (codes "made") (attr_words a (decimal fh ∷ [])) 4 126 (omega arith) (attr_short a (decimal fh ∷ []) 21 f.0 (number fh [] 0 f.1 nothing)) in
    omega (arith, e)
result_short (Ok (Lock start end kind pid)) f =
    let w1 : List (List ℕ) = decimal pid ∷ [] in
    let w2 : List (List ℕ) = decimal kind ∷ w1 in
    let w3 : List (List ℕ) = decimal end ∷ w2 in
    let e = word (codes "lock") (decimal start ∷ w3) 4 84 (omega arith)
    (number start w3 63 f.0 (number end w2 42 f.1 (u32_number kind w1 21 f.2 (u32_number pid [] 0 f.3 nothing)))) in
    omega (arith, e)
result_short (Err error) f =
    let e = word (codes "err") (decimal (number_of error) ∷ []) 3 21 (omega arith) (u32_number (number_of error) [] 0 (number_small error) nothing) in
    omega (arith, e)

module _ (w : AreReadBack) where
  fields_short : (b : Body) → FitsBody b → length (spaced (field_words b)) ≤ 540
  fields_short (body.Lock ask) f = let e = lock_ask_short ask f in omega (arith, e)
  fields_short (body.Create excl mode name) f =
      let few = f.0 in
      let last : length (spaced (name_text name ∷ [])) ≤ 511 = word (name_text name) [] 510 0 (w.name_is_short name f.1) nothing in
      let more : length (spaced (decimal mode ∷ name_text name ∷ [])) ≤ 21 + 511 = number mode (name_text name ∷ []) 511 (omega arith) last in
      let e : length (spaced (flag_text excl ∷ decimal mode ∷ name_text name ∷ [])) ≤ 1 + 1 + 532 =
      word (flag_text excl) (decimal mode ∷ name_text name ∷ []) 1 532 (flag_short excl) more in
      omega (arith, e)
  fields_short (body.Make mode name) f =
      let last : length (spaced (name_text name ∷ [])) ≤ 511 = word (name_text name) [] 510 0 (w.name_is_short name f.1) nothing in
      let e : length (spaced (decimal mode ∷ name_text name ∷ [])) ≤ 21 + 511 = u32_number mode (name_text name ∷ []) 511 f.0 last in
      omega (arith, e)
  fields_short (body.Name name) f =
      let e : length (spaced (name_text name ∷ [])) ≤ 510 + 1 + 0 = word (name_text name) [] 510 0 (w.name_is_short name f) nothing in omega (arith, e)
  fields_short (body.Number n) f = let e = number n [] 0 f nothing in omega (arith, e)
  fields_short (body.Flush fh owner) f = let e = number fh (decimal owner ∷ []) 21 f.0 (number owner [] 0 f.1 nothing) in omega (arith, e)
  fields_short (body.Release fh unlocks owner) f =
      let e = number fh (flag_text unlocks ∷ decimal owner ∷ []) 23 f.0 (word (flag_text unlocks) (decimal owner ∷ []) 1 21 (flag_short unlocks) (number owner [] 0 f.1 nothing)) in
      omega (arith, e)
  fields_short body.Getattr f = omega arith
  fields_short body.Open f = omega arith

  state_short : (line : StateLine) → FitsState line → length (spaced (state_words line)) ≤ 690
  state_short (state.Head h) f =
      let w1 : List (List ℕ) = decimal h.fh ∷ [] in
      let w2 : List (List ℕ) = decimal h.node ∷ w1 in
      let w3 : List (List ℕ) = decimal h.open_files ∷ w2 in
      let w4 : List (List ℕ) = decimal h.files ∷ w3 in
      let w5 : List (List ℕ) = decimal h.parked ∷ w4 in
      let w6 : List (List ℕ) = decimal h.runs ∷ w5 in
      let w7 : List (List ℕ) = flag_text h.fair ∷ w6 in
      let w8 : List (List ℕ) = decimal h.lines ∷ w7 in
      let e3 : length (spaced w3) ≤ 63 = u32_number h.open_files w2 42 f.open_files (number h.node w1 21 f.node (number h.fh [] 0 f.fh nothing)) in
      let e6 : length (spaced w6) ≤ 126 =
      u32_number h.runs w5 105 f.runs (u32_number h.parked w4 84 f.parked (u32_number h.files w3 63 f.files e3)) in
      let e8 : length (spaced w8) ≤ 149 = number h.lines w7 128 f.lines (word (flag_text h.fair) w6 1 126 (flag_short h.fair) e6) in
      let e : length (spaced (codes "state" ∷ w8)) ≤ 155 = word (codes "state") w8 5 149 (omega arith) e8 in
      omega (arith, e)
  state_short (state.Part (part.Node n lookups linked mode uid gid name)) f =
      let w1 : List (List ℕ) = name_text name ∷ [] in
      let w2 : List (List ℕ) = decimal gid ∷ w1 in
      let w3 : List (List ℕ) = decimal uid ∷ w2 in
      let w4 : List (List ℕ) = decimal mode ∷ w3 in
      let w5 : List (List ℕ) = flag_text linked ∷ w4 in
      let w6 : List (List ℕ) = decimal lookups ∷ w5 in
      let w7 : List (List ℕ) = decimal n ∷ w6 in
      let e1 : length (spaced w1) ≤ 511 = word (name_text name) [] 510 0 (w.name_is_short name f.5) nothing in
      let e4 : length (spaced w4) ≤ 574 = u32_number mode w3 553 f.2 (u32_number uid w2 532 f.3 (u32_number gid w1 511 f.4 e1)) in
      let e7 : length (spaced w7) ≤ 618 = number n w6 597 f.0 (number lookups w5 576 f.1 (word (flag_text linked) w4 1 574 (flag_short linked) e4)) in
      let e : length (spaced (codes "node" ∷ w7)) ≤ 623 = word (codes "node") w7 4 618 (omega arith) e7 in
      omega (arith, e)
  state_short (state.Part (part.File fh node)) f =
      let e = word (codes "file") (decimal fh ∷ decimal node ∷ []) 4 42 (omega arith) (number fh (decimal node ∷ []) 21 f.0 (number node [] 0 f.1 nothing)) in
      omega (arith, e)
  state_short (state.Part (part.Lock node owner start end write pid flock)) f =
      let w1 : List (List ℕ) = flag_text flock ∷ [] in
      let w2 : List (List ℕ) = decimal pid ∷ w1 in
      let w3 : List (List ℕ) = flag_text write ∷ w2 in
      let w4 : List (List ℕ) = decimal end ∷ w3 in
      let w5 : List (List ℕ) = decimal start ∷ w4 in
      let w6 : List (List ℕ) = decimal owner ∷ w5 in
      let w7 : List (List ℕ) = decimal node ∷ w6 in
      let e2 : length (spaced w2) ≤ 23 = u32_number pid w1 2 f.4 (word (flag_text flock) [] 1 0 (flag_short flock) nothing) in
      let e4 : length (spaced w4) ≤ 46 = number end w3 25 f.3 (word (flag_text write) w2 1 23 (flag_short write) e2) in
      let e7 : length (spaced w7) ≤ 109 = number node w6 88 f.0 (number owner w5 67 f.1 (number start w4 46 f.2 e4)) in
      let e : length (spaced (codes "lock" ∷ w7)) ≤ 114 = word (codes "lock") w7 4 109 (omega arith) e7 in
      omega (arith, e)
  state_short (state.Part (part.Wait unique node ask)) f =
      let w1 : List (List ℕ) = decimal node ∷ lock_ask_words ask in
      let w2 : List (List ℕ) = decimal unique ∷ w1 in
      let e2 : length (spaced w2) ≤ 189 = number unique w1 168 f.0 (number node (lock_ask_words ask) 147 f.1 (lock_ask_short ask f.2)) in
      let e : length (spaced (codes "wait" ∷ w2)) ≤ 194 = word (codes "wait") w2 4 189 (omega arith) e2 in
      omega (arith, e)
  state_short state.Go f = omega arith

  words_short : (line : Line) → LineFits line → length (spaced (line_words line)) < 700
  words_short (Asked worker o) f =
      let few = f.0 in
      let s = f.1 in
      let w1 : List (List ℕ) = word_for (kind_of o.op) ∷ field_words (body_of o.op) in
      let w2 : List (List ℕ) = decimal o.pid ∷ w1 in
      let w3 : List (List ℕ) = decimal o.gid ∷ w2 in
      let w4 : List (List ℕ) = decimal o.uid ∷ w3 in
      let w5 : List (List ℕ) = decimal o.node ∷ w4 in
      let w6 : List (List ℕ) = decimal o.unique ∷ w5 in
      let w7 : List (List ℕ) = decimal worker ∷ w6 in
      let e1 : length (spaced w1) ≤ 553 =
      word (word_for (kind_of o.op)) (field_words (body_of o.op)) 12 540 (kind_short (kind_of o.op)) (fields_short (body_of o.op) s.op) in
      let e4 : length (spaced w4) ≤ 616 = u32_number o.uid w3 595 s.uid (u32_number o.gid w2 574 s.gid (u32_number o.pid w1 553 s.pid e1)) in
      let e7 : length (spaced w7) ≤ 679 = number worker w6 658 (omega arith) (number o.unique w5 637 s.unique (number o.node w4 616 s.node e4)) in
      let e : length (spaced (codes "ask" ∷ w7)) ≤ 683 = word (codes "ask") w7 3 679 (omega arith) e7 in
      omega (arith, e)
  words_short (Told told) f =
      let e = word (codes "tell") (decimal told.unique ∷ result_words told.result) 4 221 (omega arith)
      (number told.unique (result_words told.result) 200 f.unique (result_short told.result f.result)) in
      omega (arith, e)
  words_short (State line) f = let e = state_short line f in omega (arith, e)

  -- a line's text is shorter than this
  pub line_short : (line : Line) → LineFits line → length (line_text line) < 700
  line_short line fits = let short = words_short line fits in omega (arith, short, ap length (line_spaced line))
