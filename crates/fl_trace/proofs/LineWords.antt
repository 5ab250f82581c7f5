-- The words of a line: the text of the line is these, with spaces between them.
use Rattle.std.proofs.Common.{◌≡◌, ℕ, ◌<◌, ◌^◌, Bool, true, false, List, [], ◌∷◌, ◌++◌, codes, Result, Ok, Err, refl}
use Rattle.std.proofs.Common.{sym, ap, arith, append-nil}
use Rattle.std.specs.Fmt.{decimal}
use Rattle.std.specs.List.{AllByRecursion}
use Rattle.fl_history.specs.declared.history.Line.{Line}
use Rattle.fl_history.specs.declared.history.Line.TheVariants.{Asked, Told, State}
use Rattle.fl_order.specs.Errno.{number_of}
use Rattle.fl_order.specs.OpKind.{word_for}
use Rattle.fl_order.specs.Order.{kind_of, body_of}
use Rattle.fl_order.specs.Sayable.{FitsBody, FitsLock, FitsResult, FitsAttr, FitsState}
use Rattle.fl_order.specs.declared.body.Body.{Body}
use Rattle.fl_order.specs.declared.body.Body.TheVariants as body
use Rattle.fl_order.specs.declared.errno.Errno.{Errno}
use Rattle.fl_order.specs.declared.kind.OpKind.{OpKind}
use Rattle.fl_order.specs.declared.order.LockAsk.{LockAsk}
use Rattle.fl_order.specs.declared.order.Order.{Order}
use Rattle.fl_order.specs.declared.state_part.StateLine.{StateLine}
use Rattle.fl_order.specs.declared.state_part.StateLine.TheVariants as state
use Rattle.fl_order.specs.declared.state_part.StatePart.TheVariants as part
use Rattle.fl_order.specs.declared.told.Answer.{Answer}
use Rattle.fl_order.specs.declared.told.Answer.TheVariants.{Done, Entry, Attr, Open, Made, Lock}
use Rattle.fl_order.specs.declared.told.Attr.{Attr as Attributes}
use Rattle.fl_words.specs.ReadBack.{AreReadBack}
use Rattle.fl_words.specs.Words.{spaced, flag_text, name_text, behind, IsVisible}
use Rattle.fl_trace.specs.Text.{fields_text, result_text, line_text, LineFits}
use Rattle.fl_words.specs.State.{state_text}

-- ---- the words

abbrev pub lock_ask_words : LockAsk → List (List ℕ)
lock_ask_words a = decimal a.fh ∷ decimal a.owner ∷ decimal a.start ∷ decimal a.end ∷ decimal a.kind ∷ decimal a.pid ∷ decimal a.flags ∷ []

abbrev pub field_words : Body → List (List ℕ)
field_words (body.Lock ask) = lock_ask_words ask
field_words (body.Create excl mode name) = flag_text excl ∷ decimal mode ∷ name_text name ∷ []
field_words (body.Make mode name) = decimal mode ∷ name_text name ∷ []
field_words (body.Name name) = name_text name ∷ []
field_words (body.Number n) = decimal n ∷ []
field_words (body.Flush fh owner) = decimal fh ∷ decimal owner ∷ []
field_words (body.Release fh unlocks owner) = decimal fh ∷ flag_text unlocks ∷ decimal owner ∷ []
field_words body.Getattr = []
field_words body.Open = []

abbrev pub attr_words : Attributes → List (List ℕ) → List (List ℕ)
attr_words a more = decimal a.node ∷ decimal a.mode ∷ decimal a.nlink ∷ decimal a.uid ∷ decimal a.gid ∷ more

abbrev pub result_words : Result Answer Errno → List (List ℕ)
result_words (Ok Done) = codes "ok" ∷ []
result_words (Ok (Entry a)) = codes "entry" ∷ attr_words a []
result_words (Ok (Attr a)) = codes "attr" ∷ attr_words a []
result_words (Ok (Open fh)) = codes "open" ∷ decimal fh ∷ []
result_words (Ok (Made a fh)) = codes "made" ∷ attr_words a (decimal fh ∷ [])
result_words (Ok (Lock start end kind pid)) = codes "lock" ∷ decimal start ∷ decimal end ∷ decimal kind ∷ decimal pid ∷ []
result_words (Err error) = codes "err" ∷ decimal (number_of error) ∷ []

abbrev pub order_words : Order → List (List ℕ)
order_words o = decimal o.unique ∷ decimal o.node ∷ decimal o.uid ∷ decimal o.gid ∷ decimal o.pid ∷ word_for (kind_of o.op) ∷ field_words (body_of o.op)

abbrev pub state_words : StateLine → List (List ℕ)
state_words (state.Head h) =
    codes "state" ∷ decimal h.lines ∷ flag_text h.fair ∷ decimal h.runs ∷ decimal h.parked ∷ decimal h.files ∷ decimal h.open_files ∷ decimal h.node
    ∷ decimal h.fh ∷ []
state_words (state.Part (part.Node number lookups linked mode uid gid name)) =
    codes "node" ∷ decimal number ∷ decimal lookups ∷ flag_text linked ∷ decimal mode ∷ decimal uid ∷ decimal gid ∷ name_text name ∷ []
state_words (state.Part (part.File fh node)) = codes "file" ∷ decimal fh ∷ decimal node ∷ []
state_words (state.Part (part.Lock node owner start end write pid flock)) =
    codes "lock" ∷ decimal node ∷ decimal owner ∷ decimal start ∷ decimal end ∷ flag_text write ∷ decimal pid ∷ flag_text flock ∷ []
state_words (state.Part (part.Wait unique node ask)) = codes "wait" ∷ decimal unique ∷ decimal node ∷ lock_ask_words ask
state_words state.Go = codes "go" ∷ []

abbrev pub line_words : Line → List (List ℕ)
line_words (Asked worker order) = codes "ask" ∷ decimal worker ∷ order_words order
line_words (Told told) = codes "tell" ∷ decimal told.unique ∷ result_words told.result
line_words (State line) = state_words line

body_spaced : (word : List ℕ) (b : Body) → spaced (word ∷ field_words b) ≡ word ++ behind (fields_text b)
body_spaced word (body.Lock ask) = refl
body_spaced word (body.Create excl mode name) = refl
body_spaced word (body.Make mode name) = refl
body_spaced word (body.Name name) = refl
body_spaced word (body.Number n) = refl
body_spaced word (body.Flush fh owner) = refl
body_spaced word (body.Release fh unlocks owner) = refl
body_spaced word body.Getattr = sym (append-nil word)
body_spaced word body.Open = sym (append-nil word)

result_spaced : (word : List ℕ) (told : Result Answer Errno) → spaced (word ∷ result_words told) ≡ word ++ 32 ∷ result_text told
result_spaced word (Ok Done) = refl
result_spaced word (Ok (Entry a)) = refl
result_spaced word (Ok (Attr a)) = refl
result_spaced word (Ok (Open fh)) = refl
result_spaced word (Ok (Made a fh)) = refl
result_spaced word (Ok (Lock start end kind pid)) = refl
result_spaced word (Err error) = refl

state_spaced : (line : StateLine) → spaced (state_words line) ≡ state_text line
state_spaced (state.Head h) = refl
state_spaced (state.Part (part.Node number lookups linked mode uid gid name)) = refl
state_spaced (state.Part (part.File fh node)) = refl
state_spaced (state.Part (part.Lock node owner start end write pid flock)) = refl
state_spaced (state.Part (part.Wait unique node ask)) = refl
state_spaced state.Go = refl

-- the words with spaces between them are the text
pub line_spaced : (line : Line) → spaced (line_words line) ≡ line_text line
line_spaced (Asked worker o) =
    ap (λ end. codes "ask" ++ 32 ∷ (decimal worker ++ 32 ∷ (decimal o.unique ++ 32 ∷
    (decimal o.node ++ 32 ∷ (decimal o.uid ++ 32 ∷ (decimal o.gid ++ 32 ∷ (decimal o.pid ++ 32 ∷ end)))))))
    (body_spaced (word_for (kind_of o.op)) (body_of o.op))
line_spaced (Told told) = ap (λ end. codes "tell" ++ 32 ∷ end) (result_spaced (decimal told.unique) told.result)
line_spaced (State line) = state_spaced line

-- ---- they are words of visible characters

pub small : (n : ℕ) → n < 2 ^ 32 → n < 2 ^ 64
small n below = omega arith

flag_word : (flag : Bool) → IsVisible (flag_text flag)
flag_word true = refl
flag_word false = refl

kind_word : (k : OpKind) → IsVisible (word_for k)
kind_word k = grind arith

pub number_small : (e : Errno) → number_of e < 2 ^ 32
number_small e = grind arith

module _ (w : AreReadBack) where
  u32_word : (n : ℕ) → n < 2 ^ 32 → IsVisible (decimal n)
  u32_word n below = w.number_is_visible n (small n below)

  lock_ask_are : (a : LockAsk) → FitsLock a → AllByRecursion IsVisible (lock_ask_words a)
  lock_ask_are a f = (
    w.number_is_visible a.fh f.fh,
    (
      w.number_is_visible a.owner f.owner,
      (
        w.number_is_visible a.start f.start,
        (
          w.number_is_visible a.end f.end,
          (u32_word a.kind f.kind, (u32_word a.pid f.pid, (u32_word a.flags f.flags, tt))),
        ),
      ),
    ),
  )

  fields_are : (b : Body) → FitsBody b → AllByRecursion IsVisible (field_words b)
  fields_are (body.Lock ask) f = lock_ask_are ask f
  fields_are (body.Create excl mode name) f = let few = f.0 in (flag_word excl, (w.number_is_visible mode (omega arith), (w.name_is_visible name f.1, tt)))
  fields_are (body.Make mode name) f = (u32_word mode f.0, (w.name_is_visible name f.1, tt))
  fields_are (body.Name name) f = (w.name_is_visible name f, tt)
  fields_are (body.Number n) f = (w.number_is_visible n f, tt)
  fields_are (body.Flush fh owner) f = (w.number_is_visible fh f.0, (w.number_is_visible owner f.1, tt))
  fields_are (body.Release fh unlocks owner) f = (w.number_is_visible fh f.0, (flag_word unlocks, (w.number_is_visible owner f.1, tt)))
  fields_are body.Getattr f = tt
  fields_are body.Open f = tt

  attr_are : (a : Attributes) (more : List (List ℕ)) → FitsAttr a → AllByRecursion IsVisible more → AllByRecursion IsVisible (attr_words a more)
  attr_are a more f are = (w.number_is_visible a.node f.node, (u32_word a.mode f.mode, (u32_word a.nlink f.nlink, (u32_word a.uid f.uid, (u32_word a.gid f.gid, are)))))

  result_are : (told : Result Answer Errno) → FitsResult told → AllByRecursion IsVisible (result_words told)
  result_are (Ok Done) f = (refl, tt)
  result_are (Ok (Entry a)) f = (refl, attr_are a [] f tt)
  result_are (Ok (Attr a)) f = (refl, attr_are a [] f tt)
  result_are (Ok (Open fh)) f = (refl, (w.number_is_visible fh f, tt))
  result_are (Ok (Made a fh)) f = (refl, attr_are a (decimal fh ∷ []) f.0 (w.number_is_visible fh f.1, tt))
  result_are (Ok (Lock start end kind pid)) f =
      (refl, (w.number_is_visible start f.0, (w.number_is_visible end f.1, (u32_word kind f.2, (u32_word pid f.3, tt)))))
  result_are (Err error) f = (refl, (u32_word (number_of error) (number_small error), tt))

  state_are : (line : StateLine) → FitsState line → AllByRecursion IsVisible (state_words line)
  state_are (state.Head h) f = (
    refl,
    (
      w.number_is_visible h.lines f.lines,
      (
        flag_word h.fair,
        (
          u32_word h.runs f.runs,
          (
            u32_word h.parked f.parked,
            (
              u32_word h.files f.files,
              (u32_word h.open_files f.open_files, (w.number_is_visible h.node f.node, (w.number_is_visible h.fh f.fh, tt))),
            ),
          ),
        ),
      ),
    ),
  )
  state_are (state.Part (part.Node number lookups linked mode uid gid name)) f = (
    refl,
    (
      w.number_is_visible number f.0,
      (
        w.number_is_visible lookups f.1,
        (flag_word linked, (u32_word mode f.2, (u32_word uid f.3, (u32_word gid f.4, (w.name_is_visible name f.5, tt))))),
      ),
    ),
  )
  state_are (state.Part (part.File fh node)) f = (refl, (w.number_is_visible fh f.0, (w.number_is_visible node f.1, tt)))
  state_are (state.Part (part.Lock node owner start end write pid flock)) f = (
    refl,
    (
      w.number_is_visible node f.0,
      (
        w.number_is_visible owner f.1,
        (
          w.number_is_visible start f.2,
          (w.number_is_visible end f.3, (flag_word write, (u32_word pid f.4, (flag_word flock, tt)))),
        ),
      ),
    ),
  )
  state_are (state.Part (part.Wait unique node ask)) f =
      (refl, (w.number_is_visible unique f.0, (w.number_is_visible node f.1, lock_ask_are ask f.2)))
  state_are state.Go f = (refl, tt)

  pub line_are : (line : Line) → LineFits line → AllByRecursion IsVisible (line_words line)
  line_are (Asked worker o) f =
      let few = f.0 in
      let s = f.1 in (
        refl,
        (
          w.number_is_visible worker (omega arith),
          (
            w.number_is_visible o.unique s.unique,
            (
              w.number_is_visible o.node s.node,
              (
                u32_word o.uid s.uid,
                (
                  u32_word o.gid s.gid,
                  (u32_word o.pid s.pid, (kind_word (kind_of o.op), fields_are (body_of o.op) s.op)),
                ),
              ),
            ),
          ),
        ),
      )
  line_are (Told told) f = (refl, (w.number_is_visible told.unique f.unique, result_are told.result f.result))
  line_are (State line) f = state_are line f
