-- The first line of a text, of which the first bytes were read.
use Rattle.std.proofs.Common.{◌≡◌, ℕ, suc, ◌+◌, ◌<◌, ◌≤◌, inl, inr, Bool, true, false, ◌||◌, ◌==◌, List, [], ◌∷◌, ◌++◌}
use Rattle.std.proofs.Common.{length, take, drop, Option, Some, None, IfSome, IsNone, refl, sym, ap, subst, ◌∙◌, arith, append_assoc}
use Rattle.std.proofs.Common.{append-nil, length-append, take-add}
use Rattle.std.proofs.KnownBytes.{Consumes-trans}
use Rattle.std.proofs.lemmas.Bool.{ne_eqb}
use Rattle.std.proofs.lemmas.List.Folds.{list_any-append}
use Rattle.std.specs.Io.KnownBytes.{Consumes, IsAtEnd}
use Rattle.std.specs.Str.Iter.{LacksByte}
use Rattle.fl_history.specs.declared.history.Line.{Line}
use Rattle.fl_history.specs.declared.history.Line.TheVariants as line
use Rattle.fl_audit.specs.Audit.{has_newline}
use Rattle.fl_order.specs.declared.state_part.StateLine.TheVariants as state
use Rattle.fl_trace.specs.Text.{line_text, LineFits}
use Rattle.fl_waiting.specs.declared.rules.Rules.{Rules}
use Rattle.fl_audit.specs.Opening.{AreNamed, BeginsUnder}
use Rattle.fl_audit.specs.Opening.Inside.{IsEnough, IsHeadUnder}

-- so many bytes were read, and stand at the front of a room for any first line
pub record IsFilled (start left : Option (List ℕ)) (bytes : ℕ) (room : List ℕ) : Type 0 where
  pub long : length room ≡ 700
  pub within : bytes ≤ length room
  pub read : Consumes start left (take bytes room)

-- what was read, and one read more
front_more : (start before after : Option (List ℕ)) (bytes came : ℕ) (old room : List ℕ)
    → Consumes start before (take bytes old) → take bytes room ≡ take bytes old
    → Consumes before after (take came (drop bytes room)) → Consumes start after (take (bytes + came) room)
front_more start before after bytes came old room first same more =
    let both = Consumes-trans start before after (take bytes old) (take came (drop bytes room)) first more in
    let parts : take bytes old ++ take came (drop bytes room) ≡ take (bytes + came) room =
    ap (λ xs. xs ++ take came (drop bytes room)) (sym same) ∙ sym (take-add bytes came room) in
    subst (Consumes start after) parts both

-- as much is there as before, and more was read
pub room_more : (start before after : Option (List ℕ)) (bytes came : ℕ) (old room : List ℕ)
    → IsFilled start before bytes old → take bytes room ≡ take bytes old → length room ≡ length old
    → bytes + came ≤ length room → Consumes before after (take came (drop bytes room))
    → IsFilled start after (bytes + came) room
room_more start before after bytes came old room f same long within more = record {
  long = long ∙ f.long;
  within = within;
  read = front_more start before after bytes came old room f.read same more;
}

-- ---- where the first line ends

-- the first bytes of a text have a line of it with its newline, or end inside it
data Ends (front line : List ℕ) : Type 0 where
  behind : (after : List ℕ) → front ≡ line ++ 10 ∷ after → Ends front line
  inside : (more : List ℕ) → line ≡ front ++ more → Ends front line

same_head : (b c : ℕ) (xs ys : List ℕ) → b ∷ xs ≡ c ∷ ys → b ≡ c
same_head b c xs ys e = cc

same_tail : (b c : ℕ) (xs ys : List ℕ) → b ∷ xs ≡ c ∷ ys → xs ≡ ys
same_tail b c xs ys e = cc

one_more : (b c : ℕ) (front line : List ℕ) → b ≡ c → Ends front line → Ends (b ∷ front) (c ∷ line)
one_more b c front line same (behind after parts) = behind after (λ i. same i ∷ parts i)
one_more b c front line same (inside more parts) = inside more (λ i. sym same i ∷ parts i)

ends : (front more line rest : List ℕ) → front ++ more ≡ line ++ 10 ∷ rest → Ends front line
ends [] more line rest e = inside line refl
ends (b ∷ front) more [] rest e = behind front (ap (λ c. c ∷ front) (same_head b 10 (front ++ more) rest e))
ends (b ∷ front) more (c ∷ line) rest e =
    one_more b c front line (same_head b c (front ++ more) (line ++ 10 ∷ rest) e)
    (ends front more line rest (same_tail b c (front ++ more) (line ++ 10 ∷ rest) e))

lacks_none : (bytes : List ℕ) → LacksByte 10 bytes → has_newline bytes ≡ false
lacks_none [] lacks = refl
lacks_none (b ∷ bytes) lacks =
    let own : (b == 10) ≡ false = ne_eqb b 10 (lacks 0 (omega arith)) in
    λ i. own i || lacks_none bytes (λ k below. lacks (suc k) (omega arith)) i

or_false : (x y : Bool) → (x || y) ≡ false → x ≡ true → ⊥
or_false true y none some = absurd (cc none)
or_false false y none some = absurd (cc some)

-- bytes that are enough don't end inside the first line
not_inside : (front more line rest : List ℕ) (left : Option (List ℕ)) → front ++ more ≡ line ++ 10 ∷ rest
    → LacksByte 10 line → length line < 700 → (IsAtEnd left → more ≡ []) → IsEnough front left
    → (within : List ℕ) → line ≡ front ++ within → ⊥
not_inside front more line rest left e lacks short none (inl some) within parts =
    or_false (has_newline front) (has_newline within)
    (sym (list_any-append (λ b. b == 10) front within) ∙ ap has_newline (sym parts) ∙ lacks_none line lacks) some
not_inside front more line rest left e lacks short none (inr (inl long)) within parts =
    omega (arith, long, short, ap length parts, length-append front within)
not_inside front more line rest left e lacks short none (inr (inr over)) within parts =
    let whole : front ≡ line ++ 10 ∷ rest = sym (append-nil front) ∙ ap (λ m. front ++ m) (sym (none over)) ∙ e in
    omega (arith, ap length whole, ap length parts, length-append line (10 ∷ rest), length-append front within)

-- ---- what is named

-- the rules that a text's first line names, if it can have no other first line
pub by_line : (text : List ℕ) (l : Line) (after : List ℕ) (named : Option Rules) → LineFits l
    → text ≡ line_text l ++ 10 ∷ after
    → ((other : Line) (rest : List ℕ) → LineFits other → text ≡ line_text other ++ 10 ∷ rest → l ≡ other)
    → IfSome named (IsHeadUnder l) → (IsNone named → (rules : Rules) → IsHeadUnder l rules → ⊥) → AreNamed text named
by_line text (line.State (state.Head head)) after (Some rules) fits spelled only some none =
    record { head = head; rest = after; fits = fits; spelled = spelled; names = some }
by_line text (line.State (state.Part part)) after (Some rules) fits spelled only some none = absurd some
by_line text (line.State state.Go) after (Some rules) fits spelled only some none = absurd some
by_line text (line.Asked worker order) after (Some rules) fits spelled only some none = absurd some
by_line text (line.Told told) after (Some rules) fits spelled only some none = absurd some
by_line text l after None fits spelled only some none = λ rules b.
    let same : l ≡ line.State (state.Head b.head) = only (line.State (state.Head b.head)) b.rest b.fits b.spelled in
    none refl rules (subst (λ x. IsHeadUnder x rules) (sym same) b.names)

further : (text front more : List ℕ) (rules : Rules) → text ≡ front ++ more → BeginsUnder front rules → BeginsUnder text rules
further text front more rules e b = record {
  head = b.head;
  rest = b.rest ++ more;
  fits = b.fits;
  spelled = e ∙ ap (λ xs. xs ++ more) b.spelled
      ∙ append_assoc (line_text (line.State (state.Head b.head))) (10 ∷ b.rest) more;
  names = b.names;
}

none_further : (text front more : List ℕ) (rules : Rules) → text ≡ front ++ more → IsEnough front (Some more)
    → ((l : Line) → LineFits l → length (line_text l) < 700) → ((l : Line) → LineFits l → LacksByte 10 (line_text l))
    → (BeginsUnder front rules → ⊥) → BeginsUnder text rules → ⊥
none_further text front more rules e enough short lacks none b =
    let first : List ℕ = line_text (line.State (state.Head b.head)) in
    let both : front ++ more ≡ first ++ 10 ∷ b.rest = sym e ∙ b.spelled in
    go first refl (ends front more first b.rest both)
    (not_inside front more first b.rest (Some more) both
    (lacks (line.State (state.Head b.head)) b.fits) (short (line.State (state.Head b.head)) b.fits) (λ over. over) enough)
  where
    go : (first : List ℕ) → first ≡ line_text (line.State (state.Head b.head)) → Ends front first
        → ((within : List ℕ) → first ≡ front ++ within → ⊥) → ⊥
    go first is (behind after parts) never = none (record {
      head = b.head;
      rest = after;
      fits = b.fits;
      spelled = parts ∙ ap (λ l. l ++ 10 ∷ after) is;
      names = b.names;
    })
    go first is (inside within parts) never = never within parts

pub named_so : (left now : Option (List ℕ)) (front : List ℕ) (named : Option Rules) → Consumes left now front
    → IsEnough front now → ((l : Line) → LineFits l → length (line_text l) < 700)
    → ((l : Line) → LineFits l → LacksByte 10 (line_text l)) → AreNamed front named
    → IfSome left (λ text. AreNamed text named)
named_so None now front named came enough short lacks is = tt
named_so (Some text) None front named came enough short lacks is = absurd came
named_so (Some text) (Some more) front (Some rules) came enough short lacks is = further text front more rules came is
named_so (Some text) (Some more) front None came enough short lacks is =
    λ rules. none_further text front more rules came enough short lacks (is rules)
