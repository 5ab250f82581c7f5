-- What is known of a text once more of it came, and once it ended.
use Rattle.std.proofs.Common.{◌≡◌, ℕ, ◌+◌, ◌-◌, ◌<◌, ◌≤◌, ◌⊎◌, inl, inr, ⊎_elim, Bool, true, false, Option, List, [], ◌∷◌, ◌++◌}
use Rattle.std.proofs.Common.{length, take, drop}
use Rattle.std.proofs.Common.{refl, ap, sym, ◌∙◌, subst, arith, append_assoc, append-nil, length-append}
use Rattle.std.proofs.Math.Seq.{drop-append-add}
use Rattle.std.proofs.lemmas.Bool.{cases_lt}
use Rattle.std.proofs.lemmas.Grind.{flat_map-append}
use Rattle.std.proofs.lemmas.List.{length-drop, length-take-le, take-append-drop, take-append-le}
use Rattle.std.proofs.lemmas.List.Elements.{All-append}
use Rattle.std.specs.Str.Iter.{LacksByte}
use Rattle.fl_audit.specs.Audit.{has_newline, whole_lines, judged_part}
use Rattle.fl_audit.specs.First.{AreFirstLines, IsWithin}
use Rattle.fl_audit.specs.Inside.Hearing.{HearsAll, HearsEnough, IsBadBehind, Stops, Follows}
use Rattle.fl_audit.specs.declared.lines.Stopped.{Stopped}
use Rattle.fl_audit.specs.declared.lines.Stopped.TheVariants.{Enough, BadLine}
use Rattle.fl_audit.proofs.Newlines.{none_both, none_joined, seam, lacks_none, same_before, parted, behind_line}
use Rattle.fl_audit.proofs.Newlines.{whole_text, whole_seam, whole_text_none}
use Rattle.fl_history.specs.declared.history.Line.{Line}
use Rattle.fl_trace.specs.Text.{line_text, text_of, LineFits, Fits, BreaksAt}

-- each line's text is short
abbrev pub AreShort : Type 0
AreShort = (line : Line) → LineFits line → length (line_text line) < 700

-- and has no newline
abbrev pub AreLines : Type 0
AreLines = (line : Line) → LineFits line → LacksByte 10 (line_text line)

pub both_texts : (lines more : List Line) → text_of (lines ++ more) ≡ text_of lines ++ text_of more
both_texts lines more = flat_map-append (λ (line : Line). line_text line ++ 10 ∷ []) lines more

-- ---- a line that is too long

-- bytes with no newline, as many as no line has, are the front of no line
too_long : AreShort → (kept bytes after : List ℕ) (line : Line) → LineFits line → kept ++ bytes ≡ line_text line ++ 10 ∷ after
    → has_newline kept ≡ false → 700 ≤ length kept → ⊥
too_long short kept bytes after line fits e none long =
    let few = short line fits in
    let w = parted (line_text line ++ 10 ∷ []) after kept bytes (append_assoc (line_text line) (10 ∷ []) after ∙ sym e)
    (omega (arith, few, long, length-append (line_text line) (10 ∷ []))) in
    seam (line_text line) w.0 (subst (λ k. has_newline k ≡ false) (w.1 ∙ append_assoc (line_text line) (10 ∷ []) w.0) none)

-- so no line was heard
none_heard : AreShort → (kept bytes rest : List ℕ) (heard : List Line) → Fits heard → kept ++ bytes ≡ text_of heard ++ rest
    → has_newline kept ≡ false → 700 ≤ length kept → heard ≡ []
none_heard short kept bytes rest [] fits e none long = refl
none_heard short kept bytes rest (l ∷ lines) fits e none long =
    absurd (too_long short kept bytes (text_of lines ++ rest) l (fits 0 l (omega arith)) (e ∙ behind_line (line_text l) (text_of lines) rest) none long)

-- ---- more came

-- the last bytes of a room are what is left
pub left_over : (room front rest : List ℕ) (filled left k : ℕ) → take filled room ≡ front ++ rest → left ≡ length rest → filled ≤ length room → k ≤ left
    → take k (drop (filled - left) room) ≡ take k rest
left_over room front rest filled left k is long within few =
    let size : filled ≡ length front + length rest = sym (length-take-le filled room within) ∙ ap length is ∙ length-append front rest in
    let at : filled - left ≡ length front + 0 = omega (arith, size, long) in
    let whole : room ≡ front ++ (rest ++ drop filled room) =
    sym (take-append-drop filled room) ∙ ap (λ t. t ++ drop filled room) is ∙ append_assoc front rest (drop filled room) in
    ap (λ n. take k (drop n room)) at ∙ ap (λ r. take k (drop (length front + 0) r)) whole
    ∙ ap (take k) (drop-append-add front (rest ++ drop filled room) 0)
    ∙ take-append-le k rest (drop filled room) (omega (arith, few, long))

-- no more than so many are kept of what is left
follows_of : (text : List ℕ) (lines : List Line) (full kept : List ℕ) → Fits lines → text ≡ text_of lines ++ full → has_newline full ≡ false
    → kept ≡ take 700 full → Follows text lines kept
follows_of text lines full kept fits parts none is =
    let all : kept ++ drop 700 full ≡ full = ap (λ k. k ++ drop 700 full) is ∙ take-append-drop 700 full in
    record {
      fits = fits;
      more = drop 700 full;
      parts = parts ∙ ap (λ t. text_of lines ++ t) (sym all);
      lacks = subst (λ t. has_newline t ≡ false) (sym all) none;
      whole = elim (cases_lt (length full) 700) [
        | inl few ↦ inl (no_items (drop 700 full) (omega (arith, few, length-drop 700 full)))
        | inr many ↦ inr (omega (arith, ap length is, length-take-le 700 full many))
      ];
    }
  where
    no_items : (xs : List ℕ) → length xs ≡ 0 → xs ≡ []
    no_items [] e = refl
    no_items (x ∷ xs) e = absurd (omega arith)

-- bytes came behind what was kept, and lines were heard
pub goes_on : AreShort → (text bytes : List ℕ) (lines after : List Line) (kept now : List ℕ) (left : ℕ) → Follows text lines kept
    → HearsAll lines after (kept ++ bytes) left → ((rest : List ℕ) → left ≡ length rest → (front : List ℕ) → kept ++ bytes ≡ front ++ rest → now ≡ take 700 rest)
    → Follows (text ++ bytes) after now
goes_on short text bytes lines after kept now left f h is =
    subst (λ ls. Follows (text ++ bytes) ls now) (sym h.are)
    (⊎_elim
    (λ (none : f.more ≡ []).
    follows_of (text ++ bytes) (lines ++ h.heard) h.rest now (All-append LineFits lines h.heard f.fits h.fits)
    (ap (λ t. t ++ bytes) (f.parts ∙ ap (λ m. text_of lines ++ (kept ++ m)) none ∙ ap (λ k. text_of lines ++ k) (append-nil kept))
    ∙ append_assoc (text_of lines) kept bytes ∙ ap (λ t. text_of lines ++ t) h.parts
    ∙ sym (append_assoc (text_of lines) (text_of h.heard) h.rest) ∙ ap (λ t. t ++ h.rest) (sym (both_texts lines h.heard)))
    h.lacks (is h.rest h.long (text_of h.heard) h.parts))
    (λ (long : 700 ≤ length kept).
    let silent : h.heard ≡ [] = none_heard short kept bytes h.rest h.heard h.fits h.parts (none_both kept f.more f.lacks).0 long in
    let rest : kept ++ bytes ≡ h.rest = h.parts ∙ ap (λ (ls : List Line). text_of ls ++ h.rest) silent in
    let none : has_newline bytes ≡ false = (none_both kept bytes (subst (λ t. has_newline t ≡ false) (sym rest) h.lacks)).1 in
    subst (λ (ls : List Line). Follows (text ++ bytes) (lines ++ ls) now) (sym silent)
    (subst (λ (ls : List Line). Follows (text ++ bytes) ls now) (sym (append-nil lines))
    (follows_of (text ++ bytes) lines ((kept ++ f.more) ++ bytes) now f.fits
    (ap (λ t. t ++ bytes) f.parts ∙ append_assoc (text_of lines) (kept ++ f.more) bytes)
    (none_joined (kept ++ f.more) bytes f.lacks none)
    (is h.rest h.long (text_of h.heard) h.parts ∙ ap (take 700) (sym rest) ∙ take-append-le 700 kept bytes long
    ∙ sym (take-append-le 700 kept (f.more ++ bytes) long) ∙ ap (take 700) (sym (append_assoc kept f.more bytes))))))
    f.whole)

-- bytes came behind what was kept, and a line was bad
goes_bad : AreShort → (text bytes : List ℕ) (lines : List Line) (kept : List ℕ) (n : ℕ) → Follows text lines kept
    → IsBadBehind (length lines) (kept ++ bytes) n → IsBadBehind 0 (text ++ bytes) n
goes_bad short text bytes lines kept n f b =
    ⊎_elim
    (λ (none : f.more ≡ []). record {
      front = lines ++ b.front;
      bad = b.bad;
      after = b.after;
      fits = All-append LineFits lines b.front f.fits b.fits;
      parts =
          ap (λ t. t ++ bytes) (f.parts ∙ ap (λ m. text_of lines ++ (kept ++ m)) none ∙ ap (λ k. text_of lines ++ k) (append-nil kept))
          ∙ append_assoc (text_of lines) kept bytes ∙ ap (λ t. text_of lines ++ t) b.parts
          ∙ sym (append_assoc (text_of lines) (text_of b.front) (b.bad ++ 10 ∷ b.after))
          ∙ ap (λ t. t ++ (b.bad ++ 10 ∷ b.after)) (sym (both_texts lines b.front));
      lacks = b.lacks;
      wrong = b.wrong;
      number = let at = b.number in omega (arith, at, length-append lines b.front);
    })
    (λ (long : 700 ≤ length kept).
    let none : has_newline kept ≡ false = (none_both kept f.more f.lacks).0 in
    let silent : b.front ≡ [] = none_heard short kept bytes (b.bad ++ 10 ∷ b.after) b.front b.fits b.parts none long in
    let rest : kept ++ bytes ≡ b.bad ++ 10 ∷ b.after = b.parts ∙ ap (λ (ls : List Line). text_of ls ++ (b.bad ++ 10 ∷ b.after)) silent in
    let w = parted kept bytes b.bad (10 ∷ b.after) rest (no_shorter kept bytes b.bad b.after rest none) in
    let longer : List ℕ = (kept ++ f.more) ++ w.0 in
    record {
      front = lines;
      bad = longer;
      after = b.after;
      fits = f.fits;
      parts =
          ap (λ t. t ++ bytes) f.parts ∙ ap (λ t. (text_of lines ++ (kept ++ f.more)) ++ t) w.2
          ∙ append_assoc (text_of lines) (kept ++ f.more) (w.0 ++ 10 ∷ b.after)
          ∙ ap (λ t. text_of lines ++ t) (sym (append_assoc (kept ++ f.more) w.0 (10 ∷ b.after)));
      lacks = none_joined (kept ++ f.more) w.0 f.lacks (none_both kept w.0 (subst (λ t. has_newline t ≡ false) w.1 b.lacks)).1;
      wrong = λ line fits e.
          let few = short line fits in
          absurd (omega (arith, few, long, ap length e, length-append (kept ++ f.more) w.0, length-append kept f.more));
      number = let at = b.number in omega (arith, at, ap length silent);
    })
    f.whole
  where
    no_shorter : (kept bytes bad after : List ℕ) → kept ++ bytes ≡ bad ++ 10 ∷ after → has_newline kept ≡ false → length kept ≤ length bad
    no_shorter kept bytes bad after e none = elim (cases_lt (length bad) (length kept)) [
      | inl less ↦
          let w = parted (bad ++ 10 ∷ []) after kept bytes (append_assoc bad (10 ∷ []) after ∙ sym e) (omega (arith, less, length-append bad (10 ∷ []))) in
          absurd (seam bad w.0 (subst (λ k. has_newline k ≡ false) (w.1 ∙ append_assoc bad (10 ∷ []) w.0) none))
      | inr most ↦ most
    ]

-- bytes came behind what was kept, and as many lines were heard as are wanted
goes_enough : AreShort → (most : Option ℕ) (text bytes : List ℕ) (lines after : List Line) (kept : List ℕ) → Follows text lines kept
    → HearsEnough most lines after (kept ++ bytes) → HearsEnough most [] after (text ++ bytes)
goes_enough short most text bytes lines after kept f h =
    ⊎_elim
    (λ (none : f.more ≡ []). record {
      heard = lines ++ h.heard;
      rest = h.rest;
      fits = All-append LineFits lines h.heard f.fits h.fits;
      are = h.are;
      parts =
          ap (λ t. t ++ bytes) (f.parts ∙ ap (λ m. text_of lines ++ (kept ++ m)) none ∙ ap (λ k. text_of lines ++ k) (append-nil kept))
          ∙ append_assoc (text_of lines) kept bytes ∙ ap (λ t. text_of lines ++ t) h.parts
          ∙ sym (append_assoc (text_of lines) (text_of h.heard) h.rest) ∙ ap (λ t. t ++ h.rest) (sym (both_texts lines h.heard));
      many = h.many;
    })
    (λ (long : 700 ≤ length kept).
    let silent : h.heard ≡ [] = none_heard short kept bytes h.rest h.heard h.fits h.parts (none_both kept f.more f.lacks).0 long in
    record {
      heard = lines;
      rest = (kept ++ f.more) ++ bytes;
      fits = f.fits;
      are = h.are ∙ ap (λ (ls : List Line). lines ++ ls) silent ∙ append-nil lines;
      parts = ap (λ t. t ++ bytes) f.parts ∙ append_assoc (text_of lines) (kept ++ f.more) bytes;
      many = h.many;
    })
    f.whole

-- bytes came behind what was kept, and then no more is heard
pub goes_stopped : AreShort → (most : Option ℕ) (text bytes : List ℕ) (lines after : List Line) (kept : List ℕ) (stopped : Stopped) → Follows text lines kept
    → Stops most lines after (kept ++ bytes) stopped → Stops most [] after (text ++ bytes) stopped
goes_stopped short most text bytes lines after kept Enough f h = goes_enough short most text bytes lines after kept f h
goes_stopped short most text bytes lines after kept (BadLine n) f b = (goes_bad short text bytes lines kept n f b.0, b.1)

-- more came behind a bad line
stays_bad : (text bytes : List ℕ) (n : ℕ) → IsBadBehind 0 text n → IsBadBehind 0 (text ++ bytes) n
stays_bad text bytes n b = record {
  front = b.front;
  bad = b.bad;
  after = b.after ++ bytes;
  fits = b.fits;
  parts =
      ap (λ t. t ++ bytes) b.parts ∙ append_assoc (text_of b.front) (b.bad ++ 10 ∷ b.after) bytes
      ∙ ap (λ t. text_of b.front ++ t) (append_assoc b.bad (10 ∷ b.after) bytes);
  lacks = b.lacks;
  wrong = b.wrong;
  number = b.number;
}

-- more came once no more is heard
pub stays_stopped : (most : Option ℕ) (text bytes : List ℕ) (lines : List Line) (stopped : Stopped) → Stops most [] lines text stopped
    → Stops most [] lines (text ++ bytes) stopped
stays_stopped most text bytes lines (BadLine n) b = (stays_bad text bytes n b.0, b.1)
stays_stopped most text bytes lines Enough h = record {
  heard = h.heard;
  rest = h.rest ++ bytes;
  fits = h.fits;
  are = h.are;
  parts = ap (λ t. t ++ bytes) h.parts ∙ append_assoc (text_of h.heard) h.rest bytes;
  many = h.many;
}

-- ---- the end

breaks : AreLines → (text : List ℕ) (n : ℕ) → IsBadBehind 0 text n → BreaksAt LineFits text n
breaks lines text n b = record {
  front = b.front;
  rest = b.bad ++ 10 ∷ b.after;
  good = b.fits;
  parts = b.parts;
  number = let at = b.number in omega (arith, at);
  more = omega (arith, length-append b.bad (10 ∷ b.after));
  bad = λ line after fits e.
      b.wrong line fits (sym (same_before b.bad (line_text line) b.after after b.lacks (lacks_none (line_text line) (lines line fits)) e));
}

-- a bad line is one of whole lines
bad_whole : (text : List ℕ) (n : ℕ) → IsBadBehind 0 text n → IsBadBehind 0 (whole_lines text) n
bad_whole text n b = record {
  front = b.front;
  bad = b.bad;
  after = whole_lines b.after;
  fits = b.fits;
  parts = ap whole_lines b.parts ∙ whole_text b.front (b.bad ++ 10 ∷ b.after) ∙ ap (λ t. text_of b.front ++ t) (whole_seam b.bad b.after);
  lacks = b.lacks;
  wrong = b.wrong;
  number = b.number;
}

pub bad_ends : AreLines → (text : List ℕ) (n : ℕ) (cut : Bool) → IsBadBehind 0 text n → BreaksAt LineFits (judged_part cut text) n
bad_ends lines text n true b = breaks lines (whole_lines text) n (bad_whole text n b)
bad_ends lines text n false b = breaks lines text n b

-- bytes behind the last newline
pub rest_ends : (text : List ℕ) (lines : List Line) (kept : List ℕ) (n : ℕ) → Follows text lines kept → 0 < length kept → n ≡ length lines + 1
    → BreaksAt LineFits text n
rest_ends text lines kept n f some at = record {
  front = lines;
  rest = kept ++ f.more;
  good = f.fits;
  parts = f.parts;
  number = at;
  more = omega (arith, some, length-append kept f.more);
  bad = λ line after fits e. seam (line_text line) after (subst (λ t. has_newline t ≡ false) e f.lacks);
}

-- whole lines
pub lines_end : (text : List ℕ) (lines : List Line) (kept : List ℕ) (cut : Bool) → Follows text lines kept → (cut ≡ false → length kept ≡ 0)
    → judged_part cut text ≡ text_of lines
lines_end text lines kept true f none =
    ap whole_lines f.parts ∙ whole_text_none lines (kept ++ f.more) f.lacks ∙ append-nil (text_of lines)
lines_end text lines kept false f none = f.parts ∙ ap (λ t. text_of lines ++ t) (nothing kept f.more (none refl) f.whole) ∙ append-nil (text_of lines)
  where
    nothing : (kept more : List ℕ) → length kept ≡ 0 → (more ≡ []) ⊎ (700 ≤ length kept) → kept ++ more ≡ []
    nothing [] more e (inl is) = is
    nothing [] more e (inr long) = absurd (omega arith)
    nothing (x ∷ kept) more e whole = absurd (omega arith)

-- the lines are the first of the text
pub follow_first : (most : Option ℕ) (text : List ℕ) (lines : List Line) (kept : List ℕ) → Follows text lines kept → IsWithin most (length lines)
    → AreFirstLines most text lines
follow_first most text lines kept f within = record { rest = kept ++ f.more; parts = f.parts; fits = f.fits; few = within; all = inr f.lacks }

pub enough_first : (most : Option ℕ) (text : List ℕ) (lines : List Line) → HearsEnough most [] lines text → IsWithin most (length lines)
    → AreFirstLines most text lines
enough_first most text lines h within = record {
  rest = h.rest;
  parts = h.parts ∙ ap (λ (ls : List Line). text_of ls ++ h.rest) (sym h.are);
  fits = subst Fits (sym h.are) h.fits;
  few = within;
  all = inl h.many;
}
