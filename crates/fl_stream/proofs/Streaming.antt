-- What a stream keeps while its lines come and its bytes go.
use Rattle.std.proofs.Common.{◌≡◌, ℕ, ◌+◌, ◌-◌, ◌≤◌, Bool, true, false, List, [], ◌∷◌, ◌++◌, length, take, drop, Option}
use Rattle.std.proofs.Common.{None, Some, refl, sym, ap, ◌∙◌, subst, arith, take-add, length-drop, take-append-drop}
use Rattle.std.proofs.Common.{append_assoc, append-nil, IsTrue}
use Rattle.std.proofs.KnownBytes.{Appends-nil, Appends-trans, Appends-kept}
use Rattle.std.proofs.lemmas.Grind.{flat_map-append}
use Rattle.std.proofs.lemmas.List.{take_all}
use Rattle.std.specs.Io.KnownBytes.{Appends, Keeps}
use mathlib.Core.List.{IsPrefix}
use Rattle.fl_history.specs.declared.history.Line.{Line}
use Rattle.fl_trace.specs.Text.{line_text, text_of}
use Rattle.fl_stream.proofs.Prefixes.{of_itself, of_one_more, of_another}
use Rattle.fl_stream.specs.Streams.{IsAs, Wrote, HoldsText, IsBegun, IsStreamed}
use Rattle.fl_stream.specs.Inside.Moves.{Moves}
use Rattle.fl_stream.specs.declared.manner.WhenWriterFails.{WhenWriterFails}
use Rattle.fl_stream.specs.declared.manner.WhenWriterFails.TheVariants.{GoOn}

-- the text of lines and one more
pub text_one : (xs : List Line) (x : Line) → text_of (xs ++ x ∷ []) ≡ text_of xs ++ (line_text x ++ 10 ∷ [])
text_one xs x =
    let apart : text_of (xs ++ x ∷ []) ≡ text_of xs ++ text_of (x ∷ []) = simp flat_map-append in
    apart ∙ ap (λ t. text_of xs ++ t) (append-nil (line_text x ++ 10 ∷ []))

-- a piece more went out
pub more_written : (a b c : Option (List ℕ)) (bs : List ℕ) (m n : ℕ) → m ≤ length bs
    → n ≤ length (take (length bs - m) (drop m bs)) → Appends a b (take m bs)
    → Appends b c (take n (take (length bs - m) (drop m bs))) → (m + n ≤ length bs) × Appends a c (take (m + n) bs)
more_written a b c bs m n within few before now =
    let all : take (length bs - m) (drop m bs) ≡ drop m bs = take_all (length bs - m) (drop m bs)
    (omega (arith, length-drop m bs)) in
    let fits : n ≤ length (drop m bs) = subst (λ xs. n ≤ length xs) all few in
    let written : Appends b c (take n (drop m bs)) = subst (λ xs. Appends b c (take n xs)) all now in (
      omega (arith, length-drop m bs, fits),
      subst (Appends a c) (sym (take-add m n bs))
          (Appends-trans a b c (take m bs) (take n (drop m bs)) before written),
    )

-- the front of what waited went
pub front_moves : (a b : Option (List ℕ)) (old new : List ℕ) (n : ℕ) → Appends a b (take n old) → new ≡ drop n old → Moves a b old new
front_moves a b old new n written rest =
    record { went = take n old; written = written; parts = sym (take-append-drop n old) ∙ ap (λ r. take n old ++ r) (sym rest) }

-- nothing is a beginning and an end only of nothing
nothing_left : (went waits : List ℕ) → [] ≡ went ++ waits → (went ≡ []) × (waits ≡ [])
nothing_left [] waits e = (refl, sym e)
nothing_left (x ∷ went) waits e = absurd (cc e)

-- bytes to which nothing is added stay as they were
nothing_added : (a b : Option (List ℕ)) (bytes : List ℕ) → bytes ≡ [] → Appends a b bytes → Keeps a b
nothing_added None b bytes none added = tt
nothing_added (Some xs) None bytes none added = absurd added
nothing_added (Some xs) (Some ys) bytes none added = added ∙ ap (λ bs. xs ++ bs) none ∙ append-nil xs

module _ {W : Type 0} (contents : W → Option (List ℕ)) where
  wrote_more : (a b : Option (List ℕ)) (sent more : List ℕ) → Wrote contents a sent → Appends a b more → Wrote contents b (sent ++ more)
  wrote_more a b sent more w more_is =
      record {
        first = w.first;
        front = w.front;
        more = w.more ++ more;
        is_as = w.is_as;
        appended = Appends-trans (contents w.first) a b w.more more w.appended more_is;
        parts = sym (append_assoc w.front w.more more) ∙ ap (λ bs. bs ++ more) w.parts;
      }

  wrote_kept : (a b : Option (List ℕ)) (sent : List ℕ) → Wrote contents a sent → Keeps a b → Wrote contents b sent
  wrote_kept a b sent w kept =
      record {
        first = w.first;
        front = w.front;
        more = w.more;
        is_as = w.is_as;
        appended = Appends-kept (contents w.first) a b w.more w.appended kept;
        parts = w.parts;
      }

  text_more : (a b : Option (List ℕ)) (lines : List Line) (more : List ℕ) → HoldsText contents a lines → Appends a b more
      → HoldsText contents b lines
  text_more a b lines more h more_is =
      record {
        rest = h.rest ++ more;
        wrote = subst (Wrote contents b) (append_assoc (text_of lines) h.rest more)
            (wrote_more a b (text_of lines ++ h.rest) more h.wrote more_is);
      }

  text_kept : (a b : Option (List ℕ)) (lines : List Line) → HoldsText contents a lines → Keeps a b → HoldsText contents b lines
  text_kept a b lines h kept = record { rest = h.rest; wrote = wrote_kept a b (text_of lines ++ h.rest) h.wrote kept }

  -- a writer that has all of it
  text_whole : (held : Option (List ℕ)) (lines : List Line) → Wrote contents held (text_of lines) → HoldsText contents held lines
  text_whole held lines w = record { rest = []; wrote = subst (Wrote contents held) (sym (append-nil (text_of lines))) w }

  -- the text of these lines was written and nothing else, and there are no others
  pub starts_written : (w : W) (unsent : List ℕ) (manner : WhenWriterFails) (base lines noted : List Line)
      → Wrote contents (contents w) (text_of base) → unsent ≡ [] → lines ≡ base → noted ≡ base
      → IsStreamed contents (contents w) unsent false manner lines noted
  starts_written w unsent manner base lines noted all no_text lines_are noted_are = record {
    sent = text_of base;
    lost = [];
    wrote = all;
    parts = ap (λ u. text_of base ++ u) (append-nil unsent ∙ no_text) ∙ append-nil (text_of base) ∙ ap text_of (sym lines_are);
    whole = λ _. refl;
    over = λ _. no_text;
    breaks = λ e. absurd (cc e);
    there = text_whole (contents w) noted (subst (λ ls. Wrote contents (contents w) (text_of ls)) (sym noted_are) all);
    front = of_itself noted lines (lines_are ∙ sym noted_are);
  }

  -- the writer has the text of these lines and nothing else
  pub all_there : (held : Option (List ℕ)) (base : List Line) (w : W) → held ≡ contents w → IsAs held (text_of base)
      → Wrote contents held (text_of base)
  all_there held base w is there = record {
    first = w;
    front = text_of base;
    more = [];
    is_as = subst (λ h. IsAs h (text_of base)) is there;
    appended = subst (λ h. Appends h held []) is (Appends-nil held);
    parts = append-nil (text_of base);
  }

  -- the text of a line more waits
  pub line_waits : (held : Option (List ℕ)) (unsent unsent_now : List ℕ) (broken : Bool) (manner : WhenWriterFails)
      (lines lines_now noted : List Line) (line : Line) → IsStreamed contents held unsent broken manner lines noted
      → broken ≡ false → unsent_now ≡ unsent ++ (line_text line ++ 10 ∷ []) → lines_now ≡ lines ++ line ∷ []
      → IsStreamed contents held unsent_now broken manner lines_now noted
  line_waits held unsent unsent_now broken manner lines lines_now noted line kept is_whole waits comes =
      let t = line_text line ++ 10 ∷ [] in
      record {
        sent = kept.sent;
        lost = [];
        wrote = kept.wrote;
        parts =
            ap (λ u. kept.sent ++ u) (append-nil unsent_now ∙ waits)
            ∙ sym (append_assoc kept.sent unsent t)
            ∙ ap (λ u. (kept.sent ++ u) ++ t) (sym (append-nil unsent) ∙ ap (λ u. unsent ++ u) (sym (kept.whole is_whole)))
            ∙ ap (λ u. u ++ t) kept.parts
            ∙ sym (text_one lines line) ∙ ap text_of (sym comes);
        whole = λ _. refl;
        over = λ e. absurd (cc (is_whole, e));
        breaks = λ e. absurd (cc (is_whole, e));
        there = kept.there;
        front = of_another noted lines lines_now kept.front (of_one_more lines lines_now line comes);
      }

  -- a line more is lost
  pub line_lost : (held : Option (List ℕ)) (unsent : List ℕ) (broken : Bool) (manner : WhenWriterFails)
      (lines lines_now noted : List Line) (line : Line) → IsStreamed contents held unsent broken manner lines noted
      → broken ≡ true → lines_now ≡ lines ++ line ∷ [] → IsStreamed contents held unsent broken manner lines_now noted
  line_lost held unsent broken manner lines lines_now noted line kept is_broken comes =
      let t = line_text line ++ 10 ∷ [] in
      record {
        sent = kept.sent;
        lost = kept.lost ++ t;
        wrote = kept.wrote;
        parts =
            ap (λ u. kept.sent ++ u) (sym (append_assoc unsent kept.lost t))
            ∙ sym (append_assoc kept.sent (unsent ++ kept.lost) t)
            ∙ ap (λ u. u ++ t) kept.parts
            ∙ sym (text_one lines line) ∙ ap text_of (sym comes);
        whole = λ e. absurd (cc (is_broken, e));
        over = kept.over;
        breaks = kept.breaks;
        there = kept.there;
        front = of_another noted lines lines_now kept.front (of_one_more lines lines_now line comes);
      }

  -- some of what waited went out
  pub moved_on : (a b : Option (List ℕ)) (unsent unsent_now : List ℕ) (broken : Bool) (manner : WhenWriterFails)
      (lines noted : List Line) → IsStreamed contents a unsent broken manner lines noted → Moves a b unsent unsent_now
      → IsStreamed contents b unsent_now broken manner lines noted
  moved_on a b unsent unsent_now broken manner lines noted kept moves =
      record {
        sent = kept.sent ++ moves.went;
        lost = kept.lost;
        wrote = wrote_more a b kept.sent moves.went kept.wrote moves.written;
        parts =
            append_assoc kept.sent moves.went (unsent_now ++ kept.lost)
            ∙ ap (λ u. kept.sent ++ u) (sym (append_assoc moves.went unsent_now kept.lost) ∙ ap (λ u. u ++ kept.lost) (sym moves.parts))
            ∙ kept.parts;
        whole = kept.whole;
        over = λ e. (nothing_left moves.went unsent_now (sym (kept.over e) ∙ moves.parts)).1;
        breaks = kept.breaks;
        there = text_more a b noted moves.went kept.there moves.written;
        front = kept.front;
      }

  -- if it is broken, nothing goes out
  pub kept_broken : (a b : Option (List ℕ)) (unsent unsent_now : List ℕ) (broken : Bool) (manner : WhenWriterFails)
      (lines noted : List Line) → IsStreamed contents a unsent broken manner lines noted → Moves a b unsent unsent_now
      → IsTrue broken → Keeps a b
  kept_broken a b unsent unsent_now true manner lines noted kept moves is_broken =
      nothing_added a b moves.went (nothing_left moves.went unsent_now (sym (kept.over refl) ∙ moves.parts)).0 moves.written
  kept_broken a b unsent unsent_now false manner lines noted kept moves is_broken = absurd (cc is_broken)

  -- the writer keeps what it holds
  pub kept_on : (a b : Option (List ℕ)) (unsent : List ℕ) (broken : Bool) (manner : WhenWriterFails) (lines noted : List Line)
      → IsStreamed contents a unsent broken manner lines noted → Keeps a b
      → IsStreamed contents b unsent broken manner lines noted
  kept_on a b unsent broken manner lines noted kept keeps =
      record {
        sent = kept.sent;
        lost = kept.lost;
        wrote = wrote_kept a b kept.sent kept.wrote keeps;
        parts = kept.parts;
        whole = kept.whole;
        over = kept.over;
        breaks = kept.breaks;
        there = text_kept a b noted kept.there keeps;
        front = kept.front;
      }

  -- the stream goes on without its writer, and what waited is lost
  pub breaks : (a : Option (List ℕ)) (unsent unsent_now : List ℕ) (broken : Bool) (manner : WhenWriterFails) (lines noted : List Line)
      → IsStreamed contents a unsent broken manner lines noted → unsent_now ≡ [] → manner ≡ GoOn
      → IsStreamed contents a unsent_now true manner lines noted
  breaks a unsent unsent_now broken manner lines noted kept no_text goes_on =
      record {
        sent = kept.sent;
        lost = unsent ++ kept.lost;
        wrote = kept.wrote;
        parts = ap (λ u. kept.sent ++ (u ++ (unsent ++ kept.lost))) no_text ∙ kept.parts;
        whole = λ e. absurd (cc e);
        over = λ _. no_text;
        breaks = λ _. goes_on;
        there = kept.there;
        front = kept.front;
      }

  -- the writer has a beginning
  pub begun : (held : Option (List ℕ)) (unsent : List ℕ) (broken : Bool) (manner : WhenWriterFails) (lines noted : List Line)
      → IsStreamed contents held unsent broken manner lines noted → IsBegun contents held lines
  begun held unsent broken manner lines noted kept =
      record { sent = kept.sent; rest = unsent ++ kept.lost; wrote = kept.wrote; parts = kept.parts }

  -- nothing waits and nothing is lost
  pub all_sent : (held : Option (List ℕ)) (unsent : List ℕ) (broken : Bool) (manner : WhenWriterFails) (lines noted : List Line)
      → IsStreamed contents held unsent broken manner lines noted → broken ≡ false → unsent ≡ []
      → Wrote contents held (text_of lines)
  all_sent held unsent broken manner lines noted kept is_whole no_text =
      subst (Wrote contents held)
      (sym (append-nil kept.sent) ∙ ap (λ u. kept.sent ++ u) (λ i. sym no_text i ++ sym (kept.whole is_whole) i) ∙ kept.parts)
      kept.wrote

  -- and so all lines may be noted
  pub all_noted : (held : Option (List ℕ)) (unsent : List ℕ) (broken : Bool) (manner : WhenWriterFails)
      (lines noted noted_now : List Line) → IsStreamed contents held unsent broken manner lines noted → broken ≡ false
      → unsent ≡ [] → noted_now ≡ lines → IsStreamed contents held unsent broken manner lines noted_now
  all_noted held unsent broken manner lines noted noted_now kept is_whole no_text noted_are =
      record {
        sent = kept.sent;
        lost = kept.lost;
        wrote = kept.wrote;
        parts = kept.parts;
        whole = kept.whole;
        over = kept.over;
        breaks = kept.breaks;
        there = text_whole held noted_now (subst (λ ls. Wrote contents held (text_of ls)) (sym noted_are)
            (all_sent held unsent broken manner lines noted kept is_whole no_text));
        front = of_itself noted_now lines (sym noted_are);
      }

  -- the writer has the noted lines
  pub noted_there : (held : Option (List ℕ)) (unsent : List ℕ) (broken : Bool) (manner : WhenWriterFails) (lines noted : List Line)
      → IsStreamed contents held unsent broken manner lines noted → HoldsText contents held noted
  noted_there held unsent broken manner lines noted kept = kept.there

  -- the noted lines begin all lines
  pub noted_front : (held : Option (List ℕ)) (unsent : List ℕ) (broken : Bool) (manner : WhenWriterFails) (lines noted : List Line)
      → IsStreamed contents held unsent broken manner lines noted → IsPrefix noted lines
  noted_front held unsent broken manner lines noted kept = kept.front
