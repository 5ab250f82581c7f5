-- What a listener knows of the text so far.
use Rattle.std.proofs.Common.{◌≡◌, ℕ, zero, suc, ◌+◌, ◌-◌, ◌<◌, ◌≤◌, min, inl, inr, ⊎_elim, Bool, true, false, Option, Some, None}
use Rattle.std.proofs.Common.{List, [], ◌++◌, length, take, drop, refl, ap, sym, ◌∙◌, subst, arith, append-nil}
use Rattle.std.proofs.Common.{take_at, take-add, length-append, Result, Ok, Err, IfSome, IfOk}
use Rattle.std.proofs.KnownBytes.{Consumes-trans, Consumes-kept, Consumes-nil}
use Rattle.std.proofs.lemmas.Bool.{cases_lt}
use Rattle.std.proofs.lemmas.List.{length-take-le, take_all}
use Rattle.std.proofs.lemmas.List.Elements.{All-nil}
use Rattle.std.proofs.lemmas.Option.{IfSome_then}
use Rattle.std.specs.Io.KnownBytes.{Consumes, Keeps, IsAtEnd}
use Rattle.std.specs.Option.{is_some}
use Rattle.std.specs.Vec.{with_items}
use Rattle.fl_audit.specs.Audit.{judged_part}
use Rattle.fl_audit.specs.First.{AreWholeLines, IsSoOfAll, IsWithin}
use Rattle.fl_audit.specs.Inside.Hearing.{HearsAll, Stops, Follows, Stands, Listens, HearsOn, HasRead, AreJudged, IsBad}
use Rattle.fl_audit.specs.declared.finding.AuditFault.{AuditFault}
use Rattle.fl_audit.specs.declared.finding.AuditFault.TheVariants as fault
use Rattle.fl_audit.specs.declared.lines.Stopped.{Stopped}
use Rattle.fl_audit.specs.declared.lines.Stopped.TheVariants.{Enough, BadLine}
use Rattle.fl_audit.specs.declared.listener.Listener.{Listener}
use Rattle.fl_audit.proofs.Following.{AreShort, AreLines, both_texts, left_over, goes_on, goes_stopped, stays_stopped, bad_ends}
use Rattle.fl_audit.proofs.Following.{rest_ends, lines_end, follow_first, enough_first}
use Rattle.fl_history.specs.declared.history.Line.{Line}
use Rattle.fl_audit.specs.Inside.Keeping.{Keeping}
use Rattle.fl_trace.specs.Text.{LineFits, BreaksAt, text_of}

-- ---- while lines are heard, and once they aren't any more

follows : (most : Option ℕ) (text : List ℕ) (lines : List Line) (kept : List ℕ) (o : Option Stopped) → is_some o ≡ false
    → Stands most text lines kept o → Follows text lines kept
follows most text lines kept None e f = f
follows most text lines kept (Some stopped) e s = absurd (cc e)

fine : (most : Option ℕ) (text : List ℕ) (lines : List Line) (kept : List ℕ) (o : Option Stopped) → is_some o ≡ false
    → Follows text lines kept → Stands most text lines kept o
fine most text lines kept None e f = f
fine most text lines kept (Some stopped) e f = absurd (cc e)

-- nothing came yet
pub starts : Follows [] [] []
starts = record { fits = All-nil LineFits; more = []; parts = refl; lacks = refl; whole = inl refl }

-- a listener to which nothing came knows that
pub listens_first : (l : Listener) → l.judge.lines ≡ [] → l.stopped ≡ None → l.kept ≡ 0 → l.bytes ≡ 0 → Listens [] l
listens_first l none goes empty nothing = record {
  stands = rw (none, goes, empty) starts;
  counts = λ e. nothing ∙ ap (λ ls. length (text_of ls)) (sym none);
}

pub none_within : (most : Option ℕ) (lines : List Line) → lines ≡ [] → IsWithin most (length lines)
none_within None lines none = tt
none_within (Some m) lines none = omega (arith, ap length none)

-- ---- a piece came

still : (most : Option ℕ) (text bytes : List ℕ) (lines : List Line) (kept : List ℕ) (o : Option Stopped) → is_some o ≡ true
    → Stands most text lines kept o → Stands most (text ++ bytes) lines kept o
still most text bytes lines kept None e f = absurd (cc e)
still most text bytes lines kept (Some stopped) e s = stays_stopped most text bytes lines stopped s

pub hears_nothing : (l : Listener) (bytes : List ℕ) → is_some l.stopped ≡ true → HearsOn l bytes l
hears_nothing l bytes stopped text is = record {
  stands = still l.most text bytes l.judge.lines (take l.kept l.room.items) l.stopped stopped is.stands;
  counts = is.counts;
}

pub hears_stop : AreShort → (before after : Listener) (came : ℕ) (stopped : Stopped) → is_some before.stopped ≡ false
    → Stops before.most before.judge.lines after.judge.lines (take (before.kept + came) before.room.items) stopped → after.most ≡ before.most
    → after.stopped ≡ Some stopped → HearsOn before (take came (drop before.kept before.room.items)) after
hears_stop short before after came stopped none stops most said text is =
    let kept = take before.kept before.room.items in
    let bytes = take came (drop before.kept before.room.items) in
    record {
      stands = subst (λ m. Stands m (text ++ bytes) after.judge.lines (take after.kept after.room.items) after.stopped) (sym most)
          (subst (Stands before.most (text ++ bytes) after.judge.lines (take after.kept after.room.items)) (sym said)
          (goes_stopped short before.most text bytes before.judge.lines after.judge.lines kept stopped
          (follows before.most text before.judge.lines kept before.stopped none is.stands)
          (subst (λ t. Stops before.most before.judge.lines after.judge.lines t stopped) (take-add before.kept came before.room.items) stops)));
      counts = λ goes. absurd (cc (said, goes));
    }

-- the bytes of the lines, and of those that were heard behind them
count_on : (before after : List Line) (text : List ℕ) (old left : ℕ) → HearsAll before after text left → old ≡ length (text_of before)
    → old + (length text - left) ≡ length (text_of after)
count_on before after text old left h was =
    let all : length (text_of after) ≡ length (text_of before) + length (text_of h.heard) =
    ap (λ (ls : List Line). length (text_of ls)) h.are ∙ ap length (both_texts before h.heard) ∙ length-append (text_of before) (text_of h.heard) in
    let long = h.long in
    omega (arith, all, was, long, ap length h.parts, length-append (text_of h.heard) h.rest)

pub hears_lines : AreShort → (before after : Listener) (came left : ℕ) → is_some before.stopped ≡ false → before.kept + came ≤ length before.room.items
    → HearsAll before.judge.lines after.judge.lines (take (before.kept + came) before.room.items) left → after.kept ≡ min left 700
    → take after.kept after.room.items ≡ take after.kept (drop (before.kept + came - left) before.room.items) → after.stopped ≡ before.stopped
    → after.bytes ≡ before.bytes + (before.kept + came - left)
    → HearsOn before (take came (drop before.kept before.room.items)) after
hears_lines short before after came left none within heard few moved same more text is =
    let kept = take before.kept before.room.items in
    let bytes = take came (drop before.kept before.room.items) in
    let whole : take (before.kept + came) before.room.items ≡ kept ++ bytes = take-add before.kept came before.room.items in
    record {
      stands = fine after.most (text ++ bytes) after.judge.lines (take after.kept after.room.items) after.stopped (ap is_some same ∙ none)
          (goes_on short text bytes before.judge.lines after.judge.lines kept (take after.kept after.room.items) left
          (follows before.most text before.judge.lines kept before.stopped none is.stands)
          (subst (λ t. HearsAll before.judge.lines after.judge.lines t left) whole heard)
          (λ rest long front parts.
          moved ∙ left_over before.room.items front rest (before.kept + came) left after.kept (whole ∙ parts) long within (omega (arith, few))
          ∙ no_more rest left after.kept long few));
      counts = λ goes.
          more ∙ ap (λ n. before.bytes + (n - left)) (sym (length-take-le (before.kept + came) before.room.items within))
          ∙ count_on before.judge.lines after.judge.lines (take (before.kept + came) before.room.items) before.bytes left heard (is.counts (sym same ∙ goes));
    }
  where
    no_more : (rest : List ℕ) (left k : ℕ) → left ≡ length rest → k ≡ min left 700 → take k rest ≡ take 700 rest
    no_more rest left k long few = elim (cases_lt left 700) [
      | inl short ↦ take_all k rest (omega (arith, short, long, few)) ∙ sym (take_all 700 rest (omega (arith, short, long)))
      | inr many ↦ ap (λ n. take n rest) (let e : k ≡ 700 = omega (arith, many, few) in e)
    ]

-- another room, with the same bytes at its front
pub other_room : (before after : Listener) → after.judge ≡ before.judge → after.most ≡ before.most → after.kept ≡ before.kept
    → after.stopped ≡ before.stopped → after.bytes ≡ before.bytes → take before.kept after.room.items ≡ take before.kept before.room.items
    → (text : List ℕ) → Listens text before → Listens text after
other_room before after judge most kept stopped bytes room text is = record {
  stands =
      subst (λ (j : Keeping). Stands after.most text j.lines (take after.kept after.room.items) after.stopped) (sym judge)
      (subst (λ m. Stands m text before.judge.lines (take after.kept after.room.items) after.stopped) (sym most)
      (subst (λ k. Stands before.most text before.judge.lines (take k after.room.items) after.stopped) (sym kept)
      (subst (Stands before.most text before.judge.lines (take before.kept after.room.items)) (sym stopped)
      (subst (λ t. Stands before.most text before.judge.lines t before.stopped) (sym room) is.stands))));
  counts = λ goes. bytes ∙ is.counts (sym stopped ∙ goes) ∙ ap (λ (j : Keeping). length (text_of j.lines)) (sym judge);
}

-- ---- what was read

pub read_more : (left old new : Option (List ℕ)) (before after : Listener) (bytes : List ℕ) → Consumes old new bytes → HearsOn before bytes after
    → HasRead left old before → HasRead left new after
read_more left old new before after bytes more hears so = record {
  text = so.text ++ bytes;
  read = Consumes-trans left old new so.text bytes so.read more;
  listens = hears so.text so.listens;
}

pub read_none : (left old new : Option (List ℕ)) (before after : Listener) → Keeps old new → ((text : List ℕ) → Listens text before → Listens text after)
    → HasRead left old before → HasRead left new after
read_none left old new before after kept hears so = record {
  text = so.text;
  read = Consumes-kept left old new so.text so.read kept;
  listens = hears so.text so.listens;
}

-- nothing came
pub read_nothing : (left old new : Option (List ℕ)) (l : Listener) (bytes : List ℕ) → bytes ≡ [] → Consumes old new bytes
    → HasRead left old l → HasRead left new l
read_nothing left old new l bytes none more so = record {
  text = so.text;
  read =
      subst (Consumes left new) (ap (λ b. so.text ++ b) none ∙ append-nil so.text)
      (Consumes-trans left old new so.text bytes so.read more);
  listens = so.listens;
}

-- the bytes behind what is kept are others now
pub read_room : (left now : Option (List ℕ)) (l : Listener) (r : List ℕ) → length r ≡ l.room.len → take l.kept r ≡ take l.kept l.room.items
    → HasRead left now l
    → HasRead left now (record { judge = l.judge; bytes = l.bytes; most = l.most; room = with_items l.room r; kept = l.kept; stopped = l.stopped })
read_room left now l r long kept so = record {
  text = so.text;
  read = so.read;
  listens =
      other_room l _ refl refl refl refl refl (ap (take l.kept) (take_at r _ l.room.len long) ∙ kept) so.text so.listens;
}

pub read_first : (left : Option (List ℕ)) (l : Listener) → Listens [] l → HasRead left left l
read_first left l is = record { text = []; read = Consumes-nil left; listens = is }

-- a reader at its end gave all that it had
pub all_read : (left now : Option (List ℕ)) (text : List ℕ) (P : List ℕ → Type 0) → Consumes left now text → IsAtEnd now → P text → IfSome left P
all_read None now text P read end p = tt
all_read (Some xs) None text P read end p = absurd read
all_read (Some xs) (Some ys) text P read end p = subst P (sym (read ∙ ap (λ l. text ++ l) end ∙ append-nil text)) p

pub ok_map : {T E : Type 0} (r : Result T E) (P Q : T → Type 0) → ((t : T) → P t → Q t) → IfOk r P → IfOk r Q
ok_map (Ok t) P Q f p = f t p
ok_map (Err e) P Q f p = p

pub all_of : (left now : Option (List ℕ)) (text : List ℕ) (P : List ℕ → Type 0) → Consumes left now text → IsAtEnd now → P text → IsSoOfAll left P
all_of left now text P read end p = record { text = text; read = all_read left now text (λ bytes. bytes ≡ text) read end refl; is = p }

pub of_all : (left : Option (List ℕ)) (P Q : List ℕ → Type 0) → ((text : List ℕ) → P text → Q text) → IsSoOfAll left P → IsSoOfAll left Q
of_all left P Q f so = record { text = so.text; read = so.read; is = f so.text so.is }

pub if_known : (left : Option (List ℕ)) (P : List ℕ → Type 0) → IsSoOfAll left P → IfSome left P
if_known left P so = IfSome_then left so.read (λ bytes same. subst P (sym same) so.is)

-- ---- the end

bad_said : AreLines → (most : Option ℕ) (text : List ℕ) (lines : List Line) (kept : List ℕ) (o : Option Stopped) (n : ℕ) (cut : Bool)
    → o ≡ Some (BadLine n) → Stands most text lines kept o → IsBad most cut text n
bad_said are most text lines kept o n cut is stands =
    let b : Stops most [] lines text (BadLine n) = subst (Stands most text lines kept) is stands in
    record { breaks = bad_ends are text n cut b.0; within = λ _. b.1 }

pub ends_bad : AreLines → (l : Listener) (n : ℕ) (cut : Bool) → l.stopped ≡ Some (BadLine n) → (text : List ℕ) → Listens text l → IsBad l.most cut text n
ends_bad are l n cut bad text is = bad_said are l.most text l.judge.lines (take l.kept l.room.items) l.stopped n cut bad is.stands

pub ends_inside : (l : Listener) (n : ℕ) (cut : Bool) → l.stopped ≡ None → cut ≡ false → 0 < l.kept → l.kept ≤ length l.room.items
    → n ≡ length l.judge.lines + 1 → (text : List ℕ) → Listens text l → IsBad l.most cut text n
ends_inside l n cut none uncut some within at text is =
    let kept = take l.kept l.room.items in
    record {
      breaks = subst (λ c. BreaksAt LineFits (judged_part c text) n) (sym uncut)
          (rest_ends text l.judge.lines kept n (follows l.most text l.judge.lines kept l.stopped (ap is_some none) is.stands)
          (omega (arith, some, length-take-le l.kept l.room.items within)) at);
      within = λ cut. absurd (cc (cut, uncut));
    }

pub ends_whole : (l : Listener) (cut : Bool) → l.stopped ≡ None → (cut ≡ false → l.kept ≡ 0) → IsWithin l.most (length l.judge.lines)
    → (text : List ℕ) → Listens text l → AreJudged l.most cut text l.judge.lines l.bytes
ends_whole l cut none whole within text is =
    let kept = take l.kept l.room.items in
    let f = follows l.most text l.judge.lines kept l.stopped (ap is_some none) is.stands in
    record {
      first = follow_first l.most text l.judge.lines kept f within;
      whole = λ _. lines_end text l.judge.lines kept cut f (λ uncut. ap (λ n. length (take n l.room.items)) (whole uncut));
      long = λ _. is.counts none;
    }

pub ends_enough : (l : Listener) (cut : Bool) → l.stopped ≡ Some Enough → IsWithin l.most (length l.judge.lines) → (text : List ℕ) → Listens text l
    → AreJudged l.most cut text l.judge.lines l.bytes
ends_enough l cut enough within text is =
    let h : Stops l.most [] l.judge.lines text Enough =
    subst (Stands l.most text l.judge.lines (take l.kept l.room.items)) enough is.stands in
    record {
      first = enough_first l.most text l.judge.lines h within;
      whole = λ all. absurd (let many = h.many in cc (all, many));
      long = λ all. absurd (let many = h.many in cc (all, many));
    }

-- lines of which all are wanted are all whole lines
pub whole_first : (text : List ℕ) (lines : List Line) (bytes : ℕ) → AreJudged None true text lines bytes → AreWholeLines text lines bytes
whole_first text lines bytes judged = record {
  rest = judged.first.rest;
  parts = judged.first.parts;
  fits = judged.first.fits;
  lacks = ⊎_elim (λ (some : None ≡ Some (length lines)). absurd (cc some)) (λ none. none) judged.first.all;
  long = judged.long refl;
}

pub same_line : {A : Type 0} (n m : ℕ) → ◌≡◌ {A = Result A AuditFault} (Err (fault.BadLine n)) (Err (fault.BadLine m)) → n ≡ m
same_line n m e = cc e

pub other_err : {A B : Type 0} (f g : AuditFault) → ◌≡◌ {A = Result A AuditFault} (Err f) (Err g) → ◌≡◌ {A = Result B AuditFault} (Err f) (Err g)
other_err f g e = let same : f ≡ g = cc e in ap Err same

pub none_kept : (k : ℕ) → (0 < k → ⊥) → k ≡ 0
none_kept zero none = refl
none_kept (suc k) none = absurd (none (omega arith))
