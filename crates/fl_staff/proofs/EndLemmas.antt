-- How a session ended.
use Rattle.std.proofs.Common.{◌≡◌, ℕ, ◌+◌, ◌==◌, Bool, true, false, true≢false, List, [], ◌∷◌, ◌++◌, All, length, map, sum_by}
use Rattle.std.proofs.Common.{Option, refl, ap, sym, ◌∙◌, subst, arith, append_assoc, append-nil}
use Rattle.std.proofs.KnownBytes.{Appends-nil}
use Rattle.std.proofs.lemmas.Bool.Decides.{nat_tests}
use Rattle.std.proofs.lemmas.List.Elements.{All-nil}
use Rattle.std.proofs.lemmas.List.Sums.{sum_by_push}
use Rattle.std.specs.Prelude.{if◌then◌else◌, ◌&&◌}
use mathlib.Core.List.{IsPrefix, Sublistᴰ}
use mathlib.Core.List.Sublistᴰ as sublist
use Rattle.atomic_table.specs.Seated.{TableId}
use Rattle.fl_intake.specs.Ends.{PutSide}
use Rattle.fl_intake.specs.Often.{Weight}
use Rattle.fl_log.specs.Appended.{Appended, HasAll as HasAllEntries, IsAppended, entries_by, entry_by}
use Rattle.fl_log.specs.Growing.{Grows}
use Rattle.fl_pool.specs.Running.{HasRun}
use Rattle.fl_pool.specs.Working.{HaveDone, Reading}
use Rattle.fl_pool.specs.declared.pool.Ran.{Ran}
use Rattle.fl_staff.proofs.RestLemmas.{All_front, All_last}
use Rattle.fl_staff.specs.Closing.{HasGrown, HasSaidGoodbye, last_words}
use Rattle.fl_staff.specs.Served.{HasServed}
use Rattle.fl_staff.specs.declared.staff.Served.{Served}
use Rattle.fl_transport.specs.Collecting.{IsGiven, Outgoing}
use Rattle.fl_transport.specs.Streams.{Streams}
use Rattle.fl_transport.specs.declared.response.Response.{Response}
use Rattle.fl_transport.specs.declared.response.Response.TheVariants.{Nothing, Init, One, Replies, Whole}
use Rattle.fl_wire.specs.Spell.{IsReply}
use Rattle.fl_workers.specs.Received.{answer_by}
use Rattle.fl_workers.specs.Sent.{spelled}
use Rattle.fl_workers.specs.Worked.{Shows}
use Rattle.fl_workers.specs.declared.entry.ReplyEntry.{ReplyEntry}

abbrev pub author_of : ReplyEntry → ℕ
author_of e = e.author

module _ {A : Type 0} where
  -- one came last
  pub one_more : (had before now : List A) (count count_now : ℕ) (it : A) → IsPrefix had before
      → now ≡ before ++ it ∷ [] → count_now ≡ count + 1 → Grows had now count count_now (it ∷ [])
  one_more had before now count count_now it begins is more = record {
    counted = more;
    among = λ some among.
        let so_far : Sublistᴰ some before = rw (← append-nil some, ← begins.1) (sublist.append among (sublist.nil-sublist begins.0)) in
        rw is (sublist.append so_far (sublist.refl (it ∷ [])));
  }

module _ {E : Type 0} (author_of : E → ℕ) (author : ℕ) where
  by_append : (xs ys : List E)
      → entries_by author_of author (xs ++ ys) ≡ entries_by author_of author xs ++ entries_by author_of author ys
  by_append [] ys = refl
  by_append (x ∷ xs) ys = ap (λ l. entry_by author_of author x ++ l) (by_append xs ys)
      ∙ sym (append_assoc (entry_by author_of author x) (entries_by author_of author xs) (entries_by author_of author ys))

  -- what an author had so far begins what it has later
  pub by_begins : (xs ys : List E) → IsPrefix xs ys
      → IsPrefix (entries_by author_of author xs) (entries_by author_of author ys)
  by_begins xs ys begins =
      (entries_by author_of author begins.0, sym (by_append xs begins.0) ∙ ap (entries_by author_of author) begins.1)

  same_number : (n : ℕ) → (n == n) ≡ true
  same_number n = grind (arith, nat_tests)

  by_itself : (e : E) → author_of e ≡ author → entries_by author_of author (e ∷ []) ≡ e ∷ []
  by_itself e is = ap (λ n. (if n == author then e ∷ [] else []) ++ []) is
      ∙ ap (λ b. (if b then e ∷ [] else []) ++ []) (same_number author)

-- an entry was appended, which is its author's last
pub appended_more : {E : Type 0} (author_of : E → ℕ) (old new : Appended E) (e : E) → author_of e ≡ old.author
    → IsAppended old e new
    → Grows (entries_by author_of old.author old.upto) (entries_by author_of old.author new.upto) old.count new.count (e ∷ [])
appended_more author_of old new e its appended =
    let by = entries_by author_of old.author in
    one_more (by old.upto) (by appended.before) (by new.upto) old.count new.count e
    (by_begins author_of old.author old.upto appended.before appended.had)
    (ap by appended.upto ∙ by_append author_of old.author appended.before (e ∷ [])
    ∙ ap (λ l. by appended.before ++ l) (by_itself author_of old.author e its)) appended.count

-- nothing was given to be sent
pub nothing_given : (start : Option (List ℕ))
    → IsGiven start (record { held = start; waiting = []; broken = false }) (spelled [])
nothing_given start = record { sent = []; written = Appends-nil start; are_given = refl; framed = All-nil IsReply }

words : (goodbye : Response) → (goodbye ≡ Nothing → ⊥) → last_words goodbye ≡ goodbye ∷ []
words Nothing some = absurd (some refl)
words (Init unique step) some = refl
words (One told) some = refl
words (Replies tolds) some = refl
words (Whole unique ask) some = refl

-- a goodbye was given
pub goodbye_given : (log log_now : List ReplyEntry) (own mine : Appended ReplyEntry) (goodbye : Response) (said : Bool)
    → (goodbye ≡ Nothing → ⊥) → (said ≡ true → log_now ≡ log ++ answer_by own.author goodbye ∷ [])
    → (said ≡ true → IsAppended own (answer_by own.author goodbye) mine)
    → (said ≡ true → log_now ≡ log ++ map (answer_by own.author) (last_words goodbye))
    × (said ≡ true → HasGrown own mine (map (answer_by own.author) (last_words goodbye)))
goodbye_given log log_now own mine goodbye said some logged appended =
    let is = sym (words goodbye some) in (
      λ t. subst (λ w. log_now ≡ log ++ map (answer_by own.author) w) is (logged t),
      λ t. subst (λ w. HasGrown own mine (map (answer_by own.author) w)) is (record {
        author = (appended t).author;
        grown = appended_more author_of own mine (answer_by own.author goodbye) refl (appended t);
      }),
    )

both_true : (a b : Bool) → (a && b) ≡ true → (a ≡ true) × (b ≡ true)
both_true true b e = (refl, e)
both_true false b e = absurd (true≢false (sym e))

-- all was given, and the goodbye last
pub goodbye_said : (start : Option (List ℕ)) (out : Outgoing) (log log_now : List ReplyEntry)
    (appenders all : List (Appended ReplyEntry)) (own mine : Appended ReplyEntry) (goodbye : Response) (closed said : Bool)
    → IsGiven start out (spelled log_now)
    → (said ≡ true → log_now ≡ log ++ map (answer_by own.author) (last_words goodbye))
    → (said ≡ true → HasGrown own mine (map (answer_by own.author) (last_words goodbye)))
    → all ≡ appenders ++ mine ∷ [] → (closed ≡ true → All (HasAllEntries author_of log_now) all)
    → (closed ≡ true → length log_now ≡ sum_by (λ (a : Appended ReplyEntry). a.count) all)
    → HasSaidGoodbye start out appenders own goodbye (closed && said)
goodbye_said start out log log_now appenders all own mine goodbye closed said given is grown these each total = record {
  front = log;
  log = log_now;
  given = given;
  is = λ whole. is (both_true closed said whole).1;
  each = λ whole. All_front (HasAllEntries author_of log_now) appenders mine
      (subst (λ l. All (HasAllEntries author_of log_now) l) these (each (both_true closed said whole).0));
  mine = mine;
  grown = λ whole. grown (both_true closed said whole).1;
  all = λ whole. All_last (HasAllEntries author_of log_now) appenders mine
      (subst (λ l. All (HasAllEntries author_of log_now) l) these (each (both_true closed said whole).0));
  total = λ whole. total (both_true closed said whole).0 ∙ ap (sum_by (λ (a : Appended ReplyEntry). a.count)) these
      ∙ sum_by_push (λ (a : Appended ReplyEntry). a.count) appenders mine;
}

-- the same run, with the names of its workers and its receiver's appender by other terms
pub run_as : {C N S : Type 0} (r : Reading S) (shows : Shows) (of : TableId) (put : PutSide) (names others : List ℕ)
    (left left_now : Option (List ℕ)) (sent own : Appended ReplyEntry) (ran : Ran C N S)
    → HasRun r shows of put names left left_now sent ran → names ≡ others → sent ≡ own
    → HasRun r shows of put others left left_now own ran
run_as r shows of put names others left left_now sent own ran run same is =
    subst (λ l. HasRun r shows of put l left left_now own ran) same
    (subst (λ a. HasRun r shows of put names left left_now a ran) is run)

-- the same work, weighed by other terms
pub weighed : {S : Type 0} (r : Reading S) (shows : Shows) (orders others : Weight → ℕ) (seats : List S)
    (sents : List (Appended ReplyEntry)) (any lost : Bool) → ((weight : Weight) → others weight ≡ orders weight)
    → HaveDone r shows orders seats sents any lost → HaveDone r shows others seats sents any lost
weighed r shows orders others seats sents any lost same did = record {
  works = did.works;
  at = did.at;
  gave = did.gave;
  each = did.each;
  weighs = λ weight. same weight ∙ did.weighs weight;
  refused = did.refused;
  missing = did.missing;
}

-- the same of as many workers, by another term
pub served_by_as_many : {C S : Type 0} (r : Reading S) (shows : Shows) (n m : ℕ) (streams : Streams) (it : Served C S) → n ≡ m
    → HasServed r shows n streams it → HasServed r shows m streams it
served_by_as_many r shows n m streams it same did = subst (λ k. HasServed r shows k streams it) same did
