-- The numbers of what is there fit their fields, and so do those of what an order is answered there.
use Rattle.std.proofs.Common.{◌≡◌, ℕ, zero, suc, ◌^◌, ◌<◌, ◌≤◌, ◌==◌, Bool, true, false, not, ◌||◌, ◌&&◌, ◌↔◌, if◌then◌else◌, Option}
use Rattle.std.proofs.Common.{Some, None, option_map, Result, Ok, Err, List, [], ◌∷◌, ◌++◌, All, length, refl, ap, sym, ◌∙◌, subst, arith, IfSome}
use Rattle.std.specs.Prelude.{nat_lt, nat_le}
use Rattle.std.specs.List.{filter, fold}
use Rattle.std.specs.FinMap.{get}
use Rattle.std.proofs.lemmas.Bool.{ltb-false}
use Rattle.std.proofs.lemmas.List.Elements.{All-append, All-cons, All-filter, All-head, All-map, All-nil, All-push, All-tail, All-weaker}
use Rattle.fl_core.specs.Effects.{Effect, at_once, by_reply, cleared_on, dropped, followed_by, later, later_to, leaving}
use Rattle.fl_core.specs.Effects.{listing_answered, listing_unanswered, locked, locks_answered, recorded, replied, request_of}
use Rattle.fl_core.specs.Effects.{told_first, waited_for, with_waiter}
use Rattle.fl_core.specs.Replies.{ask_error, at_once_unless, ended, ended_all, ended_by, ended_with, file_reply}
use Rattle.fl_core.specs.Replies.{first_told, getlk_reply, own_reply, reply_to, room_reply}
use Rattle.fl_counter.specs.Tolds.{own_replies}
use Rattle.fl_core.specs.Replies.{set_reply, taken_reply, test_reply, wait_reply}
use Rattle.fl_core.specs.Settling.{answered_first, free_behind, granted_told, marking_granted, oldest_free, settled_within}
use Rattle.fl_core.specs.State.{Snapshot, State, View, snapshot_of}
use Rattle.fl_core.specs.Step.{after_first, replies_in, settling}
use Rattle.fl_dir.specs.Directory.{Listing}
use Rattle.fl_dir.specs.OpenFiles.{has_open_file, is_open_on, without_file}
use Rattle.fl_order.specs.Sayable.{FitsBody, FitsLock, IsSayable}
use Rattle.fl_dir.specs.Replies.{unless_error}
use Rattle.fl_order.specs.Order.{body_of}
use Rattle.fl_order.specs.declared.errno.Errno.{Errno}
use Rattle.fl_order.specs.declared.errno.Errno.TheVariants.{EAGAIN, EBADF, EDEADLK, EINTR, EINVAL, ENOLCK}
use Rattle.fl_order.specs.declared.order.LockAsk.{LockAsk}
use Rattle.fl_order.specs.declared.order.Op.{Op}
use Rattle.fl_order.specs.declared.order.Op.TheVariants.{Lookup, Forget, Getattr, Unlink, Open, Release, Flush, Create, Getlk, Setlk}
use Rattle.fl_order.specs.declared.order.Op.TheVariants.{Setlkw, Interrupt, Mknod, Mkdir, Rmdir}
use Rattle.fl_order.specs.declared.order.Order.{Order}
use Rattle.fl_order.specs.declared.told.Answer.{Answer}
use Rattle.fl_order.specs.declared.told.Answer.TheVariants.{Done}
use Rattle.fl_order.specs.declared.told.Told.{Told}
use Rattle.fl_marks.specs.Blocker.{IsBlocker, blocker}
use Rattle.fl_marks.specs.Change.{Change, cleared, last_said, marking_after, said_or, struck}
use Rattle.fl_marks.specs.Marking.{Marking, Spot, Stroke, covers, stroked}
use Rattle.fl_marks.specs.Runs.{runs}
use Rattle.fl_marks.specs.declared.held.Held.{Held}
use Rattle.fl_marks.specs.declared.lock.Key.{Key}
use Rattle.fl_marks.specs.declared.lock.Kind.{Kind}
use Rattle.fl_marks.specs.declared.lock.Kind.TheVariants.{Read, Write}
use Rattle.fl_marks.specs.declared.lock.Mark.{Mark}
use Rattle.fl_waiting.specs.LockRequest.{is_flock, is_malformed, key_of, lock_answer, mark_of, stroke_of, type_of}
use Rattle.fl_waiting.specs.Waiting.{is_blocked, is_parked, taken_first, taken_out, waits, conflicts_with_held}
use Rattle.fl_waiting.specs.Circle.{is_deadlock}
use Rattle.fl_waiting.specs.declared.parked.Request.{Request}
use Rattle.fl_waiting.specs.declared.rules.Rules.{Rules}
use Rattle.lockd_serve.proofs.Listings.{ListingFits, SitsAnswer, SitsResult, SitsTold, after_close_fits, after_create_fits, after_forget_fits, after_lookup_fits}
use Rattle.lockd_serve.proofs.Listings.{after_mkdir_fits, after_mknod_fits, after_open_fits, after_unlink_fits, create_sits, getattr_sits, lookup_sits}
use Rattle.lockd_serve.proofs.Listings.{mkdir_sits, mknod_sits, open_sits, rmdir_sits, sits_if, sits_unless, unlink_sits}

-- ---- what is there

pub record RequestFits (r : Request) : Type 0 where
  pub unique : r.unique < 2 ^ 64
  pub pid : r.ask.pid < 2 ^ 32

pub record ViewFits (v : View) : Type 0 where
  pub directory : ListingFits v.directory
  pub parked : All RequestFits v.parked

abbrev pub MarkFits : Option Mark → Type 0
MarkFits mark = IfSome mark (λ m. m.pid < 2 ^ 32)

abbrev pub ChangeFits : Change → Type 0
ChangeFits (struck s) = MarkFits s.mark
ChangeFits (cleared node) = Unit {0}

pub record EffectFits (e : Effect) : Type 0 where
  pub view : ViewFits e.view
  pub changes : All ChangeFits e.changes

pub record StateFits (s : State) : Type 0 where
  pub view : ViewFits s.view
  pub changes : All ChangeFits s.changes

none_change : All ChangeFits []
none_change = All-nil ChangeFits

one_change : (c : Change) → ChangeFits c → All ChangeFits (c ∷ [])
one_change c own = All-cons ChangeFits c [] own none_change

mark_fits : (ask : LockAsk) → ask.pid < 2 ^ 32 → MarkFits (mark_of ask)
mark_fits ask few = first (ask.kind == 0)
  where
    other : (b : Bool) → MarkFits (if b then Some (record { kind = Write; pid = ask.pid }) else None)
    other true = few
    other false = tt

    first : (b : Bool)
        → MarkFits (if b then Some (record { kind = Read; pid = ask.pid })
        else (if ask.kind == 1 then Some (record { kind = Write; pid = ask.pid }) else None))
    first true = few
    first false = other (ask.kind == 1)

locked_fits : (node : ℕ) (ask : LockAsk) (reply : Result Answer Errno) → ask.pid < 2 ^ 32
    → All ChangeFits (locked node ask reply)
locked_fits node ask (Ok answer) few = one_change (struck (stroke_of node ask)) (mark_fits ask few)
locked_fits node ask (Err e) few = none_change

-- ---- effects

module _ (order : Order) (said : IsSayable order) where
  locks_fit : (op : Op) (reply : Result Answer Errno) (d : Listing) → FitsBody (body_of op)
      → All ChangeFits (locks_answered order op reply d)
  locks_fit (Release fh unlocks owner) (Ok answer) d fits =
      All-append ChangeFits (cleared_on (without_file d fh) order.node) (dropped unlocks order.node owner)
      (clears (has_open_file (without_file d fh) order.node)) (drops unlocks)
    where
      clears : (b : Bool) → All ChangeFits (if b then [] else cleared order.node ∷ [])
      clears true = none_change
      clears false = one_change (cleared order.node) tt

      drops : (b : Bool) → All ChangeFits (dropped b order.node owner)
      drops true = one_change _ tt
      drops false = none_change
  locks_fit (Release fh unlocks owner) (Err e) d fits = none_change
  locks_fit (Flush fh owner) (Ok answer) d fits = one_change _ tt
  locks_fit (Flush fh owner) (Err e) d fits = none_change
  locks_fit (Setlk ask) reply d fits = locked_fits order.node ask reply fits.pid
  locks_fit (Setlkw ask) reply d fits = locked_fits order.node ask reply fits.pid
  locks_fit (Lookup name) reply d fits = none_change
  locks_fit (Forget n) reply d fits = none_change
  locks_fit Getattr reply d fits = none_change
  locks_fit (Mknod mode name) reply d fits = none_change
  locks_fit (Mkdir mode name) reply d fits = none_change
  locks_fit (Unlink name) reply d fits = none_change
  locks_fit (Rmdir name) reply d fits = none_change
  locks_fit Open reply d fits = none_change
  locks_fit (Create excl mode name) reply d fits = none_change
  locks_fit (Getlk ask) reply d fits = none_change
  locks_fit (Interrupt unique) reply d fits = none_change

  listing_fits : (op : Op) (reply : Result Answer Errno) (d : Listing) → ListingFits d → SitsResult reply
      → ListingFits (listing_answered order op reply d)
  listing_fits (Lookup name) reply d fits sits = after_lookup_fits d fits reply
  listing_fits (Mknod mode name) reply d fits sits =
      after_mknod_fits d fits order.uid order.gid mode name reply said.uid said.gid sits
  listing_fits (Mkdir mode name) reply d fits sits =
      after_mkdir_fits d fits order.uid order.gid mode name reply said.uid said.gid sits
  listing_fits (Unlink name) reply d fits sits = after_unlink_fits d fits name reply
  listing_fits (Rmdir name) reply d fits sits = after_unlink_fits d fits name reply
  listing_fits Open reply d fits sits = after_open_fits d fits order.node reply sits
  listing_fits (Release fh unlocks owner) reply d fits sits = after_close_fits d fits order.node fh reply
  listing_fits (Create excl mode name) reply d fits sits =
      after_create_fits d fits order.uid order.gid mode name reply said.uid said.gid sits
  listing_fits (Forget n) reply d fits sits = fits
  listing_fits Getattr reply d fits sits = fits
  listing_fits (Flush fh owner) reply d fits sits = fits
  listing_fits (Getlk ask) reply d fits sits = fits
  listing_fits (Setlk ask) reply d fits sits = fits
  listing_fits (Setlkw ask) reply d fits sits = fits
  listing_fits (Interrupt unique) reply d fits sits = fits

  forgotten_fits : (op : Op) (d : Listing) → ListingFits d → ListingFits (listing_unanswered order op d)
  forgotten_fits (Forget n) d fits = after_forget_fits d fits order.node n
  forgotten_fits (Lookup name) d fits = fits
  forgotten_fits (Mknod mode name) d fits = fits
  forgotten_fits (Mkdir mode name) d fits = fits
  forgotten_fits (Unlink name) d fits = fits
  forgotten_fits (Rmdir name) d fits = fits
  forgotten_fits Open d fits = fits
  forgotten_fits (Release fh unlocks owner) d fits = fits
  forgotten_fits (Create excl mode name) d fits = fits
  forgotten_fits Getattr d fits = fits
  forgotten_fits (Flush fh owner) d fits = fits
  forgotten_fits (Getlk ask) d fits = fits
  forgotten_fits (Setlk ask) d fits = fits
  forgotten_fits (Setlkw ask) d fits = fits
  forgotten_fits (Interrupt unique) d fits = fits

  parked_fits : (op : Op) (parked : List Request) → FitsBody (body_of op) → All RequestFits parked
      → All RequestFits (with_waiter order (waited_for op) parked)
  parked_fits (Setlkw ask) parked own fits =
      All-push RequestFits parked (request_of order ask) fits (record { unique = said.unique; pid = own.pid })
  parked_fits (Lookup name) parked own fits = fits
  parked_fits (Forget n) parked own fits = fits
  parked_fits Getattr parked own fits = fits
  parked_fits (Mknod mode name) parked own fits = fits
  parked_fits (Mkdir mode name) parked own fits = fits
  parked_fits (Unlink name) parked own fits = fits
  parked_fits (Rmdir name) parked own fits = fits
  parked_fits Open parked own fits = fits
  parked_fits (Release fh unlocks owner) parked own fits = fits
  parked_fits (Flush fh owner) parked own fits = fits
  parked_fits (Create excl mode name) parked own fits = fits
  parked_fits (Getlk ask) parked own fits = fits
  parked_fits (Setlk ask) parked own fits = fits
  parked_fits (Interrupt unique) parked own fits = fits

  leaves : (v : View) → ViewFits v → EffectFits (leaving v)
  leaves v fits = record { view = fits; changes = none_change }

  pub at_once_fits : (own : Option (Result Answer Errno)) (v : View) → ViewFits v → IfSome own SitsResult
      → EffectFits (at_once order own v)
  at_once_fits own v fits sits = either (is_parked order.unique v.parked)
    where
      by : (o : Option (Result Answer Errno)) → IfSome o SitsResult → EffectFits (by_reply order o v)
      by None s = record {
        view = record {
          directory = forgotten_fits order.op v.directory fits.directory;
          parked = parked_fits order.op v.parked said.op fits.parked;
        };
        changes = none_change;
      }
      by (Some reply) s = record {
        view = record {
          directory = listing_fits order.op reply v.directory fits.directory s;
          parked = fits.parked;
        };
        changes = locks_fit order.op reply v.directory said.op;
      }

      either : (b : Bool) → EffectFits (if b then leaving v else by_reply order own v)
      either true = leaves v fits
      either false = by own sits

-- the request that is taken out, and the others
taken_fits : (test : Request → Bool) (parked : List Request) (p : Request × List Request) → All RequestFits parked
    → taken_first test parked ≡ Some p → RequestFits p.0 × All RequestFits p.1
unfolding taken_first
taken_fits test [] p fits e = absurd (cc e)
taken_fits test (r ∷ parked) p fits e =
    go (test r) (taken_first test parked) (λ q is. taken_fits test parked q (All-tail RequestFits r parked fits) is) e
  where
    go : (b : Bool) (o : Option (Request × List Request))
        → ((q : Request × List Request) → o ≡ Some q → RequestFits q.0 × All RequestFits q.1)
        → (if b then Some (r, parked) else option_map (λ (q : Request × List Request). (q.0, r ∷ q.1)) o) ≡ Some p
        → RequestFits p.0 × All RequestFits p.1
    go true o rest h =
        let same : (r, parked) ≡ p = cc h in
        subst (λ (q : Request × List Request). RequestFits q.0 × All RequestFits q.1) same
        (All-head RequestFits r parked fits, All-tail RequestFits r parked fits)
    go false None rest h = absurd (cc h)
    go false (Some q) rest h =
        let own = rest q refl in
        let same : (q.0, r ∷ q.1) ≡ p = cc h in
        subst (λ (x : Request × List Request). RequestFits x.0 × All RequestFits x.1) same
        (own.0, All-cons RequestFits r q.1 (All-head RequestFits r parked fits) own.1)

pub later_fits : (told : Told) (v : View) → ViewFits v → EffectFits (later told v)
later_fits told v fits =
    go (taken_out told.unique v.parked)
    (λ p is. taken_fits (λ (r : Request). r.unique == told.unique) v.parked p fits.parked is)
  where
    go : (o : Option (Request × List Request))
        → ((p : Request × List Request) → o ≡ Some p → RequestFits p.0 × All RequestFits p.1)
        → EffectFits (later_to o told.result v)
    go None own = record { view = fits; changes = none_change }
    go (Some p) own =
        let o = own p refl in
        record {
          view = record { directory = fits.directory; parked = o.1 };
          changes = locked_fits (p.0).node (p.0).ask told.result (o.0).pid;
        }

follows_fit : (f : View → Effect) (e : Effect) → EffectFits e → ((v : View) → ViewFits v → EffectFits (f v))
    → EffectFits (followed_by f e)
follows_fit f e fits keeps =
    let own = keeps e.view fits.view in
    record { view = own.view; changes = All-append ChangeFits (f e.view).changes e.changes own.changes fits.changes }

pub told_first_fits : (order : Order) → IsSayable order → (told : Told) (v : View) → ViewFits v → SitsTold told
    → EffectFits (told_first order told v)
told_first_fits order said told v fits sits = go (told.unique == order.unique)
  where
    go : (b : Bool) → EffectFits (if b then at_once order (Some told.result) v
        else followed_by (later told) (at_once order None v))
    go true = at_once_fits order said (Some told.result) v fits sits.result
    go false = follows_fit (later told) (at_once order None v) (at_once_fits order said None v fits tt) (later_fits told)

replied_fits : (order : Order) → IsSayable order → (tolds : List Told) (v : View) → ViewFits v → All SitsTold tolds
    → ViewFits (replied order tolds v).view
replied_fits order said [] v fits sits = (at_once_fits order said None v fits tt).view
replied_fits order said (told ∷ tolds) v fits sits =
    go tolds (told_first order told v)
    (told_first_fits order said told v fits (All-head SitsTold told tolds sits))
  where
    go : (more : List Told) (e : Effect) → EffectFits e
        → ViewFits (fold (λ e t. followed_by (later t) e) e more).view
    go [] e own = own.view
    go (t ∷ more) e own = go more (followed_by (later t) e) (follows_fit (later t) e own (later_fits t))

pub recorded_fits : (f : View → Effect) (s : State) → StateFits s → ((v : View) → ViewFits v → EffectFits (f v))
    → StateFits (recorded f s)
recorded_fits f s fits keeps =
    let own = keeps s.view fits.view in
    record { view = own.view; changes = All-append ChangeFits (f s.view).changes s.changes own.changes fits.changes }

-- ---- what is answered

sits_some : (b : Bool) (x y : Option (Result Answer Errno)) → IfSome x SitsResult → IfSome y SitsResult
    → IfSome (if b then x else y) SitsResult
sits_some true x y first other = first
sits_some false x y first other = other

sits_at_once : (e : Option Errno) (reply : Option (Result Answer Errno)) → IfSome reply SitsResult
    → IfSome (at_once_unless e reply) SitsResult
sits_at_once None reply sits = sits
sits_at_once (Some e) reply sits = tt

second : (x y : Bool) → (x || y) ≡ false → y ≡ false
second true y e = absurd (cc e)
second false y e = e

room_sits : (most : ℕ) (m : Marking) (s : Stroke) → SitsResult (room_reply most m s)
room_sits most m s = sits_if (nat_lt most (runs (stroked s m))) (Err ENOLCK) (Ok Done) (λ _. tt) (λ _. tt)

set_sits : (most : ℕ) (m : Marking) (s : Stroke) (mark : Option Mark) → SitsResult (set_reply most m s mark)
set_sits most m s mark =
    sits_if (conflicts_with_held m s mark) (Err EAGAIN) (room_reply most m s) (λ _. tt) (λ _. room_sits most m s)

wait_sits : (rules : Rules) (m : Marking) (parked : List Request) (s : Stroke) (mark : Option Mark)
    → IfSome (wait_reply rules m parked s mark) SitsResult
wait_sits rules m parked s mark =
    let many : Bool = nat_le rules.parked (length parked) in
    sits_some (is_deadlock rules m parked s mark) (Some (Err EDEADLK)) (if many then Some (Err ENOLCK) else None) tt
    (sits_some many (Some (Err ENOLCK)) None tt tt)

file_sits : (d : Listing) (node fh : ℕ) → SitsResult (file_reply d node fh)
file_sits d node fh = sits_if (is_open_on d fh node) (Ok Done) (Err EBADF) (λ _. tt) (λ _. tt)

taken_sits : (op : Op) → IfSome (taken_reply op) SitsResult
taken_sits (Forget n) = tt
taken_sits (Lookup name) = tt
taken_sits Getattr = tt
taken_sits (Mknod mode name) = tt
taken_sits (Mkdir mode name) = tt
taken_sits (Unlink name) = tt
taken_sits (Rmdir name) = tt
taken_sits Open = tt
taken_sits (Release fh unlocks owner) = tt
taken_sits (Flush fh owner) = tt
taken_sits (Create excl mode name) = tt
taken_sits (Getlk ask) = tt
taken_sits (Setlk ask) = tt
taken_sits (Setlkw ask) = tt
taken_sits (Interrupt unique) = tt

free_fits : (rules : Rules) (m : Marking) (older parked : List Request) (p : Request × List Request)
    → All RequestFits parked → free_behind rules m older parked ≡ Some p → RequestFits p.0 × All RequestFits p.1
unfolding free_behind
free_fits rules m older [] p fits e = absurd (cc e)
free_fits rules m older (r ∷ parked) p fits e =
    go (waits rules m older r) (free_behind rules m (older ++ r ∷ []) parked)
    (λ q is. free_fits rules m (older ++ r ∷ []) parked q (All-tail RequestFits r parked fits) is) e
  where
    go : (b : Bool) (o : Option (Request × List Request))
        → ((q : Request × List Request) → o ≡ Some q → RequestFits q.0 × All RequestFits q.1)
        → (if b then option_map (λ (q : Request × List Request). (q.0, r ∷ q.1)) o else Some (r, parked)) ≡ Some p
        → RequestFits p.0 × All RequestFits p.1
    go false o rest h =
        let same : (r, parked) ≡ p = cc h in
        subst (λ (q : Request × List Request). RequestFits q.0 × All RequestFits q.1) same
        (All-head RequestFits r parked fits, All-tail RequestFits r parked fits)
    go true None rest h = absurd (cc h)
    go true (Some q) rest h =
        let own = rest q refl in
        let same : (q.0, r ∷ q.1) ≡ p = cc h in
        subst (λ (x : Request × List Request). RequestFits x.0 × All RequestFits x.1) same
        (own.0, All-cons RequestFits r q.1 (All-head RequestFits r parked fits) own.1)

granted_sits : (most : ℕ) (m : Marking) (r : Request) → RequestFits r → SitsTold (granted_told most m r)
granted_sits most m r fits = record { unique = fits.unique; result = room_sits most m (stroke_of r.node r.ask) }

settled_sits : (rules : Rules) (n : ℕ) (m : Marking) (parked : List Request) → All RequestFits parked
    → All SitsTold (settled_within rules n m parked).tolds
unfolding settled_within
settled_sits rules zero m parked fits = All-nil SitsTold
settled_sits rules (suc n) m parked fits =
    go (λ m_now rest own. settled_sits rules n m_now rest own) (oldest_free rules m parked)
    (λ p is. free_fits rules m [] parked p fits is)
  where
    go : ((m_now : Marking) (rest : List Request) → All RequestFits rest
        → All SitsTold (settled_within rules n m_now rest).tolds)
        → (o : Option (Request × List Request))
        → ((p : Request × List Request) → o ≡ Some p → RequestFits p.0 × All RequestFits p.1)
        → All SitsTold (answered_first rules.runs m parked
        (λ p. settled_within rules n (marking_granted rules.runs m p.0) p.1) o).tolds
    go later None own = All-nil SitsTold
    go later (Some p) own =
        let o = own p refl in
        All-cons SitsTold (granted_told rules.runs m p.0)
        (settled_within rules n (marking_granted rules.runs m p.0) p.1).tolds
        (granted_sits rules.runs m p.0 o.0)
        (later (marking_granted rules.runs m p.0) p.1 o.1)

-- what `fl_ranges` says of marks, and of the lock that is named
abbrev pub LastCounts : Type 0
LastCounts = (changes : List Change) (spot : Spot) → get (marking_after changes) spot ≡ last_said changes spot

abbrev pub IsNamed : Type 0
IsNamed = (m : Marking) (key : Key) (start end : ℕ) (kind : Kind) (held : Held) → end ≤ 9223372036854775807
    → (blocker m key start end kind ≡ Some held) ↔ IsBlocker m key start end kind held

module _ (last : LastCounts) (named : IsNamed) where
  said_fits : (changes : List Change) (spot : Spot) → All ChangeFits changes → MarkFits (last_said changes spot)
  said_fits [] spot fits = tt
  said_fits (struck s ∷ changes) spot fits =
      go (said_fits changes spot (All-tail ChangeFits (struck s) changes fits)) (covers s spot)
    where
      go : MarkFits (last_said changes spot) → (b : Bool) → MarkFits (said_or (if b then Some s.mark else None) (last_said changes spot))
      go before true = All-head ChangeFits (struck s) changes fits
      go before false = before
  said_fits (cleared node ∷ changes) spot fits =
      go (said_fits changes spot (All-tail ChangeFits (cleared node) changes fits)) ((spot.0).node == node)
    where
      go : MarkFits (last_said changes spot) → (b : Bool) → MarkFits (said_or (if b then Some None else None) (last_said changes spot))
      go before true = tt
      go before false = before

  record HeldFits (held : Held) : Type 0 where
    pub start : held.start < 2 ^ 64
    pub end : held.end < 2 ^ 64
    pub pid : held.mark.pid < 2 ^ 32

  held_fits : (changes : List Change) → All ChangeFits changes → (key : Key) (start end : ℕ) (kind : Kind) (held : Held)
      → end ≤ 9223372036854775807 → blocker (marking_after changes) key start end kind ≡ Some held → HeldFits held
  held_fits changes fits key start end kind held few is =
      let b = (named (marking_after changes) key start end kind held few).0 is in
      let spot : Spot = (record key { owner = held.owner }, b.byte) in
      let marked : last_said changes spot ≡ Some held.mark = sym (last changes spot) ∙ b.conflicting.held in
      let from = b.run.from in
      let upto = b.upto in
      let bounded = b.run.bounded in
      record {
        start = omega arith;
        end = omega arith;
        pid = subst MarkFits marked (said_fits changes spot fits);
      }

  lock_sits : (ask : LockAsk) (o : Option Held) → FitsLock ask → ((held : Held) → o ≡ Some held → HeldFits held)
      → SitsAnswer (lock_answer ask o)
  lock_sits ask None fits own = (fits.start, fits.end, omega arith, fits.pid)
  lock_sits ask (Some held) fits own =
      let o = own held refl in
      (o.start, o.end, kind_fits held.mark.kind, o.pid)
    where
      kind_fits : (kind : Kind) → type_of kind < 2 ^ 32
      kind_fits Read = omega arith
      kind_fits Write = omega arith

  getlk_sits : (d : Listing) (changes : List Change) (node : ℕ) (ask : LockAsk) → All ChangeFits changes → FitsLock ask
      → SitsResult (getlk_reply d (marking_after changes) node ask)
  getlk_sits d changes node ask marks fits = go (is_open_on d ask.fh node) (is_malformed ask) (is_flock ask) refl refl
    where
      few : is_malformed ask ≡ false → is_flock ask ≡ false → ask.end ≤ 9223372036854775807
      few right record_lock =
          let late : Bool = nat_lt ask.end ask.start || nat_lt 9223372036854775807 ask.end in
          let range : (not (is_flock ask) && late) ≡ false =
          second (nat_lt 2 ask.kind) (not (is_flock ask) && late)
          (second (nat_lt 1 ask.flags) (nat_lt 2 ask.kind || (not (is_flock ask) && late)) right) in
          let both : late ≡ false = sym (ap (λ b. not b && late) record_lock) ∙ range in
          ltb-false 9223372036854775807 ask.end (second (nat_lt ask.end ask.start) (nat_lt 9223372036854775807 ask.end) both)

      test : (mark : Option Mark) → ask.end ≤ 9223372036854775807
          → SitsResult (test_reply (marking_after changes) (key_of node ask) ask mark)
      test None range = tt
      test (Some mark) range =
          lock_sits ask (blocker (marking_after changes) (key_of node ask) ask.start ask.end mark.kind) fits
          (λ held is. held_fits changes marks (key_of node ask) ask.start ask.end mark.kind held range is)

      go : (there malformed flock : Bool) → is_malformed ask ≡ malformed → is_flock ask ≡ flock
          → SitsResult (unless_error (if not there then Some EBADF else (if malformed then Some EINVAL else None))
          (if flock then Err EINVAL else test_reply (marking_after changes) (key_of node ask) ask (mark_of ask)))
      go false malformed flock right record_lock = tt
      go true true flock right record_lock = tt
      go true false true right record_lock = tt
      go true false false right record_lock = test (mark_of ask) (few right record_lock)

  module _ (order : Order) (said : IsSayable order) (s : State) (fits : StateFits s) where
    abbrev p : Snapshot
    p = snapshot_of s

    reply_sits : (op : Op) → FitsBody (body_of op) → IfSome (reply_to p.rules p.view p.marking order op) SitsResult
    reply_sits (Release fh unlocks owner) own = file_sits s.view.directory order.node fh
    reply_sits (Flush fh owner) own = file_sits s.view.directory order.node fh
    reply_sits (Getlk ask) own = getlk_sits s.view.directory s.changes order.node ask fits.changes own
    reply_sits (Setlk ask) own =
        sits_unless (ask_error s.view.directory order.node ask)
        (set_reply s.rules.runs p.marking (stroke_of order.node ask) (mark_of ask))
        (set_sits s.rules.runs p.marking (stroke_of order.node ask) (mark_of ask))
    reply_sits (Setlkw ask) own =
        let stroke : Stroke = stroke_of order.node ask in
        let waits_now : Option (Result Answer Errno) = wait_reply s.rules p.marking s.view.parked stroke (mark_of ask) in
        let now : Option (Result Answer Errno) = Some (room_reply s.rules.runs p.marking stroke) in
        let blocked : Bool = is_blocked s.rules p.marking s.view.parked stroke (mark_of ask) in
        sits_at_once (ask_error s.view.directory order.node ask) (if blocked then waits_now else now)
        (sits_some blocked waits_now now (wait_sits s.rules p.marking s.view.parked stroke (mark_of ask))
        (room_sits s.rules.runs p.marking stroke))
    reply_sits (Interrupt unique) own = sits_some (is_parked unique s.view.parked) None (Some (Err EAGAIN)) tt tt
    reply_sits (Lookup name) own = lookup_sits s.view.directory fits.view.directory order.node name
    reply_sits Getattr own = getattr_sits s.view.directory fits.view.directory order.node
    reply_sits (Mknod mode name) own =
        mknod_sits s.view.directory fits.view.directory order.node order.uid order.gid mode name said.uid said.gid
    reply_sits (Mkdir mode name) own =
        mkdir_sits s.view.directory fits.view.directory order.node order.uid order.gid mode name said.uid said.gid
    reply_sits (Unlink name) own = unlink_sits s.view.directory fits.view.directory order.node name
    reply_sits (Rmdir name) own = rmdir_sits s.view.directory fits.view.directory order.node name
    reply_sits Open own = open_sits s.view.directory fits.view.directory order.node
    reply_sits (Create excl mode name) own =
        create_sits s.view.directory fits.view.directory order.node order.uid order.gid excl mode name said.uid said.gid
    reply_sits (Forget n) own = tt

    own_sits : IfSome (own_reply p.rules p.view p.marking order) SitsResult
    own_sits = sits_some (is_parked order.unique s.view.parked) _ _ (taken_sits order.op) (reply_sits order.op said.op)

    own_tolds : (own : Option (Result Answer Errno)) → IfSome own SitsResult → All SitsTold (own_replies order own)
    own_tolds None sits = All-nil SitsTold
    own_tolds (Some result) sits =
        All-cons SitsTold _ [] (record { unique = said.unique; result = sits }) (All-nil SitsTold)

    ended_all_sit : (e : Errno) (test : Request → Bool) → All SitsTold (ended_all e test s.view.parked)
    ended_all_sit e test =
        All-map SitsTold (ended_with e) (filter test s.view.parked)
        (All-weaker RequestFits (λ r. SitsTold (ended_with e r))
        (λ r own. record { unique = own.unique; result = tt }) (filter test s.view.parked)
        (All-filter test RequestFits s.view.parked fits.view.parked))

    ended_sit : (op : Op) (own : Option (Result Answer Errno)) → All SitsTold (ended_by s.view.parked op own)
    ended_sit (Release fh unlocks owner) (Some (Ok answer)) = ended_all_sit EBADF (λ r. r.ask.fh == fh)
    ended_sit (Release fh unlocks owner) (Some (Err e)) = All-nil SitsTold
    ended_sit (Release fh unlocks owner) None = All-nil SitsTold
    ended_sit (Interrupt unique) None = ended_all_sit EINTR (λ r. r.unique == unique)
    ended_sit (Interrupt unique) (Some reply) = All-nil SitsTold
    ended_sit (Lookup name) own = All-nil SitsTold
    ended_sit (Forget n) own = All-nil SitsTold
    ended_sit Getattr own = All-nil SitsTold
    ended_sit (Mknod mode name) own = All-nil SitsTold
    ended_sit (Mkdir mode name) own = All-nil SitsTold
    ended_sit (Unlink name) own = All-nil SitsTold
    ended_sit (Rmdir name) own = All-nil SitsTold
    ended_sit Open own = All-nil SitsTold
    ended_sit (Flush fh owner) own = All-nil SitsTold
    ended_sit (Create excl mode name) own = All-nil SitsTold
    ended_sit (Getlk ask) own = All-nil SitsTold
    ended_sit (Setlk ask) own = All-nil SitsTold
    ended_sit (Setlkw ask) own = All-nil SitsTold

    first_sit : All SitsTold (first_told p order)
    first_sit =
        let own = own_reply p.rules p.view p.marking order in
        All-append SitsTold (own_replies order own) (ended p.view order own) (own_tolds own own_sits)
        (go (is_parked order.unique s.view.parked))
      where
        go : (b : Bool)
            → All SitsTold (if b then [] else ended_by s.view.parked order.op (own_reply p.rules p.view p.marking order))
        go true = All-nil SitsTold
        go false = ended_sit order.op (own_reply p.rules p.view p.marking order)

    pub replies_sit : All SitsTold (replies_in s order)
    replies_sit =
        All-append SitsTold (first_told p order) (settling (after_first p order)).tolds first_sit
        (settled_sits p.rules _ _ _ (replied_fits order said (first_told p order) s.view fits.view first_sit).parked)
