-- How later replies are read: those of settling, and those that end requests.
use Rattle.std.proofs.Common.{◌≡◌, Bool, true, false, not, cond, Some, Err, List, [], ◌∷◌, ◌++◌, append_assoc, map}
use Rattle.std.proofs.Common.{refl, sym, ap, ◌∙◌, subst}
use Rattle.std.specs.List.{filter}
use Rattle.fl_core.specs.State.{Snapshot}
use Rattle.fl_waiting.specs.Waiting.{taken_out, AreApart}
use Rattle.fl_core.specs.Effects.{later_to, made}
use Rattle.fl_core.specs.Inside.Parts.{with_parked}
use Rattle.fl_core.specs.Replies.{ended_with, ended_all}
use Rattle.fl_core.specs.Settling.{Present, present, granted_told, marking_granted, IsSettled, done, one}
use Rattle.fl_core.specs.Step.{with_present, settling}
use Rattle.fl_waiting.specs.declared.parked.Request.{Request}
use Rattle.fl_waiting.specs.declared.rules.Rules.{Rules}
use Rattle.fl_core.proofs.Effects.{made_all}
use Rattle.fl_core.proofs.Settlings.{is_settled}
use Rattle.fl_core.proofs.Taken.{taken_there, apart_without}
use Rattle.fl_order.specs.declared.errno.Errno.{Errno}
use Rattle.fl_order.specs.declared.told.Told.{Told}

-- the replies of settling leave what settling leaves
read_settled : {rules : Rules} {s after : Present} {tolds : List Told} → IsSettled rules s tolds after → (p : Snapshot) → present p.marking p.view.parked ≡ s → AreApart s.parked
    → made_all tolds p ≡ with_present after p
read_settled {rules} (done all) p e apart = ap (λ (s : Present). with_present s p) e
read_settled {rules} (one {m} {parked} {tolds} {after} older r younger stands all free rest) p e apart =
    let w = apart_without older r younger (subst AreApart stands apart) in
    let there : taken_out r.unique p.view.parked ≡ Some (r, older ++ younger) = ap (λ (s : Present). taken_out r.unique s.parked) e
    ∙ ap (taken_out r.unique) stands ∙ taken_there older r younger w.0 in
    let next : Snapshot = with_present (present (marking_granted rules.runs m r) (older ++ younger)) p in
    let first : made (λ v. later_to (taken_out r.unique v.parked) (granted_told rules.runs m r).result v) p ≡ next =
    ap (λ o. made (λ v. later_to o (granted_told rules.runs m r).result v) p) there
    ∙ ap (λ (s : Present). made (λ v. later_to (Some (r, older ++ younger)) (granted_told rules.runs m r).result v) (record p { marking = s.marking })) e in
    ap (made_all tolds) first ∙ read_settled rest next refl w.1

pub settled_read : (p : Snapshot) → AreApart p.view.parked → made_all (settling p).tolds p ≡ with_present (settling p).present p
settled_read p apart = read_settled (is_settled p.rules (present p.marking p.view.parked)) p refl apart

-- the replies that end requests leave the others
module _ (e : Errno) (test : Request → Bool) where
  abbrev others : List Request → List Request
  others parked = filter (λ r. not (test r)) parked

  read_from : (p : Snapshot) (older younger : List Request) → AreApart (older ++ younger)
      → made_all (ended_all e test younger) (with_parked (older ++ younger) p) ≡ with_parked (older ++ others younger) p
  read_from p older [] apart = refl
  read_from p older (r ∷ younger) apart =
      go (test r) refl (read_from p older younger (apart_without older r younger apart).1)
      (read_from p (older ++ r ∷ []) younger (subst AreApart (sym moved) apart))
    where
      moved : (older ++ r ∷ []) ++ younger ≡ older ++ r ∷ younger
      moved = append_assoc older (r ∷ []) younger

      now : Snapshot
      now = with_parked (older ++ r ∷ younger) p

      go : (b : Bool) → test r ≡ b → made_all (ended_all e test younger) (with_parked (older ++ younger) p) ≡ with_parked (older ++ others younger) p
          → made_all (ended_all e test younger) (with_parked ((older ++ r ∷ []) ++ younger) p) ≡ with_parked ((older ++ r ∷ []) ++ others younger) p
          → made_all (ended_all e test (r ∷ younger)) (with_parked (older ++ r ∷ younger) p) ≡ with_parked (older ++ others (r ∷ younger)) p
      go true is gone left =
          ap (λ b. made_all (map (ended_with e) (cond b (r ∷ filter test younger) (filter test younger))) now) is
          ∙ ap (λ o. made_all (ended_all e test younger) (made (λ v. later_to o (Err e) v) now))
          (taken_there older r younger (apart_without older r younger apart).0)
          ∙ gone ∙ ap (λ b. with_parked (older ++ cond (not b) (r ∷ others younger) (others younger)) p) (sym is)
      go false is gone left =
          ap (λ b. made_all (map (ended_with e) (cond b (r ∷ filter test younger) (filter test younger))) now) is
          ∙ ap (λ xs. made_all (ended_all e test younger) (with_parked xs p)) (sym moved)
          ∙ left ∙ ap (λ xs. with_parked xs p) (append_assoc older (r ∷ []) (others younger))
          ∙ ap (λ b. with_parked (older ++ cond (not b) (r ∷ others younger) (others younger)) p) (sym is)

  pub ended_read : (p : Snapshot) → AreApart p.view.parked → made_all (ended_all e test p.view.parked) p ≡ with_parked (others p.view.parked) p
  ended_read p apart = read_from p [] p.view.parked apart
