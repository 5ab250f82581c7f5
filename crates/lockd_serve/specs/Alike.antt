-- Two sessions whose lines differ, and lead to the same: one goes on behind all lines, and the other behind a head that
-- tells what is there after the first of them.
use Rattle.std.specs.Prelude.{◌≡◌, ◌⊎◌, ℕ, ◌≤◌, List, [], ◌++◌, length}
use Rattle.fl_core.specs.State.{Snapshot}
use Rattle.fl_desk.specs.Leading.{LeadsTo}
use Rattle.fl_history.specs.Recent.{recalled, recent, spoken}
use Rattle.fl_history.specs.declared.history.Line.{Line}
use Rattle.fl_session.specs.Session.{Session}

-- Two sessions are as far under the same rules, and their lines lead to the same. With those that each heard before,
-- and with any lines behind, these say the same of each unique.
pub record AreAlike (s t : Session) : Type 0 where
  pub present : Snapshot
  pub s_leads : LeadsTo s.lines present
  pub t_leads : LeadsTo t.lines present
  pub s_rules : present.rules ≡ s.rules
  pub t_rules : present.rules ≡ t.rules
  pub resends : t.resends ≡ s.resends
  pub handshake : t.handshake ≡ s.handshake
  pub refused : t.refused ≡ s.refused
  pub recalled : (unique : ℕ) (more : List Line) → recalled unique (recent (t.heard ++ (t.lines ++ more)))
      ≡ recalled unique (recent (s.heard ++ (s.lines ++ more)))

-- two sessions sent the same and added the same lines, behind what each had
pub record DoTheSame (s t s_now t_now : Session) : Type 0 where
  pub replies : List (List ℕ)
  pub lines : List Line
  pub s_sent : s_now.replies ≡ s.replies ++ replies
  pub t_sent : t_now.replies ≡ t.replies ++ replies
  pub s_kept : s_now.lines ≡ s.lines ++ lines
  pub t_kept : t_now.lines ≡ t.lines ++ lines

-- Some lines were heard before a head, behind which these last ones stand. Their orders and replies are the last of
-- `whole`: all of them, or as many that there are 65,536 with those of the last ones.
pub record IsHeardEnough (whole heard last : List Line) : Type 0 where
  pub before : List Line
  pub is : spoken whole ≡ before ++ spoken heard
  pub enough : (before ≡ []) ⊎ (65536 ≤ length (spoken (heard ++ last)))
