-- A session that heard the last lines before a head recalls the same as one that has all lines.
use Rattle.std.proofs.Common.{◌≡◌, ℕ, suc, ◌+◌, ◌-◌, ◌≤◌, true, List, [], ◌∷◌, ◌++◌, drop, length, length-append, map}
use Rattle.std.proofs.Common.{append_assoc, refl, sym, ap, ◌∙◌, inl, inr, arith}
use Rattle.std.specs.Prelude.{◌⊎◌}
use Rattle.std.proofs.lemmas.List.Elements.{filter-append}
use Rattle.fl_core.specs.State.{snapshot_of}
use Rattle.fl_desk.specs.Heads.{IsHead, head_lines}
use Rattle.fl_desk.specs.Leading.{LeadsTo}
use Rattle.fl_desk.specs.Legal.{IsLegal}
use Rattle.fl_desk.specs.Replay.{state_after}
use Rattle.fl_history.specs.Recent.{is_spoken, recalled, recent, spoken}
use Rattle.fl_history.specs.declared.history.Line.{Line}
use Rattle.fl_history.specs.declared.history.Line.TheVariants as line
use Rattle.fl_order.specs.declared.state_part.Head.{Head}
use Rattle.fl_order.specs.declared.state_part.StateLine.TheVariants as state
use Rattle.fl_order.specs.declared.state_part.StatePart.{StatePart}
use Rattle.lockd_serve.specs.Alike.{AreAlike, IsHeardEnough}
use Rattle.fl_session.specs.Session.{session_behind}
use Rattle.fl_waiting.specs.declared.rules.Rules.{Rules}

-- fl_session has the same, and another crate's lemma can't be used
spoken_long : (front back : List Line) → length (spoken (front ++ back)) ≡ length (spoken front) + length (spoken back)
spoken_long front back =
    ap length (filter-append is_spoken front back) ∙ length-append (spoken front) (spoken back)

-- ---- the last of a list

drop_past : (xs ys : List Line) (n : ℕ) → drop (length xs + n) (xs ++ ys) ≡ drop n ys
drop_past [] ys n = ap (λ k. drop k ys) (none n)
  where
    none : (k : ℕ) → 0 + k ≡ k
    none k = omega arith
drop_past (x ∷ xs) ys n = ap (λ k. drop k (x ∷ (xs ++ ys))) (one (length xs) n) ∙ drop_past xs ys n
  where
    one : (a b : ℕ) → suc a + b ≡ suc (a + b)
    one a b = omega arith

last_of : (before last : List Line) → 65536 ≤ length last
    → drop (length (before ++ last) - 65536) (before ++ last) ≡ drop (length last - 65536) last
last_of before last many =
    let all = length-append before last in
    let at : length (before ++ last) - 65536 ≡ length before + (length last - 65536) = omega (arith, all, many) in
    ap (λ k. drop k (before ++ last)) at ∙ drop_past before last (length last - 65536)

-- lines whose orders and replies are the last of others, all of them or enough
recent_same : (whole last before : List Line) → spoken whole ≡ before ++ spoken last
    → (before ≡ []) ⊎ (65536 ≤ length (spoken last)) → recent last ≡ recent whole
recent_same whole last before is (inl none) =
    ap (λ l. drop (length l - 65536) l) (sym (is ∙ ap (λ l. l ++ spoken last) none))
recent_same whole last before is (inr many) =
    sym (last_of before (spoken last) many) ∙ ap (λ l. drop (length l - 65536) l) (sym is)

-- ---- lines of a head

parts_unspoken : (parts : List StatePart)
    → spoken (map (λ part. line.State (state.Part part)) parts ++ line.State state.Go ∷ []) ≡ []
parts_unspoken [] = refl
parts_unspoken (part ∷ parts) = parts_unspoken parts

pub head_unspoken : (head : Head) (parts : List StatePart) → spoken (head_lines head parts) ≡ []
head_unspoken head parts = parts_unspoken parts

-- ---- lines that were heard before a head

-- the orders and replies behind a head are those of the lines without it
without_head : (heard head rest : List Line) → spoken head ≡ [] → spoken (heard ++ (head ++ rest)) ≡ spoken (heard ++ rest)
without_head heard head rest none =
    filter-append is_spoken heard (head ++ rest)
    ∙ ap (λ l. spoken heard ++ l) (filter-append is_spoken head rest ∙ ap (λ l. l ++ spoken rest) none)
    ∙ sym (filter-append is_spoken heard rest)

-- the last lines of a list, if they are enough
pub last_heard : (front heard rest : List Line) → (spoken front ≡ []) ⊎ (65536 ≤ length (spoken (heard ++ rest)))
    → IsHeardEnough (front ++ heard) heard rest
last_heard front heard rest enough =
    record { before = spoken front; is = filter-append is_spoken front heard; enough = enough }

pub recalls_alike : (earlier whole heard head rest : List Line) → spoken head ≡ []
    → IsHeardEnough (earlier ++ whole) heard rest → (unique : ℕ) (more : List Line)
    → recalled unique (recent (heard ++ ((head ++ rest) ++ more)))
    ≡ recalled unique (recent (earlier ++ ((whole ++ rest) ++ more)))
recalls_alike earlier whole heard head rest none it unique more =
    ap (recalled unique) (recent_same all piece it.before is (enough it.enough))
  where
    all : List Line
    all = earlier ++ ((whole ++ rest) ++ more)

    piece : List Line
    piece = heard ++ ((head ++ rest) ++ more)

    said : spoken piece ≡ spoken (heard ++ (rest ++ more))
    said = ap (λ l. spoken (heard ++ l)) (append_assoc head rest more) ∙ without_head heard head (rest ++ more) none

    is : spoken all ≡ it.before ++ spoken piece
    is =
        ap (λ l. spoken (earlier ++ l)) (append_assoc whole rest more)
        ∙ ap spoken (sym (append_assoc earlier whole (rest ++ more)))
        ∙ filter-append is_spoken (earlier ++ whole) (rest ++ more)
        ∙ ap (λ l. l ++ spoken (rest ++ more)) it.is
        ∙ append_assoc it.before (spoken heard) (spoken (rest ++ more))
        ∙ ap (λ l. it.before ++ l) (sym (filter-append is_spoken heard (rest ++ more)) ∙ sym said)

    enough : (it.before ≡ []) ⊎ (65536 ≤ length (spoken (heard ++ rest))) → (it.before ≡ []) ⊎ (65536 ≤ length (spoken piece))
    enough (inl nothing) = inl nothing
    enough (inr many) =
        let long = ap length said in
        let both = spoken_long heard (rest ++ more) in
        let behind = spoken_long rest more in
        let front = spoken_long heard rest in
        inr (omega (arith, many, long, both, behind, front))

-- ---- a session behind a piece

-- what is known of legal histories and of pieces
pub record ArePieces : Type 0 where
  pub leads : (rules : Rules) (lines : List Line) → IsLegal rules lines → LeadsTo lines (snapshot_of (state_after rules lines))
  pub rules : (rules : Rules) (lines : List Line) → (state_after rules lines).rules ≡ rules
  pub piece : (rules : Rules) (before head rest : List Line) → IsLegal rules before → IsHead rules head
      → snapshot_of (state_after rules head) ≡ snapshot_of (state_after rules before) → IsLegal rules (head ++ rest)
      → LeadsTo (before ++ rest) (snapshot_of (state_after rules (head ++ rest)))

pub behind_alike : ArePieces → (rules : Rules) (earlier before heard head rest : List Line) → IsLegal rules before
    → IsHead rules head → snapshot_of (state_after rules head) ≡ snapshot_of (state_after rules before)
    → IsLegal rules (head ++ rest) → IsHeardEnough (earlier ++ before) heard rest
    → AreAlike (session_behind rules earlier (before ++ rest) true) (session_behind rules heard (head ++ rest) true)
behind_alike laws rules earlier before heard head rest legal is_head tells piece it = record {
  present = snapshot_of (state_after rules (head ++ rest));
  s_leads = laws.piece rules before head rest legal is_head tells piece;
  t_leads = laws.leads rules (head ++ rest) piece;
  s_rules = laws.rules rules (head ++ rest);
  t_rules = laws.rules rules (head ++ rest);
  resends = refl;
  handshake = refl;
  refused = refl;
  recalled = recalls_alike earlier before heard head rest
      (ap spoken is_head.spelled ∙ head_unspoken is_head.head is_head.parts) it;
}
