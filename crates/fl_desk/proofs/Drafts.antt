-- A head that is told part by part is a head of what is there.
use Rattle.std.proofs.Common.{◌≡◌, ℕ, true, List, [], ◌∷◌, ◌++◌, map, append_assoc, append-nil, refl, ap, sym, ◌∙◌}
use Rattle.std.proofs.lemmas.List.{map-append}
use Rattle.std.specs.List.{fold}
use Rattle.fl_core.specs.State.{Snapshot, snapshot_of}
use Rattle.fl_desk.proofs.Heads.{read_head}
use Rattle.fl_desk.proofs.Telling.{told_head}
use Rattle.fl_desk.specs.Heads.{IsHead, NamesRules, begun_lines, head_lines}
use Rattle.fl_desk.specs.Inside.Drafts.{Draft, draft_of, drafted, part_line}
use Rattle.fl_desk.specs.Replay.{state_after}
use Rattle.fl_history.specs.Place.{place_of, with_place}
use Rattle.fl_history.specs.declared.history.Line.{Line}
use Rattle.fl_history.specs.declared.history.Line.TheVariants as line
use Rattle.fl_history.specs.declared.place.Place.{Place}
use Rattle.fl_order.specs.declared.state_part.Head.{Head}
use Rattle.fl_order.specs.declared.state_part.StateLine.TheVariants as state
use Rattle.fl_order.specs.declared.state_part.StatePart.{StatePart}
use Rattle.fl_state.specs.Telling.{Tells}

-- ---- the parts at the end of lines, and the others, are all lines

-- the lines of a draft
abbrev lines_of : Draft → List Line
lines_of d = d.front ++ map part_line d.parts

one_part : (d : Draft) (part : StatePart) (lines : List Line)
    → lines_of (drafted d (part_line part)) ++ lines ≡ lines_of d ++ part_line part ∷ lines
one_part d part lines =
    ap (λ l. (d.front ++ l) ++ lines) (map-append part_line d.parts (part ∷ []))
    ∙ ap (λ l. l ++ lines) (sym (append_assoc d.front (map part_line d.parts) (part_line part ∷ [])))
    ∙ append_assoc (lines_of d) (part_line part ∷ []) lines

one_other : (d : Draft) (other : Line) (lines : List Line) → ((lines_of d ++ other ∷ []) ++ []) ++ lines ≡ lines_of d ++ other ∷ lines
one_other d other lines =
    ap (λ l. l ++ lines) (append-nil (lines_of d ++ other ∷ [])) ∙ append_assoc (lines_of d) (other ∷ []) lines

all_drafted : (d : Draft) (lines : List Line) → lines_of (fold drafted d lines) ≡ lines_of d ++ lines
all_drafted d [] = sym (append-nil (lines_of d))
all_drafted d (line.Asked worker order ∷ lines) =
    all_drafted (drafted d (line.Asked worker order)) lines ∙ one_other d (line.Asked worker order) lines
all_drafted d (line.Told told ∷ lines) = all_drafted (drafted d (line.Told told)) lines ∙ one_other d (line.Told told) lines
all_drafted d (line.State (state.Head head) ∷ lines) =
    all_drafted (drafted d (line.State (state.Head head))) lines ∙ one_other d (line.State (state.Head head)) lines
all_drafted d (line.State (state.Part part) ∷ lines) = all_drafted (drafted d (part_line part)) lines ∙ one_part d part lines
all_drafted d (line.State state.Go ∷ lines) =
    all_drafted (drafted d (line.State state.Go)) lines ∙ one_other d (line.State state.Go) lines

drafted_is : (lines : List Line) → lines_of (draft_of lines) ≡ lines
drafted_is lines = all_drafted (record { front = []; parts = [] }) lines

-- ---- where a head ends

parts_placed : (n : ℕ) (parts : List StatePart)
    → fold with_place (record { headed = true; lines = n }) (map part_line parts ++ line.State state.Go ∷ [])
    ≡ (let p : Place = record { headed = true; lines = n } in p)
parts_placed n [] = refl
parts_placed n (part ∷ parts) = parts_placed n parts

head_placed : (head : Head) (parts : List StatePart) → (place_of (head_lines head parts)).lines ≡ head.lines
head_placed head parts = ap (λ (p : Place). p.lines) (parts_placed head.lines parts)

-- ---- the head of what is there

pub record IsDrafted (p : Snapshot) (lines : ℕ) (draft : List Line) : Type 0 where
  pub told : IsHead p.rules draft
  pub same : snapshot_of (state_after p.rules draft) ≡ p
  pub counted : (place_of draft).lines ≡ lines

pub drafted_head : (p : Snapshot) (head : Head) (none begun told whole : List Line) → NamesRules head p.rules
    → head.node ≡ p.view.directory.next_node → head.fh ≡ p.view.directory.next_fh → none ≡ []
    → begun ≡ none ++ line.State (state.Head head) ∷ [] → (draft_of told).front ≡ (draft_of begun).front
    → Tells p (draft_of begun).parts (draft_of told).parts → whole ≡ told ++ line.State state.Go ∷ [] → IsDrafted p head.lines whole
drafted_head p head none begun told whole names node fh is_none is_begun front tells is_whole =
    let parts = (draft_of told).parts in
    let first : draft_of begun ≡ draft_of (line.State (state.Head head) ∷ []) =
    ap draft_of (is_begun ∙ ap (λ l. l ++ line.State (state.Head head) ∷ []) is_none) in
    let so = told_head p head (draft_of begun).parts parts names node fh (ap (λ (d : Draft). d.parts) first) tells in
    let all : told ≡ begun_lines head parts =
    sym (drafted_is told) ∙ ap (λ l. l ++ map part_line parts) (front ∙ ap (λ (d : Draft). d.front) first) in
    let is : whole ≡ head_lines head parts = is_whole ∙ ap (λ l. l ++ line.State state.Go ∷ []) all in
    record {
      told = record { head = head; parts = parts; spelled = is; told = so.0 };
      same = ap (λ l. snapshot_of (state_after p.rules l)) is ∙ ap snapshot_of (read_head p.rules head parts) ∙ so.1;
      counted = ap (λ l. (place_of l).lines) is ∙ head_placed head parts;
    }
