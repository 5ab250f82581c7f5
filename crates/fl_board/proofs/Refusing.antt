-- Why a board refuses.
use Rattle.std.proofs.Common.{◌≡◌, ℕ, ◌<◌, true, false, List, ◌∷◌, length, subst}
use Rattle.std.proofs.Math.ListN.{get_or}
use Rattle.std.proofs.lemmas.List.Elements.{All-head, All-tail}
use Rattle.fl_board.specs.Refused.{BeginsWith, FallsShort}
use Rattle.fl_record.specs.Seats.{Place}
use Rattle.fl_desk.specs.Legal.{IsLegal}
use Rattle.fl_history.specs.declared.history.Line.{Line}
use Rattle.fl_waiting.specs.declared.rules.Rules.{Rules}

-- a history that doesn't begin with what one worker handed in and was shown falls short of it, and of more workers
pub short_of_first : (rules : Rules) (lines : List Line) (place : Place) (others : List Place) → IsLegal rules lines
    → (BeginsWith lines place → ⊥) → FallsShort rules (place ∷ others)
short_of_first rules lines place others legal short = record {
  lines = lines;
  legal = legal;
  short = λ all. short (All-head (BeginsWith lines) place others all);
}

pub short_at : (rules : Rules) (lines : List Line) (places : List Place) (i : ℕ) (place : Place) → IsLegal rules lines
    → i < length places → get_or places i place ≡ place → (BeginsWith lines place → false ≡ true) → FallsShort rules places
short_at rules lines places i place legal lt is short = record {
  lines = lines;
  legal = legal;
  short = λ all. cc (short (subst (BeginsWith lines) is (all i place lt)));
}

pub short_of_second : (rules : Rules) (lines : List Line) (first place : Place) (others : List Place) → IsLegal rules lines
    → (BeginsWith lines place → ⊥) → FallsShort rules (first ∷ place ∷ others)
short_of_second rules lines first place others legal short = record {
  lines = lines;
  legal = legal;
  short = λ all. short (All-head (BeginsWith lines) place others (All-tail (BeginsWith lines) first (place ∷ others) all));
}
