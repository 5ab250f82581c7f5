-- Replies that are collected one after another, each behind its lines.
use Rattle.std.proofs.Common.{◌≡◌, ℕ, List, [], ◌++◌, refl, sym, subst, ◌∙◌, append_assoc, append-nil}
use Rattle.std.proofs.Common.{inl, inr}
use Rattle.std.specs.Prelude.{◌⊎◌}
use mathlib.Core.List.{IsPrefix}
use Rattle.fl_desk.specs.Kept.{Book}
use Rattle.fl_session.proofs.Prefixes.{of_another, of_itself}
use Rattle.fl_session.specs.Inside.UnderWay.{WritesBehind}
use Rattle.fl_transport.specs.Collecting.{Collects, IsGiven, Outgoing}

-- nothing is collected; fl_transport has the same, and another crate's lemma can't be used
pub Collects-none : (out : Outgoing) → Collects out out []
Collects-none out = record {
  onward = λ start replies before. subst (IsGiven start out) (sym (append-nil replies)) before;
}

-- these replies, and then those
pub Collects-trans : (first between last : Outgoing) (more others : List (List ℕ)) → Collects first between more
    → Collects between last others → Collects first last (more ++ others)
Collects-trans first between last more others one two = record {
  onward = λ start replies before. subst (IsGiven start last) (append_assoc replies more others)
      (two.onward start (replies ++ more) (one.onward start replies before));
}

-- nothing is written, and nothing is stored
pub behind_none : (book : Book) (out : Outgoing) → WritesBehind book book out out
behind_none book out = (of_itself _ _ refl, inl refl)

-- what is written behind lines, and then behind the same
pub behind_on : (first between last : Book) (a b c : Outgoing) → between.lines ≡ last.lines
    → WritesBehind first between a b → WritesBehind between last b c → WritesBehind first last a c
behind_on first between last a b c same (grew, one) (grows, two) = (of_another _ _ _ grew grows, by one two)
  where
    by : (b.held ≡ a.held) ⊎ IsPrefix between.lines between.stored → (c.held ≡ b.held) ⊎ IsPrefix last.lines last.stored
        → (c.held ≡ a.held) ⊎ IsPrefix last.lines last.stored
    by one (inr all) = inr all
    by (inl kept) (inl keeps) = inl (keeps ∙ kept)
    by (inr all) (inl keeps) = inr (of_another _ _ _ (subst (λ l. IsPrefix l between.stored) same all) grows)
