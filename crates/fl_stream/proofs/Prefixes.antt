-- Lists that begin with others, and the lines that a stream has stored.
use Rattle.std.proofs.Common.{◌≡◌, ◌≢◌, ℕ, ◌<◌, List, [], ◌∷◌, ◌++◌, refl, ap, sym, ◌∙◌, subst, arith, append_assoc}
use Rattle.std.proofs.lemmas.List.{append-nil}
use mathlib.Core.List.{IsPrefix}
use Rattle.fl_history.specs.declared.history.Line.{Line}
use Rattle.fl_stream.specs.Streams.{Stream, stored_by}
use Rattle.fl_stream.specs.declared.manner.WhenWriterFails.{WhenWriterFails}
use Rattle.fl_stream.specs.declared.manner.WhenWriterFails.TheVariants.{GoOn, Refuse, End}

module _ {X : Type 0} where
  pub of_itself : (xs ys : List X) → ys ≡ xs → IsPrefix xs ys
  of_itself xs ys same = ([], append-nil xs ∙ sym same)

  pub of_one_more : (xs ys : List X) (x : X) → ys ≡ xs ++ x ∷ [] → IsPrefix xs ys
  of_one_more xs ys x more = (x ∷ [], sym more)

  pub of_another : (xs ys zs : List X) → IsPrefix xs ys → IsPrefix ys zs → IsPrefix xs zs
  of_another xs ys zs p q = (p.0 ++ q.0, sym (append_assoc xs p.0 q.0) ∙ ap (λ l. l ++ q.0) p.1 ∙ q.1)

-- more lines, and more of them noted, are more that are stored
more_stored : (manner : WhenWriterFails) (lines lines_now noted noted_now : List Line) → IsPrefix lines lines_now
    → IsPrefix noted noted_now → IsPrefix (stored_by manner lines noted) (stored_by manner lines_now noted_now)
more_stored GoOn lines lines_now noted noted_now all some = all
more_stored Refuse lines lines_now noted noted_now all some = some
more_stored End lines lines_now noted noted_now all some = some

-- a line came, and no more were noted
pub stored_behind : (s t : Stream) (line : Line) → t.manner ≡ s.manner → t.lines ≡ s.lines ++ line ∷ [] → t.noted ≡ s.noted
    → IsPrefix (stored_by s.manner s.lines s.noted) (stored_by t.manner t.lines t.noted)
stored_behind s t line same lines noted =
    subst (λ manner. IsPrefix (stored_by s.manner s.lines s.noted) (stored_by manner t.lines t.noted)) (sym same)
    (more_stored s.manner s.lines t.lines s.noted t.noted (of_one_more s.lines t.lines line lines) (of_itself s.noted t.noted noted))

-- where room for a line shows that nothing waits
pub none_waits : (xs : List ℕ) (room : ℕ) → (xs ≢ [] → room ≡ 0) → 0 < room → xs ≡ []
none_waits [] room none some = refl
none_waits (x ∷ xs) room none some = absurd (omega (arith, none (λ e. cc e), some))
