-- Pieces that are read one after another.
use Rattle.std.proofs.Common.{◌≡◌, ℕ, zero, suc, ◌+◌, ◌≤◌, Option, Some, None, List, [], ◌∷◌, ◌++◌, map, length, take, drop, get_or, set, slice_get}
use Rattle.std.proofs.Common.{refl, ap, sym, ◌∙◌, subst, arith, append-nil, append_assoc, length-append}
use Rattle.std.proofs.Math.Seq.{drop-nil}
use Rattle.std.proofs.lemmas.List.{map-append, length-map}
use Rattle.std.proofs.lemmas.Option.{none-some}
use Rattle.std.specs.Prelude.{IfSome}
use Rattle.std.specs.List.{AllByRecursion}
use Rattle.std.specs.Option.{option_map}
use Rattle.fl_audit.specs.First.{IsSoOfAll}
use Rattle.fl_audit.specs.Inside.Rowing.{IsFit, IsBroken, IsTextOutcome, IsLastEnd, no_piece, last_piece, HaveRow}
use Rattle.fl_audit.specs.Inside.Seams.{end_seen}
use Rattle.fl_audit.specs.Pieces.{Piece, GoesOnFrom, BreaksAt, IsRow, none, first, next, RowBreaksAt, in_first, later}
use Rattle.fl_audit.specs.Rows.{AreLeft, IsRowFinding, IsBadRow, IsSoOfTexts}
use Rattle.fl_audit.specs.declared.row.Outcome.TheVariants.{Ends, Breaks}
use Rattle.fl_audit.specs.declared.row.RowFinding.TheVariants.{Legal, Differs}
use Rattle.fl_audit.specs.declared.seam.PieceEnd.{PieceEnd}
use Rattle.fl_history.specs.declared.history.Line.{Line}
use Rattle.fl_trace.specs.Text.{text_of, Fits, LineFits}
use Rattle.fl_trace.specs.Text as trace
use Rattle.fl_waiting.specs.declared.rules.Rules.{Rules}

-- ---- what is left to read

abbrev Left : Type 0
Left = Option (List ℕ)

-- a text that may be left: the one that is, if that is known
abbrev some_text : Left → List ℕ
some_text None = []
some_text (Some bytes) = bytes

some_left : (lefts : List Left) → AreLeft lefts (map some_text lefts)
some_left [] = tt
some_left (None ∷ lefts) = (tt, some_left lefts)
some_left (Some bytes ∷ lefts) = (refl, some_left lefts)

left_long : (lefts : List Left) (texts : List (List ℕ)) → AreLeft lefts texts → length texts ≡ length lefts
left_long [] [] are = refl
left_long [] (text ∷ texts) are = absurd are
left_long (left ∷ lefts) [] are = absurd are
left_long (left ∷ lefts) (text ∷ texts) are = let rest = left_long lefts texts are.1 in omega (arith, rest)

-- one text more
left_more : (lefts : List Left) (k : ℕ) (left : Left) (texts : List (List ℕ)) (text : List ℕ) → slice_get lefts k ≡ Some left → AreLeft (take k lefts) texts
    → IfSome left (λ bytes. bytes ≡ text) → AreLeft (take (k + 1) lefts) (texts ++ text ∷ [])
left_more [] k left texts text found are is = absurd (none-some left found)
left_more (l ∷ lefts) zero left [] text found are is =
    let same : l ≡ left = cc found in (subst (λ o. IfSome o (λ bytes. bytes ≡ text)) (sym same) is, tt)
left_more (l ∷ lefts) zero left (t ∷ texts) text found are is = absurd are
left_more (l ∷ lefts) (suc k) left [] text found are is = absurd are
left_more (l ∷ lefts) (suc k) left (t ∷ texts) text found are is =
    let after : suc k + 1 ≡ suc (k + 1) = omega arith in
    subst (λ n. AreLeft (take n (l ∷ lefts)) (t ∷ (texts ++ text ∷ []))) (sym after) (are.0, left_more lefts k left texts text found are.1 is)

-- all that is left, behind so many that were read
left_all : (lefts : List Left) (k : ℕ) (texts : List (List ℕ)) → AreLeft (take k lefts) texts → AreLeft lefts (texts ++ map some_text (drop k lefts))
left_all lefts zero [] are = some_left lefts
left_all lefts zero (t ∷ texts) are = absurd are
left_all [] (suc k) [] are = tt
left_all [] (suc k) (t ∷ texts) are = absurd are
left_all (l ∷ lefts) (suc k) [] are = absurd are
left_all (l ∷ lefts) (suc k) (t ∷ texts) are = (are.0, left_all lefts k texts are.1)

taken : (lefts : List Left) (k : ℕ) (left : Left) → slice_get lefts k ≡ Some left → length (take k lefts) ≡ k
taken [] k left found = absurd (none-some left found)
taken (l ∷ lefts) zero left found = refl
taken (l ∷ lefts) (suc k) left found = let rest = taken lefts k left found in omega (arith, rest)

all_taken : {A : Type 0} (xs : List A) (k : ℕ) → length xs ≤ k → take k xs ≡ xs
all_taken [] zero past = refl
all_taken [] (suc k) past = refl
all_taken (x ∷ xs) zero past = absurd (omega (arith, past))
all_taken (x ∷ xs) (suc k) past = ap (λ ys. x ∷ ys) (all_taken xs k (omega (arith, past)))

take_more : {A : Type 0} (xs : List A) (k : ℕ) (x : A) → slice_get xs k ≡ Some x → take (k + 1) xs ≡ take k xs ++ x ∷ []
take_more [] k x found = absurd (none-some x found)
take_more (y ∷ xs) zero x found = let same : y ≡ x = cc found in ap (λ z. z ∷ []) same
take_more (y ∷ xs) (suc k) x found =
    let after : suc k + 1 ≡ suc (k + 1) = omega arith in
    ap (λ n. take n (y ∷ xs)) after ∙ ap (λ ys. y ∷ ys) (take_more xs k x found)

all_one : {A : Type 0} (P : A → Type 0) (xs : List A) (x : A) → AllByRecursion P xs → P x → AllByRecursion P (xs ++ x ∷ [])
all_one P [] x all one = (one, tt)
all_one P (y ∷ xs) x all one = (all.0, all_one P xs x all.1 one)

-- ---- pieces in a row

abbrev texts_of : List Piece → List (List ℕ)
texts_of pieces = map (λ (piece : Piece). text_of piece.lines) pieces

abbrev rules_of : List Piece → List Rules
rules_of pieces = map (λ (piece : Piece). piece.rules) pieces

abbrev AllFit : List Piece → Type 0
AllFit pieces = AllByRecursion (λ (piece : Piece). Fits piece.lines) pieces

-- pieces in a row, and one more
row_more : (pieces : List Piece) (end : Option PieceEnd) (piece : Piece) → IsRow pieces → IsLastEnd pieces end
    → IsFit piece.rules (option_map (λ e. end_seen e) end) piece.lines → IsRow (pieces ++ piece ∷ [])
row_more pieces None piece row (no_piece e) fit = first piece fit (ap (λ ps. ps ++ piece ∷ []) e)
row_more pieces (Some f) piece row (last_piece before last e is end) fit =
    next before last piece (subst IsRow is row) (subst (λ x. GoesOnFrom x piece) end fit) (ap (λ ps. ps ++ piece ∷ []) is)

-- one that breaks the row
row_broken : (pieces : List Piece) (end : Option PieceEnd) (piece : Piece) (p n : ℕ) → IsRow pieces → IsLastEnd pieces end
    → IsBroken piece.rules (option_map (λ e. end_seen e) end) piece.lines n → p ≡ length pieces + 1 → RowBreaksAt (pieces ++ piece ∷ []) p n
row_broken pieces None piece p n row (no_piece e) broken at =
    in_first piece [] (ap (λ ps. ps ++ piece ∷ []) e) (let empty = ap length e in omega (arith, at, empty)) broken
row_broken pieces (Some f) piece p n row (last_piece before last e is end) broken at =
    later before last piece [] (ap (λ ps. ps ++ piece ∷ []) is)
    (let long = ap length is in let more = length-append before (last ∷ []) in omega (arith, at, long, more))
    (subst IsRow is row) (subst (λ x. BreaksAt x piece n) end broken)

module _ (rules : List Rules) (lefts : List Left) where
  pub row_starts : HaveRow rules lefts 0 None
  row_starts = record { pieces = []; under = refl; fits = tt; read = tt; row = none; ends = no_piece refl }

  -- how many pieces were read
  read_many : (k : ℕ) (left : Left) (end : Option PieceEnd) (have : HaveRow rules lefts k end) → slice_get lefts k ≡ Some left
      → length have.pieces ≡ k
  read_many k left end have found =
      sym (length-map have.pieces (λ (piece : Piece). text_of piece.lines)) ∙ left_long (take k lefts) (texts_of have.pieces) have.read ∙ taken lefts k left found

  -- a piece is at hand, behind those that were read: what is left of it is known, and its rules
  module _ (k : ℕ) (left : Left) (own : Rules) (end : Option PieceEnd) (have : HaveRow rules lefts k end) (found : slice_get lefts k ≡ Some left)
      (named : slice_get rules k ≡ Some own) where
    -- the texts that were read, with that one
    read_one : (text : List ℕ) → IfSome left (λ bytes. bytes ≡ text) → AreLeft (take (k + 1) lefts) (texts_of have.pieces ++ text ∷ [])
    read_one text read = left_more lefts k left (texts_of have.pieces) text found have.read read

    spelled_one : (lines : List Line) (text : List ℕ) → text ≡ text_of lines
        → texts_of (have.pieces ++ (record { rules = own; lines = lines }) ∷ []) ≡ texts_of have.pieces ++ text ∷ []
    spelled_one lines text is =
        map-append (λ (piece : Piece). text_of piece.lines) have.pieces ((record { rules = own; lines = lines }) ∷ [])
        ∙ ap (λ t. texts_of have.pieces ++ t ∷ []) (sym is)

    under_one : (lines : List Line) → take (k + 1) rules ≡ rules_of (have.pieces ++ (record { rules = own; lines = lines }) ∷ [])
    under_one lines =
        take_more rules k own named ∙ ap (λ rs. rs ++ own ∷ []) have.under
        ∙ sym (map-append (λ (piece : Piece). piece.rules) have.pieces ((record { rules = own; lines = lines }) ∷ []))

    pub row_on : (n : ℕ) (e : PieceEnd) → n ≡ k + 1
        → IsSoOfAll left (λ bytes. IsTextOutcome own (option_map (λ e. end_seen e) end) bytes (Ends e)) → HaveRow rules lefts n (Some e)
    row_on n e after so =
        let piece : Piece = record { rules = own; lines = so.is.lines } in
        record {
          pieces = have.pieces ++ piece ∷ [];
          under = ap (λ m. take m rules) after ∙ under_one so.is.lines;
          fits = all_one (λ (piece : Piece). Fits piece.lines) have.pieces piece have.fits so.is.fits;
          read = subst (λ m. AreLeft (take m lefts) (texts_of (have.pieces ++ piece ∷ []))) (sym after)
              (subst (AreLeft (take (k + 1) lefts)) (sym (spelled_one so.is.lines so.text so.is.spelled)) (read_one so.text so.read));
          row = row_more have.pieces end piece have.row have.ends so.is.is.0;
          ends = last_piece have.pieces piece e refl so.is.is.1;
        }

    pub row_ends : (p n : ℕ) → p ≡ k + 1 → IsSoOfAll left (λ bytes. IsTextOutcome own (option_map (λ e. end_seen e) end) bytes (Breaks n))
        → IsSoOfTexts lefts (λ texts. IsRowFinding rules texts (Differs (record { piece = p; line = n })))
    row_ends p n at so =
        let piece : Piece = record { rules = own; lines = so.is.lines } in
        let pieces = have.pieces ++ piece ∷ [] in
        let others = map some_text (drop (k + 1) lefts) in
        let many = read_many k left end have found in
        let more : length pieces ≡ k + 1 = length-append have.pieces (piece ∷ []) ∙ ap (λ m. m + 1) many in
        record {
          texts = texts_of pieces ++ others;
          read = left_all lefts (k + 1) (texts_of pieces)
              (subst (AreLeft (take (k + 1) lefts)) (sym (spelled_one so.is.lines so.text so.is.spelled)) (read_one so.text so.read));
          is = record {
            pieces = pieces;
            others = others;
            are = record {
              under = ap (λ m. take m rules) more ∙ under_one so.is.lines;
              spelled = refl;
              fits = all_one (λ (piece : Piece). Fits piece.lines) have.pieces piece have.fits so.is.fits;
            };
            found = row_broken have.pieces end piece p n have.row have.ends so.is.is (at ∙ ap (λ m. m + 1) (sym many));
          };
        }

    pub row_bad : (p n : ℕ) → p ≡ k + 1 → IsSoOfAll left (λ bytes. trace.BreaksAt LineFits bytes n)
        → IsSoOfTexts lefts (λ texts. IsBadRow rules texts p n)
    row_bad p n at so =
        let others = map some_text (drop (k + 1) lefts) in
        let many = read_many k left end have found in
        record {
          texts = (texts_of have.pieces ++ so.text ∷ []) ++ others;
          read = left_all lefts (k + 1) (texts_of have.pieces ++ so.text ∷ []) (read_one so.text so.read);
          is = record {
            pieces = have.pieces;
            bad = so.text;
            others = others;
            are = record {
              under = ap (λ m. take m rules) many ∙ have.under;
              spelled = append_assoc (texts_of have.pieces) (so.text ∷ []) others;
              fits = have.fits;
            };
            row = have.row;
            number = at ∙ ap (λ m. m + 1) (sym many);
            breaks = so.is;
          };
        }

  pub row_done : (k : ℕ) (end : Option PieceEnd) → HaveRow rules lefts k end → length lefts ≤ k → length rules ≡ length lefts
      → IsSoOfTexts lefts (λ texts. IsRowFinding rules texts Legal)
  row_done k end have past same =
      let many : length have.pieces ≡ length lefts =
      sym (length-map have.pieces (λ (piece : Piece). text_of piece.lines)) ∙ left_long (take k lefts) (texts_of have.pieces) have.read
      ∙ ap length (all_taken lefts k past) in
      let all : take k rules ≡ rules = all_taken rules k (omega (arith, past, same)) in
      let mine : take (length have.pieces) rules ≡ rules = all_taken rules (length have.pieces) (omega (arith, many, same)) in
      record {
        texts = texts_of have.pieces;
        read = subst (λ ls. AreLeft ls (texts_of have.pieces)) (all_taken lefts k past) have.read;
        is = record {
          pieces = have.pieces;
          others = [];
          are = record { under = mine ∙ sym all ∙ have.under; spelled = sym (append-nil (texts_of have.pieces)); fits = have.fits };
          found = (have.row, refl);
        };
      }

-- ---- what is left of a list

-- an item in the place of one that is seen as it
pub seen_alike : {A B : Type 0} (f : A → B) (xs : List A) (k : ℕ) (x d : A) → f x ≡ f (get_or xs k d) → map f (set xs k x) ≡ map f xs
seen_alike f [] k x d same = refl
seen_alike f (y ∷ xs) zero x d same = ap (λ z. z ∷ map f xs) same
seen_alike f (y ∷ xs) (suc k) x d same = ap (λ zs. f y ∷ zs) (seen_alike f xs k x d same)

module _ {A : Type 0} where
  pub drop_more : (xs ys : List A) (k : ℕ) → drop k xs ≡ drop k ys → drop (k + 1) xs ≡ drop (k + 1) ys
  drop_more xs ys k same = sym (twice xs k) ∙ ap (drop 1) same ∙ twice ys k
    where
      twice : (zs : List A) (k : ℕ) → drop 1 (drop k zs) ≡ drop (k + 1) zs
      twice zs zero = refl
      twice [] (suc k) = sym (drop-nil (suc k + 1))
      twice (z ∷ zs) (suc k) = let after : suc k + 1 ≡ suc (k + 1) = omega arith in twice zs k ∙ ap (λ n. drop n (z ∷ zs)) (sym after)

  pub same_at : (xs ys : List A) (k : ℕ) (x : A) → drop k xs ≡ drop k ys → slice_get xs k ≡ Some x → slice_get ys k ≡ Some x
  same_at xs ys k x same found = sym (top ys k) ∙ ap (λ l. slice_get l 0) (sym same) ∙ top xs k ∙ found
    where
      top : (zs : List A) (k : ℕ) → slice_get (drop k zs) 0 ≡ slice_get zs k
      top zs zero = refl
      top [] (suc k) = refl
      top (z ∷ zs) (suc k) = top zs k
