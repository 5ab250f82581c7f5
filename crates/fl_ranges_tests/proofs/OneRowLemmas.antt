-- One row of spans, before and after a change.
use Rattle.std.proofs.Common.{◌≡◌, ◌≤◌, false, List, [], ◌∷◌, length, set, slice_get, get_or, refl, sym, ap, ◌∙◌, subst}
use Rattle.std.proofs.Common.{arith}
use Rattle.std.proofs.Common.{Option, None, Some, Result, Ok, Err, OnOk, OnErr, Bor}
use Rattle.std.specs.List.{insert}
use Rattle.std.specs.Option.{is_some, option_copied}
use Rattle.std.proofs.lemmas.List.{get_or-set_same}
use Rattle.fl_arena.specs.declared.cursors.Cursor.{Cursor}
use Rattle.fl_spans.specs.Rows.{Row, RowChains, chain_count, row_lists, rows, keys, runs_at, with_runs, row_cursor}
use Rattle.fl_spans.specs.Rows.{HasRoomOf}
use Rattle.fl_spans.specs.Row.{with_spans}
use Rattle.fl_spans.specs.declared.span.Span.{Span}
use Rattle.fl_spans.specs.Spans.{IsSpan, AreSpans}
use Rattle.fl_ranges_tests.specs.OneRow.{IsOneRow}

module _ {K M : Type 0} where
  abbrev AreOne : List (Row K (Span M)) → Type 0
  AreOne rs = (length rs ≤ 1) × AreSpans (runs_at rs 0)

  one_with : (rs : List (Row K (Span M))) (ss : List (Span M)) → length rs ≤ 1 → AreSpans ss → AreOne (with_runs rs 0 ss)
  one_with [] ss few are = (omega arith, tt)
  one_with (r ∷ []) [] few are = (omega arith, tt)
  one_with (r ∷ []) (s ∷ ss) few are = (omega arith, are)
  one_with (r ∷ q ∷ rs) ss few are = absurd (omega (arith, few))

  -- the rows once the first chain has others
  from_rows : (old new : RowChains K (Span M)) (rs : List (Row K (Span M))) → IsOneRow old → chain_count new ≡ chain_count old →
      row_lists new ≡ set (row_lists old) 0 rs → AreOne rs → IsOneRow new
  from_rows old new rs was chains is one =
      let here : rows new 0 ≡ rs = ap (λ l. get_or l 0 []) is ∙ get_or-set_same (row_lists old) 0 rs [] (let count = was.chains in omega (arith, count)) in
      record {
        chains = chains ∙ was.chains;
        few = rw here one.0;
        spans = rw here one.1;
      }

  -- its row has other spans, or nothing was changed
  pub struck_row : {E : Type 0} (result : Result (Unit {0}) E) (old new : RowChains K (Span M)) (row : Cursor) (ss : List (Span M)) → IsOneRow old →
      row ≡ row_cursor old 0 0 → HasRoomOf old new → OnOk result (row_lists new ≡ with_spans old row ss) → OnErr result (new ≡ old) → AreSpans ss →
      IsOneRow new
  struck_row (Ok v) old new row ss was first size is same are =
      from_rows old new (with_runs (rows old 0) 0 ss) was size.chains
      (is ∙ (λ t. with_spans old (first t) ss)) (one_with (rows old 0) ss was.few are)
  struck_row (Err e) old new row ss was first size is same are = subst IsOneRow (sym same) was

  abbrev new_row : K → Span M → Row K (Span M)
  new_row k s = record { key = k; runs = s ∷ [] }

  -- a row comes if there was none, or nothing was changed
  pub first_row : {E : Type 0} (result : Result (Unit {0}) E) (old new : RowChains K (Span M)) (row : Cursor) (key : Option (Bor K)) (k : K)
      (s : Span M) → IsOneRow old → row ≡ row_cursor old 0 0 → option_copied key ≡ slice_get (keys (rows old row.chain)) row.index →
      is_some key ≡ false → HasRoomOf old new →
      OnOk result (row_lists new ≡ set (row_lists old) row.chain (insert (rows old row.chain) row.index (new_row k s))) →
      OnErr result (new ≡ old) → IsSpan s → IsOneRow new
  first_row (Ok v) old new row key k s was first is_key no_key size is same span =
      let at_first = is_key ∙ (λ t. slice_get (keys (rows old (first t).chain)) (first t).index) in
      let empty : rows old 0 ≡ [] = no_rows key (rows old 0) at_first no_key in
      from_rows old new (insert (rows old 0) 0 (new_row k s)) was size.chains
      (is ∙ (λ t. set (row_lists old) (first t).chain (insert (rows old (first t).chain) (first t).index (new_row k s))))
      (rw empty (omega arith, (span, tt, tt)))
    where
      no_rows : (key : Option (Bor K)) (rs : List (Row K (Span M))) → option_copied key ≡ slice_get (keys rs) 0 → is_some key ≡ false → rs ≡ []
      no_rows key [] is no_key = refl
      no_rows None (r ∷ rs) is no_key = absurd (cc is)
      no_rows (Some k) (r ∷ rs) is no_key = absurd (cc no_key)
  first_row (Err e) old new row key k s was first is_key no_key size is same span = subst IsOneRow (sym same) was
