-- A stroke's walk: what it takes out and puts in leaves the spans of the stroke.
use Rattle.std.proofs.Common.{◌≡◌, ℕ, suc, ◌+◌, ◌-◌, ◌<◌, ◌≤◌, Bool, true, false, not, ◌&&◌, ◌||◌, ◌==◌, nat_lt, cond}
use Rattle.std.proofs.Common.{min, max, Option, Some, None, List, []}
use Rattle.std.proofs.Common.{◌∷◌, ◌++◌, length, drop, refl, sym, ap, ◌∙◌, subst, inl, inr, arith}
use Rattle.std.specs.List.{prefix_len, position_or_len}
use Rattle.std.proofs.lemmas.Bool.{cases_lt, cases_Bool, lt-ltb, le-ltb, le-leb, lt-leb, eqb-true, eq-eqb, ne_eqb}
use Rattle.std.proofs.lemmas.Bool.{and_parts, and_from, and_left, and_right}
use Rattle.std.proofs.lemmas.Bool.{both_ways}
use Rattle.fl_spans.specs.Rows.{listed, pieces_of, spliced}
use Rattle.fl_spans.specs.declared.rows.Pieces.{Pieces}
use Rattle.fl_spans.specs.declared.span.Span.{Span}
use Rattle.fl_spans.specs.declared.change.Change.{Change}
use Rattle.fl_spans.specs.Spans.{PrecedesNext, AreSpans}
use Rattle.fl_spans.specs.Stroke.{before, behind, struck, touches, join, joined, after_stroke}
use Rattle.fl_spans.specs.Inside.Walk.{is_mark, reaches, begins_by, absorbed, gathered, new_span, pieces_with}
use Rattle.fl_spans.proofs.Walks.{count_more, count_end, spliced_more, counts_within, long_spliced}
use Rattle.fl_spans.proofs.Parts.{StartsFrom, AreApart, apart_of, from_less, next_from, before_cut, before_none}
use Rattle.fl_spans.proofs.Parts.{behind_cut, behind_skip, behind_all}
use Rattle.fl_spans.proofs.Parts.{behind_from, touches_first, join_apart, join_touching, is_touching, far_apart}
use Rattle.fl_spans.proofs.Parts.{touching_marks, first_kept}
use Rattle.fl_spans.proofs.Parts.{none_touching, joined_whole}

module _ {M : Type 0} where
  -- the pieces of a change before other spans
  pub laid : (mark : Option M) (c : Change M) (ss : List (Span M)) →
      pieces_of (pieces_with mark c) ++ ss ≡ listed c.before ++ (struck c.start c.end mark ++ (listed c.after ++ ss))
  laid mark c ss = go c.before c.after mark
    where
      go : (b a : Option (Span M)) (m : Option M) →
          (listed b ++ (listed (new_span m c) ++ listed a)) ++ ss ≡ listed b ++ (struck c.start c.end m ++ (listed a ++ ss))
      go None None None = refl
      go None None (Some m) = refl
      go None (Some t) None = refl
      go None (Some t) (Some m) = refl
      go (Some s) None None = refl
      go (Some s) None (Some m) = refl
      go (Some s) (Some t) None = refl
      go (Some s) (Some t) (Some m) = refl

module _ {M : Type 0} (same : M → M → Bool) (exact : (a b : M) → same a b ≡ true → a ≡ b) (itself : (a : M) → same a a ≡ true) where
  -- ---- joining at the range

  -- the new span stays apart from what is behind
  struck_apart : (a end : ℕ) (mark : Option M) (ss : List (Span M)) → AreSpans ss →
      ((t : Span M) (ts : List (Span M)) → ss ≡ t ∷ ts → ((t.start == end + 1) && is_mark same mark t.mark) ≡ false) →
      joined same (struck a end mark ++ ss) ≡ struck a end mark ++ ss
  struck_apart a end None ss are none = joined_whole same exact ss are
  struck_apart a end (Some m) [] are none = refl
  struck_apart a end (Some m) (t ∷ ts) are none =
      ap (join same (record { start = a; end = end; mark = m })) (joined_whole same exact (t ∷ ts) are)
      ∙ join_apart same (record { start = a; end = end; mark = m }) (t ∷ ts) (none t ts refl)

  -- or is one with it
  struck_joins : (a end : ℕ) (mark : Option M) (t : Span M) (ts : List (Span M)) → AreSpans (t ∷ ts) → t.start ≡ end + 1 → is_mark same mark t.mark ≡ true →
      joined same (struck a end mark ++ (t ∷ ts)) ≡ struck a t.end mark ++ ts
  struck_joins a end None t ts are next is = absurd (cc is)
  struck_joins a end (Some m) t ts are next is =
      let n : Span M = record { start = a; end = end; mark = m } in
      ap (join same n) (joined_whole same exact (t ∷ ts) are)
      ∙ join_touching same n t ts (is_touching same n t next is)
      ∙ ap (λ x. record { start = a; end = t.end; mark = x } ∷ ts) (sym (exact m t.mark is))

  -- a span before the range is one with the new span
  left_joins : (f : Span M) (start end : ℕ) (mark : Option M) (ss : List (Span M)) → f.end + 1 ≡ start → is_mark same mark f.mark ≡ true →
      join same f (joined same (struck start end mark ++ ss)) ≡ joined same (struck f.start end mark ++ ss)
  left_joins f start end None ss next is = absurd (cc is)
  left_joins f start end (Some m) ss next is = go (joined same ss)
    where
      n : Span M
      n = record { start = start; end = end; mark = m }

      one : Span M
      one = record { start = f.start; end = end; mark = m }

      own : same f.mark m ≡ true
      own = ap (same f.mark) (exact m f.mark is) ∙ itself f.mark

      go : (ts : List (Span M)) → join same f (join same (record { start = start; end = end; mark = m }) ts) ≡
          join same (record { start = f.start; end = end; mark = m }) ts
      go [] = join_touching same f (record { start = start; end = end; mark = m }) []
          (is_touching same f (record { start = start; end = end; mark = m }) (sym next) own)
      go (t ∷ ts) =
          let n : Span M = record { start = start; end = end; mark = m } in
          let one : Span M = record { start = f.start; end = end; mark = m } in
          elim (cases_Bool (touches same n t)) [
            | inl met ↦
                ap (join same f) (join_touching same n t ts met)
                ∙ join_touching same f (record t { start = start }) ts
                (is_touching same f (record t { start = start }) (sym next) (ap (same f.mark) (sym (touching_marks same exact n t met)) ∙ own))
                ∙ sym (join_touching same one t ts met)
            | inr none ↦
                ap (join same f) (join_apart same n (t ∷ ts) none)
                ∙ join_touching same f n (t ∷ ts) (is_touching same f n (sym next) own)
                ∙ sym (join_apart same one (t ∷ ts) none)
          ]

  -- or stays apart from it
  edge : (f : Span M) (start end : ℕ) (mark : Option M) (ss : List (Span M)) → f.end < start → start ≤ end →
      ((f.end + 1 == start) && is_mark same mark f.mark) ≡ false → StartsFrom (end + 1) ss → touches_first same f (struck start end mark ++ ss) ≡ false
  edge f start end None [] less ordered none from = refl
  edge f start end None (t ∷ ts) less ordered none from = far_apart same f t (omega (arith, less, ordered, from))
  edge f start end (Some m) ss less ordered none from =
      let n : Span M = record { start = start; end = end; mark = m } in
      elim (cases_Bool (touches same f n)) [
        | inl met ↦
            let marks = touching_marks same exact f n met in
            let next : start ≡ f.end + 1 = eqb-true start (f.end + 1) (and_parts (start == f.end + 1) (same f.mark m) met).0 in
            absurd (both_ways ((f.end + 1 == start) && same m f.mark) none
            (and_from (f.end + 1 == start) (same m f.mark) (eq-eqb (f.end + 1) start (sym next)) (ap (same m) marks ∙ itself m)))
        | inr apart ↦ apart
      ]

  left_apart : (f : Span M) (start end : ℕ) (mark : Option M) (ss : List (Span M)) → f.end < start → start ≤ end →
      ((f.end + 1 == start) && is_mark same mark f.mark) ≡ false → StartsFrom (end + 1) ss →
      join same f (joined same (struck start end mark ++ ss)) ≡ f ∷ joined same (struck start end mark ++ ss)
  left_apart f start end mark ss less ordered none from =
      join_apart same f (joined same (struck start end mark ++ ss)) (first_kept same exact f (struck start end mark ++ ss)
      ∙ edge f start end mark ss less ordered none from)

  module _ (start end : ℕ) (mark : Option M) (ordered : start ≤ end) where
    -- ---- the spans that are taken out

    -- what a change puts in, and the spans that are left behind it
    abbrev pub carried : Change M → List (Span M) → List (Span M)
    carried c ss = pieces_of (pieces_with mark (gathered same start end mark c ss)) ++ drop (prefix_len (begins_by same end mark) ss) ss

    carry_more : (c : Change M) (s : Span M) (ss : List (Span M)) → begins_by same end mark s ≡ true →
        carried c (s ∷ ss) ≡ carried (absorbed same start end mark c s) ss
    carry_more c s ss is =
        let next : 1 + prefix_len (begins_by same end mark) ss ≡ suc (prefix_len (begins_by same end mark) ss) = omega arith in
        rw is (rw next refl)

    carry_end : (c : Change M) (s : Span M) (ss : List (Span M)) → begins_by same end mark s ≡ false →
        carried c (s ∷ ss) ≡ listed c.before ++ (struck c.start c.end mark ++ (listed c.after ++ (s ∷ ss)))
    carry_end c s ss none = rw none (laid mark c (s ∷ ss))

    by_end : (s : Span M) → s.start ≤ end → begins_by same end mark s ≡ true
    by_end s upto = rw (le-leb s.start end upto) refl

    past_end : (s : Span M) → end + 1 < s.start → begins_by same end mark s ≡ false
    past_end s less =
        rw (lt-leb s.start end (omega (arith, less)))
        (and_left (s.start - 1 == end) (is_mark same mark s.mark) (ne_eqb (s.start - 1) end (λ e. omega (arith, less, e))))

    carry_far : (c : Change M) (ss : List (Span M)) → StartsFrom (end + 2) ss →
        carried c ss ≡ listed c.before ++ (struck c.start c.end mark ++ (listed c.after ++ ss))
    carry_far c [] far = laid mark c []
    carry_far c (s ∷ ss) far = carry_end c s ss (past_end s (omega (arith, far)))

    -- a change that took in no span past the end
    abbrev pub change : ℕ → Option (Span M) → Change M
    change a bf = record { before = bf; start = a; end = end; after = None }

    with_mark : (c : Change M) (s : Span M) → is_mark same mark s.mark ≡ true →
        absorbed same start end mark c s ≡ record c { start = min c.start s.start; end = max c.end s.end }
    with_mark c s is = rw is refl

    -- spans that begin in the range or behind it
    gather_on : (a : ℕ) (bf : Option (Span M)) (ss : List (Span M)) → a ≤ start → AreSpans ss → StartsFrom start ss →
        carried (change a bf) ss ≡ listed bf ++ joined same (struck a end mark ++ behind end ss)
    gather_on a bf [] low are from =
        laid mark (change a bf) [] ∙ ap (λ l. listed bf ++ l) (sym (struck_apart a end mark [] tt (λ t ts is. absurd (cc is))))
    gather_on a bf (s ∷ ss) low are from =
        let apart = apart_of (s ∷ ss) are in
        elim (cases_lt end s.end) [
          | inr inside ↦
              carry_more (change a bf) s ss (by_end s (omega (arith, inside, are.0.ordered)))
              ∙ ap (λ c. carried c ss) (unchanged inside)
              ∙ gather_on a bf ss low are.2 (next_from start s ss apart from)
              ∙ ap (λ l. listed bf ++ joined same (struck a end mark ++ l)) (sym (behind_skip end s ss inside))
          | inl past ↦ elim (cases_lt end s.start) [
            | inr upto ↦ over past upto apart
            | inl less ↦ beyond past less apart
          ]
        ]
      where
        unchanged : s.end ≤ end → absorbed same start end mark (change a bf) s ≡ change a bf
        unchanged inside =
            let first : min a s.start ≡ a = omega (arith, low, from) in
            let last : max end s.end ≡ end = omega (arith, inside) in
            elim (cases_Bool (is_mark same mark s.mark)) [
              | inl is ↦ rw is (ap (λ n. record { before = bf; start = n; end = max end s.end; after = None }) first
                  ∙ ap (λ n. record { before = bf; start = a; end = n; after = None }) last)
              | inr none ↦ rw none (rw (le-ltb s.start start from) (rw (le-ltb end s.end inside) refl))
            ]

        -- made longer by a span of its mark
        longer : end < s.end → is_mark same mark s.mark ≡ true → AreApart (s ∷ ss) → begins_by same end mark s ≡ true →
            carried (change a bf) (s ∷ ss) ≡ listed bf ++ (struck a s.end mark ++ ss)
        longer past is apart begins =
            let first : min a s.start ≡ a = omega (arith, low, from) in
            let last : max end s.end ≡ s.end = omega (arith, past) in
            carry_more (change a bf) s ss begins
            ∙ ap (λ c. carried c ss) (with_mark (change a bf) s is)
            ∙ carry_far (record { before = bf; start = min a s.start; end = max end s.end; after = None }) ss
            (from_less (end + 2) (s.end + 1) ss (omega (arith, past)) apart.1)
            ∙ ap (λ n. listed bf ++ (struck n (max end s.end) mark ++ ss)) first
            ∙ ap (λ n. listed bf ++ (struck a n mark ++ ss)) last

        over : end < s.end → s.start ≤ end → AreApart (s ∷ ss) →
            carried (change a bf) (s ∷ ss) ≡ listed bf ++ joined same (struck a end mark ++ behind end (s ∷ ss))
        over past upto apart =
            let cut : Span M = record s { start = end + 1 } in
            let cuts : behind end (s ∷ ss) ≡ cut ∷ ss =
            let at : max s.start (end + 1) ≡ end + 1 = omega (arith, upto) in
            behind_cut end s ss past
            ∙ ap (λ n. record s { start = n } ∷ behind end ss) at
            ∙ ap (λ l. record s { start = end + 1 } ∷ l) (behind_all end ss apart.2 (from_less (end + 1) (s.end + 1) ss (omega (arith, past)) apart.1)) in
            let whole : AreSpans (record s { start = end + 1 } ∷ ss) = cut_whole past in
            elim (cases_Bool (is_mark same mark s.mark)) [
              | inl is ↦
                  longer past is apart (by_end s upto)
                  ∙ ap (λ l. listed bf ++ l) (sym (struck_joins a end mark (record s { start = end + 1 }) ss whole refl is))
                  ∙ ap (λ l. listed bf ++ joined same (struck a end mark ++ l)) (sym cuts)
              | inr none ↦
                  carry_more (change a bf) s ss (by_end s upto)
                  ∙ ap (λ c. carried c ss) (cut_off past none)
                  ∙ carry_far (record { before = bf; start = a; end = end; after = Some (record s { start = end + 1 }) }) ss
                  (from_less (end + 2) (s.end + 1) ss (omega (arith, past)) apart.1)
                  ∙ ap (λ l. listed bf ++ l) (sym (struck_apart a end mark (record s { start = end + 1 } ∷ ss) whole
                  (λ t ts is. let e : record s { start = end + 1 } ≡ t = cc is in
                  and_right (t.start == end + 1) (is_mark same mark t.mark) (ap (λ (x : Span M). is_mark same mark x.mark) (sym e) ∙ none))))
                  ∙ ap (λ l. listed bf ++ joined same (struck a end mark ++ l)) (sym cuts)
            ]
          where
            cut_whole : end < s.end → AreSpans (record s { start = end + 1 } ∷ ss)
            cut_whole past = (record { ordered = omega (arith, past); bounded = are.0.bounded }, cut_next ss are.1, are.2)
              where
                cut_next : (ts : List (Span M)) → PrecedesNext s ts → PrecedesNext (record s { start = end + 1 }) ts
                cut_next [] next = tt
                cut_next (t ∷ ts) next = record { apart = next.apart; whole = next.whole }

            cut_off : end < s.end → is_mark same mark s.mark ≡ false →
                absorbed same start end mark (change a bf) s
                ≡ record { before = bf; start = a; end = end; after = Some (record s { start = end + 1 }) }
            cut_off past none = rw none (rw (le-ltb s.start start from) (rw (lt-ltb end s.end past) refl))

        beyond : end < s.end → end < s.start → AreApart (s ∷ ss) →
            carried (change a bf) (s ∷ ss) ≡ listed bf ++ joined same (struck a end mark ++ behind end (s ∷ ss))
        beyond past less apart =
            let all : behind end (s ∷ ss) ≡ s ∷ ss = behind_all end (s ∷ ss) apart (omega (arith, less)) in
            let not_in = lt-leb s.start end less in
            elim (cases_Bool ((s.start - 1 == end) && is_mark same mark s.mark)) [
              | inl met ↦
                  let both = and_parts (s.start - 1 == end) (is_mark same mark s.mark) met in
                  let next : s.start ≡ end + 1 = omega (arith, eqb-true (s.start - 1) end both.0, less) in
                  longer past both.1 apart (rw not_in met)
                  ∙ ap (λ l. listed bf ++ l) (sym (struck_joins a end mark s ss are next both.1))
                  ∙ ap (λ l. listed bf ++ joined same (struck a end mark ++ l)) (sym all)
              | inr none ↦
                  carry_end (change a bf) s ss (rw not_in none)
                  ∙ ap (λ l. listed bf ++ l) (sym (struck_apart a end mark (s ∷ ss) are (λ t ts is.
                  let e : s ≡ t = cc is in
                  subst (λ (x : Span M). ((x.start == end + 1) && is_mark same mark x.mark) ≡ false) e (flipped less none))))
                  ∙ ap (λ l. listed bf ++ joined same (struck a end mark ++ l)) (sym all)
            ]
          where
            flipped : end < s.start → ((s.start - 1 == end) && is_mark same mark s.mark) ≡ false → ((s.start == end + 1) && is_mark same mark s.mark) ≡ false
            flipped less none =
                elim (cases_Bool (s.start == end + 1)) [
                  | inl next ↦
                      let at : s.start - 1 ≡ end = omega (arith, eqb-true s.start (end + 1) next) in
                      ap (λ b. b && is_mark same mark s.mark) (next ∙ sym (eq-eqb (s.start - 1) end at)) ∙ none
                  | inr apart ↦ and_left (s.start == end + 1) (is_mark same mark s.mark) apart
                ]

    -- ---- from the first span that the range reaches

    -- spans whose first begins before the range
    from_left : (s : Span M) (ss : List (Span M)) → AreSpans (s ∷ ss) → s.start < start → reaches same start mark s ≡ true →
        carried (change start None) (s ∷ ss) ≡ after_stroke same start end mark (s ∷ ss)
    from_left s ss are less reached =
        let apart = apart_of (s ∷ ss) are in
        elim (cases_lt s.end start) [
          | inl short ↦
              let both = and_parts (s.end + 1 == start) (is_mark same mark s.mark) (sym (ap (λ b. b || ((s.end + 1 == start) && is_mark same mark s.mark))
              (lt-leb start s.end short)) ∙ reached) in
              let next : s.end + 1 ≡ start = eqb-true (s.end + 1) start both.0 in
              let end_is : s.end ≡ min s.end (start - 1) = omega (arith, next) in
              let first : min start s.start ≡ s.start = omega (arith, less) in
              let last : max end s.end ≡ end = omega (arith, short, ordered) in
              carry_more (change start None) s ss (by_end s (omega (arith, less, ordered)))
              ∙ ap (λ c. carried c ss) (with_mark (change start None) s both.1
              ∙ ap (λ n. record { before = None; start = n; end = max end s.end; after = None }) first
              ∙ ap (λ n. record { before = None; start = s.start; end = n; after = None }) last)
              ∙ gather_on s.start None ss (omega (arith, less)) are.2 (from_less start (s.end + 1) ss (omega (arith, next)) apart.1)
              ∙ sym (left_joins (record s { end = min s.end (start - 1) }) start end mark (behind end ss) (omega (arith, next)) both.1)
              ∙ sym (whole s ss are less (omega (arith, next)) (behind end ss) (behind_skip end s ss (omega (arith, short, ordered))))
          | inr long ↦ overlapped s ss are less long
        ]
      where
        -- what a stroke leaves, if the first is cut
        whole : (s : Span M) (ss : List (Span M)) → AreSpans (s ∷ ss) → s.start < start → start ≤ s.end + 1 → (rest : List (Span M)) →
            behind end (s ∷ ss) ≡ rest →
            after_stroke same start end mark (s ∷ ss)
            ≡ join same (record s { end = min s.end (start - 1) }) (joined same (struck start end mark ++ rest))
        whole s ss are less near rest is =
            let apart = apart_of (s ∷ ss) are in
            ap (λ l. joined same (l ++ (struck start end mark ++ behind end (s ∷ ss)))) (before_cut start s ss less
            ∙ ap (λ l. record s { end = min s.end (start - 1) } ∷ l) (before_none start ss apart.2 (from_less start (s.end + 1) ss near apart.1)))
            ∙ ap (λ l. join same (record s { end = min s.end (start - 1) }) (joined same (struck start end mark ++ l))) is

        -- as if the first began with the range
        overlapped : (s : Span M) (ss : List (Span M)) → AreSpans (s ∷ ss) → s.start < start → start ≤ s.end →
            carried (change start None) (s ∷ ss) ≡ after_stroke same start end mark (s ∷ ss)
        overlapped s ss are less long =
            let left : min s.end (start - 1) + 1 ≡ start = omega (arith, less, long) in
            let trim : min s.end (start - 1) ≡ start - 1 = omega (arith, long) in
            let trimmed : AreSpans (record s { start = start } ∷ ss) = (record { ordered = long; bounded = are.0.bounded }, trim_next ss are.1, are.2) in
            let begins = by_end s (omega (arith, less, ordered)) in
            let begins_trimmed = by_end (record s { start = start }) ordered in
            elim (cases_Bool (is_mark same mark s.mark)) [
              | inl is ↦
                  carry_more (change start None) s ss begins
                  ∙ ap (λ c. carried c ss) (joins_alike is)
                  ∙ sym (carry_more (change s.start None) (record s { start = start }) ss begins_trimmed)
                  ∙ gather_on s.start None (record s { start = start } ∷ ss) (omega (arith, less)) trimmed (omega arith)
                  ∙ sym (left_joins (record s { end = min s.end (start - 1) }) start end mark (behind end (record s { start = start } ∷ ss)) left is)
                  ∙ sym (whole s ss are less (omega (arith, long)) (behind end (record s { start = start } ∷ ss)) behind_alike)
              | inr none ↦
                  carry_more (change start None) s ss begins
                  ∙ ap (λ c. carried c ss) (cuts_alike none)
                  ∙ sym (carry_more (change start (Some (record s { end = start - 1 }))) (record s { start = start }) ss begins_trimmed)
                  ∙ gather_on start (Some (record s { end = start - 1 })) (record s { start = start } ∷ ss) (omega arith) trimmed (omega arith)
                  ∙ ap (λ n. record s { end = n } ∷ joined same (struck start end mark ++ behind end (record s { start = start } ∷ ss))) (sym trim)
                  ∙ sym (left_apart (record s { end = min s.end (start - 1) }) start end mark (behind end (record s { start = start } ∷ ss))
                  (omega (arith, left)) ordered (and_right (min s.end (start - 1) + 1 == start) (is_mark same mark s.mark) none)
                  (behind_from end (record s { start = start } ∷ ss)))
                  ∙ sym (whole s ss are less (omega (arith, long)) (behind end (record s { start = start } ∷ ss)) behind_alike)
            ]
          where
            trim_next : (ts : List (Span M)) → PrecedesNext s ts → PrecedesNext (record s { start = start }) ts
            trim_next [] next = tt
            trim_next (t ∷ ts) next = record { apart = next.apart; whole = next.whole }

            behind_alike : behind end (s ∷ ss) ≡ behind end (record s { start = start } ∷ ss)
            behind_alike =
                let same_start : max s.start (end + 1) ≡ max start (end + 1) = omega (arith, less, ordered) in
                ap (λ n. cond (nat_lt end s.end) (record s { start = n } ∷ behind end ss) (behind end ss)) same_start

            joins_alike : is_mark same mark s.mark ≡ true →
                absorbed same start end mark (change start None) s ≡ absorbed same start end mark (change s.start None) (record s { start = start })
            joins_alike is =
                let swapped : min start s.start ≡ min s.start start = omega arith in
                with_mark (change start None) s is
                ∙ ap (λ n. record { before = None; start = n; end = max end s.end; after = None }) swapped
                ∙ sym (with_mark (change s.start None) (record s { start = start }) is)

            cuts_alike : is_mark same mark s.mark ≡ false →
                absorbed same start end mark (change start None) s
                ≡ absorbed same start end mark (change start (Some (record s { end = start - 1 }))) (record s { start = start })
            cuts_alike none =
                let cut = lt-ltb s.start start less in
                let uncut : nat_lt start start ≡ false = le-ltb start start (omega arith) in
                rw none (rw cut (rw uncut refl))

    first_reached : (s : Span M) (ss : List (Span M)) → AreSpans (s ∷ ss) → reaches same start mark s ≡ true →
        carried (change start None) (s ∷ ss) ≡ after_stroke same start end mark (s ∷ ss)
    first_reached s ss are reached =
        elim (cases_lt s.start start) [
          | inl less ↦ from_left s ss are less reached
          | inr past ↦
              gather_on start None (s ∷ ss) (omega arith) are past
              ∙ ap (λ l. joined same (l ++ (struck start end mark ++ behind end (s ∷ ss)))) (sym (before_none start (s ∷ ss) (apart_of (s ∷ ss) are) past))
        ]

    -- ---- before it

    -- a span that the range doesn't reach stays as it is
    unreached : (s : Span M) (ss : List (Span M)) → AreSpans (s ∷ ss) → reaches same start mark s ≡ false →
        after_stroke same start end mark (s ∷ ss) ≡ s ∷ after_stroke same start end mark ss
    unreached s ss are none =
        elim (cases_lt s.end start) [
          | inr long ↦ absurd (both_ways (reaches same start mark s) none (rw (le-leb start s.end long) refl))
          | inl short ↦
              let apart = apart_of (s ∷ ss) are in
              let end_is : min s.end (start - 1) ≡ s.end = omega (arith, short) in
              ap (λ l. joined same (l ++ (struck start end mark ++ behind end (s ∷ ss)))) (before_cut start s ss (omega (arith, short, are.0.ordered))
              ∙ ap (λ n. record s { end = n } ∷ before start ss) end_is)
              ∙ ap (λ l. join same s (joined same (before start ss ++ (struck start end mark ++ l)))) (behind_skip end s ss (omega (arith, short, ordered)))
              ∙ join_apart same s (joined same (before start ss ++ (struck start end mark ++ behind end ss)))
              (first_kept same exact s (before start ss ++ (struck start end mark ++ behind end ss)) ∙ stays ss are.1 apart.1 apart.2 short (ended short))
        ]
      where
        ended : s.end < start → ((s.end + 1 == start) && is_mark same mark s.mark) ≡ false
        ended short = sym (ap (λ b. b || ((s.end + 1 == start) && is_mark same mark s.mark)) (lt-leb start s.end short)) ∙ none

        stays : (ts : List (Span M)) → PrecedesNext s ts → StartsFrom (s.end + 1) ts → AreApart ts → s.end < start →
            ((s.end + 1 == start) && is_mark same mark s.mark) ≡ false →
            touches_first same s (before start ts ++ (struck start end mark ++ behind end ts)) ≡ false
        stays [] next from apart short ended = edge s start end mark [] short ordered ended tt
        stays (t ∷ ts) next from apart short ended =
            elim (cases_lt t.start start) [
              | inl less ↦ rw (before_cut start t ts less) (none_touching same exact s (t ∷ ts) next)
              | inr past ↦ rw (before_none start (t ∷ ts) apart past)
                  (edge s start end mark (behind end (t ∷ ts)) short ordered ended (behind_from end (t ∷ ts)))
            ]

    -- what the walk takes out and puts in
    pub walked : (ss : List (Span M)) → AreSpans ss →
        let i = position_or_len (reaches same start mark) ss in
        spliced ss i (prefix_len (begins_by same end mark) (drop i ss)) (pieces_of (pieces_with mark (gathered same start end mark (change start None) (drop i ss))))
        ≡ after_stroke same start end mark ss
    walked [] are = laid mark (change start None) [] ∙ sym (struck_apart start end mark [] tt (λ t ts is. absurd (cc is)))
    walked (s ∷ ss) are =
        elim (cases_Bool (reaches same start mark s)) [
          | inl is ↦ rw (count_end (λ t. not (reaches same start mark t)) s ss (ap not is)) (at_first is)
          | inr none ↦ rw (count_more (λ t. not (reaches same start mark t)) s ss (ap not none))
              (further (position_or_len (reaches same start mark) ss) (walked ss are.2) ∙ sym (unreached s ss are none))
        ]
      where
        at_first : reaches same start mark s ≡ true →
            spliced (s ∷ ss) 0 (prefix_len (begins_by same end mark) (s ∷ ss))
            (pieces_of (pieces_with mark (gathered same start end mark (change start None) (s ∷ ss)))) ≡ after_stroke same start end mark (s ∷ ss)
        at_first is =
            let front : 0 + prefix_len (begins_by same end mark) (s ∷ ss) ≡ prefix_len (begins_by same end mark) (s ∷ ss) = omega arith in
            ap (λ n. pieces_of (pieces_with mark (gathered same start end mark (change start None) (s ∷ ss))) ++ drop n (s ∷ ss)) front
            ∙ first_reached s ss are is

        further : (i : ℕ) →
            spliced ss i (prefix_len (begins_by same end mark) (drop i ss))
            (pieces_of (pieces_with mark (gathered same start end mark (change start None) (drop i ss)))) ≡ after_stroke same start end mark ss →
            spliced (s ∷ ss) (1 + i) (prefix_len (begins_by same end mark) (drop (1 + i) (s ∷ ss)))
            (pieces_of (pieces_with mark (gathered same start end mark (change start None) (drop (1 + i) (s ∷ ss)))))
            ≡ s ∷ after_stroke same start end mark ss
        further i is =
            let next : 1 + i ≡ suc i = omega arith in
            ap (λ n. spliced (s ∷ ss) (1 + i) (prefix_len (begins_by same end mark) (drop n (s ∷ ss)))
            (pieces_of (pieces_with mark (gathered same start end mark (change start None) (drop n (s ∷ ss)))))) next
            ∙ spliced_more s ss i (prefix_len (begins_by same end mark) (drop i ss))
            (pieces_of (pieces_with mark (gathered same start end mark (change start None) (drop i ss))))
            ∙ ap (λ l. s ∷ l) is

    -- what a walk told of the row
    pub record Walked (ss : List (Span M)) (i t : ℕ) (ps : Pieces (Span M)) : Type 0 where
      pub is : spliced ss i t (pieces_of ps) ≡ after_stroke same start end mark ss
      pub within : i + t ≤ length ss
      pub long : length (after_stroke same start end mark ss) + t ≡ length ss + length (pieces_of ps)

    pub told : (ss : List (Span M)) → AreSpans ss → (i t : ℕ) (c : Change M) (ps : Pieces (Span M)) →
        i ≡ position_or_len (reaches same start mark) ss → c ≡ gathered same start end mark (change start None) (drop i ss) →
        t ≡ prefix_len (begins_by same end mark) (drop i ss) → ps ≡ pieces_with mark c → Walked ss i t ps
    told ss are i t c ps first changed taken put =
        let at_first : t ≡ prefix_len (begins_by same end mark) (drop (position_or_len (reaches same start mark) ss) ss) =
        taken ∙ ap (λ k. prefix_len (begins_by same end mark) (drop k ss)) first in
        let all : ps ≡ pieces_with mark (gathered same start end mark (change start None) (drop (position_or_len (reaches same start mark) ss) ss)) =
        put ∙ ap (pieces_with mark) (changed ∙ ap (λ k. gathered same start end mark (change start None) (drop k ss)) first) in
        let is : spliced ss i t (pieces_of ps) ≡ after_stroke same start end mark ss =
        (λ x. spliced ss (first x) (at_first x) (pieces_of (all x))) ∙ walked ss are in
        let within : i + t ≤ length ss =
        rw taken (subst (λ k. k + prefix_len (begins_by same end mark) (drop k ss) ≤ length ss) (sym first)
        (counts_within (λ s. not (reaches same start mark s)) (begins_by same end mark) ss)) in
        record { is = is; within = within; long = ap (λ l. length l + t) (sym is) ∙ long_spliced ss i t (pieces_of ps) within }
