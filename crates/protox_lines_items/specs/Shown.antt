-- What the first bytes of a stream show of its lines.
use Rattle.std.proofs.Common.{◌≡◌, ◌≢◌, ◌≤◌, ◌<◌, ◌+◌, ◌-◌, ℕ, true, false, List, [], ◌∷◌, ◌++◌, length, take, refl, sym, ap, ◌∙◌, arith, ⊎_elim}
use Rattle.std.specs.List.{slice_split, filter, list_all}
use Rattle.std.proofs.Math.Seq.{take-append-add, take-append_seam}
use Rattle.std.proofs.lemmas.List.{append-nil, length-append}
use Rattle.std.proofs.lemmas.List.Elements.{filter-append}
use Rattle.std.proofs.lemmas.Bool.{cases_lt, cases_Bool, cond-true, cond-false, lt-ltb, le-ltb, le-leb, lt-leb, not-true, not_from_false, and_left}
use Rattle.std.proofs.lemmas.List.Folds.{list_all-append}
use Rattle.protox_lines_items.specs.Items.{stream, Ended, More, is_feed, is_blank, is_item, settled, lines, longest, most}
use Rattle.protox_lines_items.specs.Cutting.{BeginsWith, HasLong}
use Rattle.protox_lines_items.specs.Lines.{AreLines}
use Rattle.protox_lines_items.specs.Pieces.{lead, slice_split-more}

-- ---- settled pieces

settled-two : (p : List ℕ) (ps : List (List ℕ)) (q : List ℕ) (qs : List (List ℕ)) → settled (p ∷ (ps ++ q ∷ qs)) ≡ p ∷ settled (ps ++ q ∷ qs)
settled-two p [] q qs = refl
settled-two p (x ∷ ps) q qs = refl

-- pieces with one behind them are
settled-append : (ps : List (List ℕ)) (q : List ℕ) (qs : List (List ℕ)) → settled (ps ++ q ∷ qs) ≡ ps ++ settled (q ∷ qs)
settled-append [] q qs = refl
settled-append (p ∷ ps) q qs = settled-two p ps q qs ∙ ap (λ l. p ∷ l) (settled-append ps q qs)

-- so is one that is too long
settled-long : (q : List ℕ) (qs : List (List ℕ)) → longest < length q → (rest : List (List ℕ)) × (settled (q ∷ qs) ≡ q ∷ rest)
settled-long q [] h = ([], cond-true _ (q ∷ []) [] (lt-ltb longest (length q) h))
settled-long q (x ∷ qs) h = (settled (x ∷ qs), refl)

pub no_items : (q : List ℕ) → is_item q ≡ false → filter is_item (q ∷ []) ≡ []
no_items q h = cond-false (is_item q) (q ∷ []) [] h

-- the last one is no item that is, where it is blank or not too long
settled-open : (q : List ℕ) → (is_item q ≡ true → length q ≤ longest) → filter is_item (settled (q ∷ [])) ≡ []
settled-open q h =
    let short : length q ≤ longest → filter is_item (settled (q ∷ [])) ≡ [] = λ (l : length q ≤ longest).
    ap (filter is_item) (cond-false _ (q ∷ []) [] (le-ltb longest (length q) l)) in
    let blank : is_item q ≡ false → longest < length q → filter is_item (settled (q ∷ [])) ≡ [] = λ (b : is_item q ≡ false) (l : longest < length q).
    ap (filter is_item) (cond-true _ (q ∷ []) [] (lt-ltb longest (length q) l)) ∙ no_items q b in
    ⊎_elim (λ item. short (h item)) (λ b. ⊎_elim (blank b) short (cases_lt longest (length q))) (cases_Bool (is_item q))

-- an item that grows stays one
is_item-more : (a b : List ℕ) → is_item a ≡ true → is_item (a ++ b) ≡ true
is_item-more a b h =
    not_from_false (list_all is_blank (a ++ b)) (list_all-append is_blank a b ∙ and_left (list_all is_blank a) (list_all is_blank b) (not-true (list_all is_blank a) h))

pub filter-pushed : (ps : List (List ℕ)) (q : List ℕ) → is_item q ≡ true → filter is_item (ps ++ q ∷ []) ≡ filter is_item ps ++ q ∷ []
filter-pushed ps q h = filter-append is_item ps (q ∷ []) ∙ ap (λ l. filter is_item ps ++ l) (cond-true (is_item q) (q ∷ []) [] h)

has_some : (l : List ℕ) → l ≢ [] → 0 < length l
has_some [] h = absurd (h refl)
has_some (x ∷ l) h = omega arith

lead_is : (a : List ℕ) (qs : List (List ℕ)) → (b : List ℕ) × (c : List (List ℕ)) × (lead a qs ≡ (a ++ b) ∷ c)
lead_is a [] = ([], [], ap (λ l. l ∷ []) (sym (append-nil a)))
lead_is a (q ∷ qs) = (q, qs, refl)

-- ---- the lines of bytes

pub lines-within : (bytes : List ℕ) → length bytes ≤ most → lines bytes ≡ stream (filter is_item (slice_split is_feed bytes)) Ended
lines-within bytes h = cond-true _ _ _ (le-leb (length bytes) most h)

lines-past : (bytes : List ℕ) → most < length bytes → lines bytes ≡ stream (filter is_item (settled (slice_split is_feed (take most bytes)))) More
lines-past bytes h = cond-false _ _ _ (lt-leb (length bytes) most h)

-- the items of more bytes: those of the pieces that are ended, and behind them the rest; an open piece that is too long is the first of these
pub record GoesOn (bytes : List ℕ) (ended : List (List ℕ)) (piece : List ℕ) : Type 0 where
  pub rest : List (List ℕ)
  pub is : (lines bytes).items ≡ filter is_item ended ++ filter is_item rest
  pub long : longest < length piece → (b : List ℕ) × (c : List (List ℕ)) × (rest ≡ (piece ++ b) ∷ c)

module _ (read more : List ℕ) (ended : List (List ℕ)) (piece : List ℕ) (are : slice_split is_feed read ≡ ended ++ piece ∷ []) where
  goes_on-within : length (read ++ more) ≤ most → GoesOn (read ++ more) ended piece
  goes_on-within h =
      let qs = lead piece (slice_split is_feed more) in record {
        rest = qs;
        is = ap (λ s. s.items) (lines-within (read ++ more) h) ∙ ap (filter is_item) (slice_split-more is_feed read more ended piece are) ∙ filter-append is_item ended qs;
        long = λ _. lead_is piece (slice_split is_feed more);
      }

  take_most : length read ≤ most → take most (read ++ more) ≡ read ++ take (most - length read) more
  take_most h = let e : most ≡ length read + (most - length read) = omega arith in ap (λ n. take n (read ++ more)) e ∙ take-append-add read more (most - length read)

  goes_on-past : length read ≤ most → most < length (read ++ more) → GoesOn (read ++ more) ended piece
  goes_on-past h l =
      let m = take (most - length read) more in
      let qs = lead piece (slice_split is_feed m) in
      let first = lead_is piece (slice_split is_feed m) in
      let b = first.0 in
      let c = first.1 in
      let split : slice_split is_feed (take most (read ++ more)) ≡ ended ++ (piece ++ b) ∷ c =
      ap (slice_split is_feed) (take_most h) ∙ slice_split-more is_feed read m ended piece are ∙ ap (λ l. ended ++ l) first.2 in
      let all : settled (slice_split is_feed (take most (read ++ more))) ≡ ended ++ settled ((piece ++ b) ∷ c) =
      ap settled split ∙ settled-append ended (piece ++ b) c in record {
        rest = settled ((piece ++ b) ∷ c);
        is = ap (λ s. s.items) (lines-past (read ++ more) l) ∙ ap (filter is_item) all ∙ filter-append is_item ended (settled ((piece ++ b) ∷ c));
        long = λ k. let s = settled-long (piece ++ b) c (omega (arith, length-append piece b)) in (b, s.0, s.1);
      }

  pub goes_on : length read ≤ most → GoesOn (read ++ more) ended piece
  goes_on h = ⊎_elim (goes_on-past h) goes_on-within (cases_lt most (length (read ++ more)))

  pub begins_with : length read ≤ most → BeginsWith AreLines (read ++ more) (filter is_item ended)
  begins_with h = let g = goes_on h in (lines (read ++ more), refl, (filter is_item g.rest, g.is))

  pub has_long : length read ≤ most → is_item piece ≡ true → longest < length piece → HasLong AreLines (read ++ more) (filter is_item ended)
  has_long h item l =
      let g = goes_on h in
      let first = g.long l in
      let kept : filter is_item ((piece ++ first.0) ∷ first.1) ≡ (piece ++ first.0) ∷ filter is_item first.1 =
      cond-true _ _ _ (is_item-more piece first.0 item) in
      let is : (lines (read ++ more)).items ≡ filter is_item ended ++ (piece ++ first.0) ∷ filter is_item first.1 =
      g.is ∙ ap (λ r. filter is_item ended ++ filter is_item r) first.2 ∙ ap (λ r. filter is_item ended ++ r) kept in
      (lines (read ++ more), refl, (piece ++ first.0, filter is_item first.1, is, omega (arith, length-append piece first.0)))

  pub lines-full : length read ≡ most → more ≢ [] → (is_item piece ≡ true → length piece ≤ longest) → stream (filter is_item ended) More ≡ lines (read ++ more)
  lines-full h some short =
      let front : take most (read ++ more) ≡ read = ap (λ n. take n (read ++ more)) (sym h) ∙ take-append_seam read more in
      let all : settled (slice_split is_feed (take most (read ++ more))) ≡ ended ++ settled (piece ∷ []) =
      ap (λ l. settled (slice_split is_feed l)) front ∙ ap settled are ∙ settled-append ended piece [] in
      let kept : filter is_item (ended ++ settled (piece ∷ [])) ≡ filter is_item ended =
      filter-append is_item ended (settled (piece ∷ [])) ∙ ap (λ l. filter is_item ended ++ l) (settled-open piece short) ∙ append-nil (filter is_item ended) in
      let long : most < length (read ++ more) = omega (arith, length-append read more, has_some more some) in
      sym (lines-past (read ++ more) long ∙ ap (λ l. stream (filter is_item l) More) all ∙ ap (λ l. stream l More) kept)

  -- where no more bytes follow
  pub lines-ended : length read ≤ most → is_item piece ≡ false → stream (filter is_item ended) Ended ≡ lines read
  lines-ended h blank =
      let kept : filter is_item (ended ++ piece ∷ []) ≡ filter is_item ended =
      filter-append is_item ended (piece ∷ []) ∙ ap (λ l. filter is_item ended ++ l) (no_items piece blank) ∙ append-nil (filter is_item ended) in
      sym (lines-within read h ∙ ap (λ l. stream (filter is_item l) Ended) are ∙ ap (λ l. stream l Ended) kept)

  pub lines-with_last : length read ≤ most → is_item piece ≡ true → stream (filter is_item ended ++ piece ∷ []) Ended ≡ lines read
  lines-with_last h item = sym (lines-within read h ∙ ap (λ l. stream (filter is_item l) Ended) are ∙ ap (λ l. stream l Ended) (filter-pushed ended piece item))
