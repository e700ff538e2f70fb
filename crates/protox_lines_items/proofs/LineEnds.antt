-- How a cutter of lines goes on.
use Rattle.std.proofs.Common.{◌≡◌, ◌≤◌, ◌<◌, ◌++◌, ◌∷◌, ◌∙◌, [], ℕ, true, false, List, Option, Some, None, length, take, refl, sym, ap, subst, arith, append_assoc, append-nil, slice_index, get_or}
use Rattle.std.specs.List.{slice_split, filter}
use Rattle.std.proofs.lemmas.Bool.{false_from_ne_true, eqb-true}
use Rattle.std.proofs.lemmas.List.{get_or_default, get_or-take, take_more, length-take-le, length-append}
use Rattle.std.proofs.lemmas.List.Elements.{filter-append}
use Rattle.std.proofs.lemmas.List.Splits.{slice_split_none}
use Rattle.memchr.specs.Find.{IsFirstByte, is_byte}
use Rattle.protox_lines_items.specs.Items.{is_feed, is_item, longest, most, stream, Ended}
use Rattle.protox_lines_items.specs.Cutting.{with_item, IsCutFault, HasLong}
use Rattle.protox_lines_items.specs.Lines.{AreLines, KeepsPiece, CannotGrow, EndsAt, IsOpen, LineStands, is_item_piece}
use Rattle.protox_lines_items.specs.Pieces.{slice_split-longer, slice_split-ended}
use Rattle.protox_lines_items.specs.Shown.{has_long, filter-pushed, no_items, lines-ended, lines-with_last}
use Rattle.protox_lines_items.specs.declared.cutter.CutFault.{CutFault}
use Rattle.protox_lines_items.specs.declared.cutter.CutFault.TheVariants as faults
use Rattle.protox_lines_items.specs.declared.lines.LineCutter.{LineCutter}
use Rattle.protox_lines_items.specs.declared.lines.Piece.{Piece}
use Rattle.protox_lines_items.specs.declared.lines.Piece.TheVariants as pieces

-- ---- where a piece ends

pub ends_at : (bytes : List ℕ) (r : Option ℕ) → IsFirstByte (is_byte 10) bytes r → EndsAt bytes r
ends_at bytes None h =
    slice_split_none is_feed bytes (λ k d l. false_from_ne_true (is_feed (get_or bytes k d))
    (λ e. h k (omega arith) l (ap is_feed (sym (get_or_default bytes k d 0 l)) ∙ e)))
ends_at bytes (Some end) h = (
  h.0.high,
  slice_split_none is_feed (take end bytes) (λ k d l.
      let low : k < end = subst (λ m. k < m) (length-take-le end bytes (omega (arith, h.0.high))) l in
      let own : get_or (take end bytes) k d ≡ slice_index bytes k = get_or-take end bytes k d low ∙ get_or_default bytes k d 0 (omega (arith, low, h.0.high)) in
      false_from_ne_true (is_feed (get_or (take end bytes) k d)) (λ e. h.0.before k (omega arith) low (ap is_feed (sym own) ∙ e))),
  take_more bytes end 0 h.0.high ∙ ap (λ b. take end bytes ++ b ∷ []) (eqb-true (slice_index bytes end) 10 h.1),
)

-- ---- a piece that grows, and one that ends

pub grown : (c later : LineCutter) (read part : List ℕ) (items : List (List ℕ)) → LineStands c read items → slice_split is_feed part ≡ part ∷ []
    → ((piece : List ℕ) → IsOpen c piece → IsOpen later (piece ++ part)) → LineStands later (read ++ part) items
grown c later read part items s one goes = record {
  ended = s.ended;
  piece = s.piece ++ part;
  are = slice_split-longer is_feed read part s.ended s.piece s.are one;
  items_are = s.items_are;
  is_open = goes s.piece s.is_open;
}

-- a piece that is none
none : (ended : List (List ℕ)) (piece : List ℕ) → is_item piece ≡ false → filter is_item ended ≡ filter is_item (ended ++ piece ∷ [])
none ended piece h =
    sym (filter-append is_item ended (piece ∷ []) ∙ ap (λ l. filter is_item ended ++ l) (no_items piece h) ∙ append-nil (filter is_item ended))

-- what an open piece that ends is among the items
piece_ends : (p : Piece) (kept piece : List ℕ) (ended : List (List ℕ)) → KeepsPiece p kept piece
    → with_item (is_item_piece p) kept (filter is_item ended) ≡ filter is_item (ended ++ piece ∷ [])
piece_ends pieces.Item kept piece ended k = ap (λ z. filter is_item ended ++ z ∷ []) k.0 ∙ sym (filter-pushed ended piece k.1)
piece_ends pieces.Blank kept piece ended k = none ended piece k.1
piece_ends pieces.LongBlank kept piece ended k = none ended piece k.0
piece_ends pieces.Ended kept piece ended k = none ended piece (ap is_item k)

pub piece_ended : (c later : LineCutter) (read : List ℕ) (items : List (List ℕ)) → later.piece ≡ pieces.Ended → later.line ≡ c.line → LineStands c read items
    → LineStands later (read ++ 10 ∷ []) (with_item (is_item_piece c.piece) later.line.items items)
piece_ended c later read items ends same s = record {
  ended = s.ended ++ s.piece ∷ [];
  piece = [];
  are = slice_split-ended is_feed read 10 s.ended s.piece s.are refl;
  items_are = ap (λ (l : List (List ℕ)). with_item (is_item_piece c.piece) later.line.items l) s.items_are
      ∙ ap (λ (z : List ℕ). with_item (is_item_piece c.piece) z (filter is_item s.ended)) (ap (λ v. v.items) same)
      ∙ piece_ends c.piece c.line.items s.piece s.ended s.is_open;
  is_open = let P : Piece → Type 0 = λ p. KeepsPiece p later.line.items [] in subst P (sym ends) refl;
}

-- ---- faults

-- a piece that cannot grow is a fault of the bytes, whatever stands behind it
pub cannot_grow : (c : LineCutter) (read part rest bytes : List ℕ) (items : List (List ℕ)) (f : CutFault) → LineStands c read items
    → slice_split is_feed part ≡ part ∷ [] → bytes ≡ part ++ rest → length (read ++ bytes) ≤ most
    → ((piece : List ℕ) → IsOpen c piece → CannotGrow (piece ++ part) f) → IsCutFault AreLines (read ++ bytes) items f
cannot_grow c read part rest bytes items faults.NoMemory s one is room why = tt
cannot_grow c read part rest bytes items faults.Malformed s one is room why = absurd (why s.piece s.is_open)
cannot_grow c read part rest bytes items faults.Oversized s one is room why = absurd (why s.piece s.is_open)
cannot_grow c read part rest bytes items faults.TooLong s one is room why = λ more.
    let k = why s.piece s.is_open in
    let same : (read ++ part) ++ (rest ++ more) ≡ (read ++ bytes) ++ more =
    append_assoc read part (rest ++ more) ∙ ap (λ z. read ++ z) (sym (append_assoc part rest more) ∙ ap (λ z. z ++ more) (sym is)) ∙ sym (append_assoc read bytes more) in
    let P : List ℕ → Type 0 = λ z. HasLong AreLines z items in
    let Q : List (List ℕ) → Type 0 = λ l. HasLong AreLines ((read ++ part) ++ (rest ++ more)) l in
    subst P same (subst Q (sym s.items_are) (has_long (read ++ part) (rest ++ more) s.ended (s.piece ++ part)
    (slice_split-longer is_feed read part s.ended s.piece s.are one)
    (omega (arith, length-append read part, length-append read bytes, ap (λ (z : List ℕ). length z) is, length-append part rest, room)) k.0 k.1))

-- ---- where no more bytes follow

blank_piece : (p : Piece) (kept piece : List ℕ) → KeepsPiece p kept piece → is_item_piece p ≡ false → is_item piece ≡ false
blank_piece pieces.Item kept piece k e = cc
blank_piece pieces.Blank kept piece k e = k.1
blank_piece pieces.LongBlank kept piece k e = k.0
blank_piece pieces.Ended kept piece k e = ap is_item k

pub last_nothing : (c : LineCutter) (read : List ℕ) (items : List (List ℕ)) → LineStands c read items → length read ≤ most → is_item_piece c.piece ≡ false
    → AreLines read (stream items Ended)
last_nothing c read items s room e =
    ap (λ l. stream l Ended) s.items_are ∙ lines-ended read [] s.ended s.piece s.are room (blank_piece c.piece c.line.items s.piece s.is_open e)

item_piece : (p : Piece) (kept piece : List ℕ) → KeepsPiece p kept piece → is_item_piece p ≡ true → (kept ≡ piece) × (is_item piece ≡ true) × (length piece ≤ longest)
item_piece pieces.Item kept piece k e = k
item_piece pieces.Blank kept piece k e = cc
item_piece pieces.LongBlank kept piece k e = cc
item_piece pieces.Ended kept piece k e = cc

pub last_item : (c : LineCutter) (read : List ℕ) (items : List (List ℕ)) → LineStands c read items → length read ≤ most → is_item_piece c.piece ≡ true
    → (length c.line.items ≤ longest) × AreLines read (stream (items ++ c.line.items ∷ []) Ended)
last_item c read items s room e =
    let k = item_piece c.piece c.line.items s.piece s.is_open e in (
      subst (λ (z : List ℕ). length z ≤ longest) (sym k.0) k.2,
      ap (λ (z : List ℕ). stream (items ++ z ∷ []) Ended) k.0 ∙ ap (λ (l : List (List ℕ)). stream (l ++ s.piece ∷ []) Ended) s.items_are
          ∙ lines-with_last read [] s.ended s.piece s.are room k.1,
    )
