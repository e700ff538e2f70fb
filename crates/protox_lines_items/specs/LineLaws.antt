-- What stands where a cutter of lines took bytes.
use Rattle.std.proofs.Common.{◌≡◌, ◌≢◌, ◌≤◌, ℕ, true, List, [], ◌++◌, length, sym, ap, ◌∙◌, subst, arith}
use Rattle.std.proofs.lemmas.Bool.{both_ways}
use Rattle.protox_lines_items.specs.Items.{stream, More, is_item, longest, most}
use Rattle.protox_lines_items.specs.Cutting.{BeginsWith}
use Rattle.protox_lines_items.specs.Lines.{AreLines, KeepsPiece, LineStands}
use Rattle.protox_lines_items.specs.declared.lines.LineCutter.{LineCutter}
use Rattle.protox_lines_items.specs.declared.lines.Piece.{Piece}
use Rattle.protox_lines_items.specs.declared.lines.Piece.TheVariants.{Blank, LongBlank, Item, Ended}
use Rattle.protox_lines_items.specs.Shown.{begins_with, lines-full}

pub lines_begin : (c : LineCutter) (read more : List ℕ) (items : List (List ℕ)) → LineStands c read items → length read ≤ most → BeginsWith AreLines (read ++ more) items
lines_begin c read more items s h =
    let P : List (List ℕ) → Type 0 = BeginsWith AreLines (read ++ more) in
    subst P (sym s.items_are) (begins_with read more s.ended s.piece s.are h)

short_item : (p : Piece) (kept piece : List ℕ) → KeepsPiece p kept piece → is_item piece ≡ true → length piece ≤ longest
short_item Blank kept piece k h = k.2
short_item LongBlank kept piece k h = absurd (both_ways (is_item piece) k.0 h)
short_item Item kept piece k h = k.2
short_item Ended kept piece k h = omega (arith, ap length k)

pub lines_past : (c : LineCutter) (read more : List ℕ) (items : List (List ℕ)) → LineStands c read items → length read ≡ most → more ≢ [] → AreLines (read ++ more) (stream items More)
lines_past c read more items s h some =
    ap (λ l. stream l More) s.items_are ∙ lines-full read more s.ended s.piece s.are h some (short_item c.piece c.line.items s.piece s.is_open)
