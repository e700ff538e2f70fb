-- How the bytes of lines are cut.
-- States: the contract of `LineCutter`.
use Rattle.std.specs.Prelude.{◌≡◌, ◌≤◌, ◌<◌, ◌+◌, ℕ, Bool, Option, Some, None, take, List, [], ◌∷◌, ◌++◌, length, filter, true, false}
use Rattle.std.specs.List.{slice_split}
use Rattle.protox_lines_items.specs.Items.{Stream, is_feed, is_item, lines, longest}
use Rattle.protox_lines_items.specs.declared.cutter.CutFault.{CutFault}
use Rattle.protox_lines_items.specs.declared.cutter.CutFault.TheVariants as faults
use Rattle.protox_lines_items.specs.declared.lines.LineCutter.{LineCutter}
use Rattle.protox_lines_items.specs.declared.lines.Piece.{Piece}
use Rattle.protox_lines_items.specs.declared.lines.Piece.TheVariants as pieces

-- the bytes have these lines
abbrev pub AreLines : List ℕ → Stream → Type 0
AreLines bytes s = s ≡ lines bytes

-- what is kept of an open piece: all of it, but of blanks that are too many nothing
abbrev pub KeepsPiece : Piece → List ℕ → List ℕ → Type 0
KeepsPiece pieces.Blank kept piece = (kept ≡ piece) × (is_item piece ≡ false) × (length piece ≤ longest)
KeepsPiece pieces.LongBlank kept piece = (is_item piece ≡ false) × (longest < length piece)
KeepsPiece pieces.Item kept piece = (kept ≡ piece) × (is_item piece ≡ true) × (length piece ≤ longest)
KeepsPiece pieces.Ended kept piece = piece ≡ []

-- this is the cutter's open piece
abbrev pub IsOpen : LineCutter → List ℕ → Type 0
IsOpen c piece = KeepsPiece c.piece c.line.items piece

-- the pieces of what was read: those that a line feed ended, of which the items are what is not blank, and behind them the open one
pub record LineStands (c : LineCutter) (read : List ℕ) (items : List (List ℕ)) : Type 0 where
  pub ended : List (List ℕ)
  pub piece : List ℕ
  pub are : slice_split is_feed read ≡ ended ++ piece ∷ []
  pub items_are : items ≡ filter is_item ended
  pub is_open : IsOpen c piece

-- why a piece does not grow: it is an item that is too long, or memory ran out
abbrev pub CannotGrow : List ℕ → CutFault → Type 0
CannotGrow piece faults.TooLong = (is_item piece ≡ true) × (longest < length piece)
CannotGrow piece faults.NoMemory = Unit {0}
CannotGrow piece _ = ⊥

-- the first piece of the bytes: up to the first line feed, or all of them
abbrev pub EndsAt : List ℕ → Option ℕ → Type 0
EndsAt bytes None = slice_split is_feed bytes ≡ bytes ∷ []
EndsAt bytes (Some end) =
    (end < length bytes) × (slice_split is_feed (take end bytes) ≡ take end bytes ∷ []) × (take (end + 1) bytes ≡ take end bytes ++ 10 ∷ [])

abbrev pub is_item_piece : Piece → Bool
is_item_piece pieces.Item = true
is_item_piece pieces.Blank = false
is_item_piece pieces.LongBlank = false
is_item_piece pieces.Ended = false
