-- Characters that nobody sees in a line (Unicode Standard: the categories Cc, Cf, Zs, Zl and Zp, but for the space).
use Rattle.std.specs.Prelude.{ℕ, ◌==◌, ◌&&◌, ◌||◌, Bool, not}
use Rattle.std.specs.Char.{is_control, is_whitespace}
use Rattle.ucd_category.specs.GeneralCategory.{general_category, general_category_eq}
use Rattle.ucd_category.specs.declared.GeneralCategory.TheVariants.{Format}

-- a control character, white space other than the space (the separators and some control characters), or a format character
abbrev pub is_invisible : ℕ → Bool
is_invisible c = is_control c || ((is_whitespace c && not (c == 32)) || general_category_eq (general_category c) Format)
