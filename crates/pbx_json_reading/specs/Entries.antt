-- What is put into the content of a message that is no object of fields.
use Rattle.std.specs.Prelude.{ℕ, List, [], ◌∷◌, Option, Some, None}
use Rattle.pbx_content_codec.specs.declared.contents.Held.{Held}

-- the value at its number, if there is one
abbrev pub entry_at : ℕ → Option Held → List (ℕ × Held)
entry_at n None = []
entry_at n (Some h) = (n, h) ∷ []
