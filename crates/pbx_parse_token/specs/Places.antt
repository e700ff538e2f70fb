-- Lines and columns.
use Rattle.std.specs.Prelude.{ℕ, ◌+◌, List, [], ◌∷◌, ◌==◌, if◌then◌else◌}
use Rattle.pbx_parse_token.specs.declared.token.Place.{Place}

abbrev pub step : ℕ → Place → Place
step b p = if b == 10 then record { line = p.line + 1; column = 0 } else record { line = p.line; column = p.column + 1 }

-- the place after these bytes
abbrev pub place_after : List ℕ → Place → Place
place_after [] p = p
place_after (b ∷ bs) p = place_after bs (step b p)
