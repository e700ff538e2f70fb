-- The tokens of what some statements begin with, and then the rest.
use Rattle.std.specs.Prelude.{List, ◌∷◌, codes}
use Rattle.pbx_parse_token.specs.Tokens.{Token}
use Rattle.pbx_parse_tree.specs.Words.{scalar_word}
use Rattle.pbx_parse_tree.specs.Grammar.{marked, worded}
use Rattle.pbx_parse_reader.specs.declared.fields.MapFront.{MapFront}

-- map < SCALAR ,
abbrev pub map_front_then : MapFront → List Token → List Token
map_front_then f rest = worded (codes "map") f.keyword ∷ marked 60 f.open ∷ worded (scalar_word f.key) f.key_span ∷ marked 44 f.comma ∷ rest
