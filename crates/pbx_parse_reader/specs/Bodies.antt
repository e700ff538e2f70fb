-- One item of a body, as it is read.
use Rattle.std.specs.Prelude.{ℕ, zero, suc, List, ◌∷◌, Bool, false, ◌&&◌}
use Rattle.pbx_parse_token.specs.Tokens.{Token}
use Rattle.pbx_parse_tree.specs.declared.tree.Version.{Version}
use Rattle.pbx_parse_tree.specs.Tree.{Setting, Body}
use Rattle.pbx_parse_tree.specs.Grammar.{marked, item_then, head_then, body_then}
use Rattle.pbx_parse_tree.specs.Conditions.{body_fits, message_options_fit}
use Rattle.pbx_parse_tree.specs.View.{BodyItem, plain, nested}
use Rattle.pbx_parse_reader.specs.Blocks.{item_behind}

-- the tokens of an item, and then the rest
abbrev pub body_item_then : BodyItem → List Token → List Token
body_item_then (plain i) rest = item_then i rest
body_item_then (nested h inner close) rest = head_then h (body_then inner (marked 125 close ∷ rest))

-- the items fit, messages among them nest at most so many levels, and the options are a message's
abbrev pub message_fits : Version → ℕ → Body → Bool
message_fits v levels b = body_fits v levels b && message_options_fit b

-- an item may stand behind these options, where messages nest at most so many levels
abbrev pub body_item_behind : Version → ℕ → List Setting → BodyItem → Bool
body_item_behind v levels before (plain i) = item_behind v before i
body_item_behind v zero before (nested h inner close) = false
body_item_behind v (suc levels) before (nested h inner close) = message_fits v levels inner
