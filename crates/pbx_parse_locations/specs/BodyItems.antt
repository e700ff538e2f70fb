-- What one item of a body has.
use Rattle.std.specs.Prelude.{List, []}
use Rattle.pbx_parse_tree.specs.Tree.{Item}
use Rattle.pbx_parse_tree.specs.View.{BodyItem, plain, nested}

-- a message has nothing of its own
abbrev pub of_body_item : {A : Type 0} → (Item → List A) → BodyItem → List A
of_body_item one (plain i) = one i
of_body_item one (nested h inner close) = []
