-- What the messages that the code looks at are in the tree.
use Rattle.std.specs.Prelude.{◌≡◌, ℕ, [], ◌∷◌}
use Rattle.pbx_parse_tree.specs.Tree.{Head, Item, Top}
use Rattle.pbx_parse_tree.specs.View.{BodyItem, plain, nested, body_of}
use Rattle.pbx_parse_locations.specs.declared.block.Block.{Block}
use Rattle.pbx_parse_locations.specs.declared.block.Nested.{Nested}
use Rattle.pbx_parse_locations.specs.declared.block.Nested.TheVariants as nested_messages
use Rattle.pbx_parse_locations.specs.Locations.{entries, top_messages}

-- the message of a body is this one
pub record IsMessageIn (x : BodyItem) (b : Block) : Type 0 where
  pub head : Head
  pub is : x ≡ nested head (body_of b.items.now) b.close
  pub keyword : head.keyword ≡ b.keyword
  pub name : head.name.span ≡ b.name

-- the item is none, and so many nested messages are made of it
pub record IsPlain (x : BodyItem) (count : ℕ) : Type 0 where
  pub item : Item
  pub is : x ≡ plain item
  pub made : entries item ≡ count

-- the nested message that is made of it
abbrev pub IsNested : BodyItem → Nested → Type 0
IsNested x (nested_messages.Message b) = IsMessageIn x b
IsNested x nested_messages.Entry = IsPlain x 1
IsNested x nested_messages.None = IsPlain x 0

-- no message stands here
abbrev pub HasNone : Top → Type 0
HasNone t = top_messages t ≡ []

-- the message that stands here is this one
pub record IsMessage (t : Top) (b : Block) : Type 0 where
  pub head : Head
  pub is : top_messages t ≡ (head, body_of b.items.now, b.close) ∷ []
  pub keyword : head.keyword ≡ b.keyword
  pub name : head.name.span ≡ b.name
