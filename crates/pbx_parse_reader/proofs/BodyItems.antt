-- The items of a message as items of its body.
use Rattle.std.proofs.Common.{◌≡◌, ap, ◌∙◌}
use Rattle.std.specs.declared.vec.Vec.{Vec}
use Rattle.std.specs.declared.alloc.Global.{Global}
use Rattle.pbx_parse_token.specs.declared.token.Span.{Span}
use Rattle.pbx_parse_tree.specs.declared.tree.Head as code_head
use Rattle.pbx_parse_tree.specs.declared.tree.Field as code_field
use Rattle.pbx_parse_tree.specs.declared.tree.MapField as code_map
use Rattle.pbx_parse_tree.specs.declared.tree.Oneof as code_oneof
use Rattle.pbx_parse_tree.specs.declared.tree.Enum as code_enum
use Rattle.pbx_parse_tree.specs.declared.tree.Extend as code_extend
use Rattle.pbx_parse_tree.specs.declared.tree.Extensions as code_extensions
use Rattle.pbx_parse_tree.specs.declared.tree.Reserved as code_reserved
use Rattle.pbx_parse_tree.specs.declared.tree.RangeNumber as code_range_number
use Rattle.pbx_parse_tree.specs.declared.tree.Statement as code_statement
use Rattle.pbx_parse_tree.specs.declared.tree.Item as items
use Rattle.pbx_parse_tree.specs.declared.tree.Item.TheOpen as layers
use Rattle.pbx_parse_tree.specs.declared.tree.Item.{Item, out-Item, map-Item, fold_out-Item}
use Rattle.pbx_parse_tree.specs.declared.tree.Item.TheVariants.{outs-Empty, outs-Field, outs-Map, outs-Oneof, outs-Enum, outs-Extend, outs-Extensions, outs-Reserved, outs-Option, outs-Message}
use Rattle.pbx_parse_tree.specs.Tree.{empty_item, item_field, item_map, item_oneof, item_enum, item_extend, item_extensions, item_reserved, item_option}
use Rattle.pbx_parse_tree.specs.View.{head_of, field_of, map_of, oneof_of, enum_of, extend_of, extensions_of, reserved_of, range_number_of, statement_of, BodyItem, plain, nested, item_step, item_of, body_of}

-- an item by its outermost layer
abbrev layer : layers.Item-F Item → BodyItem
layer l = item_step (map-Item Item BodyItem item_of l)

layer_of : (x : Item) → item_of x ≡ layer (out-Item x)
layer_of x = fold_out-Item BodyItem item_step x

pub body_item_of_map : (m : code_map.MapField) → item_of (items.Map m) ≡ plain (item_map (map_of m))
body_item_of_map m = layer_of (items.Map m) ∙ ap layer (outs-Map m)

pub body_item_of_message : (h : code_head.Head) (is : Vec Item Global) (close : Span) → item_of (items.Message h is close) ≡ nested (head_of h) (body_of is.items) close
body_item_of_message h is close = layer_of (items.Message h is close) ∙ ap layer (outs-Message h is close)

pub body_item_of_empty : (s : Span) → item_of (items.Empty s) ≡ plain (empty_item s)
body_item_of_empty s = layer_of (items.Empty s) ∙ ap layer (outs-Empty s)

pub body_item_of_field : (s : code_field.Field) → item_of (items.Field s) ≡ plain (item_field (field_of s))
body_item_of_field s = layer_of (items.Field s) ∙ ap layer (outs-Field s)

pub body_item_of_oneof : (s : code_oneof.Oneof) → item_of (items.Oneof s) ≡ plain (item_oneof (oneof_of s))
body_item_of_oneof s = layer_of (items.Oneof s) ∙ ap layer (outs-Oneof s)

pub body_item_of_enum : (s : code_enum.Enum) → item_of (items.Enum s) ≡ plain (item_enum (enum_of s))
body_item_of_enum s = layer_of (items.Enum s) ∙ ap layer (outs-Enum s)

pub body_item_of_extend : (s : code_extend.Extend) → item_of (items.Extend s) ≡ plain (item_extend (extend_of s))
body_item_of_extend s = layer_of (items.Extend s) ∙ ap layer (outs-Extend s)

pub body_item_of_extensions : (s : code_extensions.Extensions) → item_of (items.Extensions s) ≡ plain (item_extensions (extensions_of s))
body_item_of_extensions s = layer_of (items.Extensions s) ∙ ap layer (outs-Extensions s)

pub body_item_of_reserved : (s : code_reserved.Reserved code_range_number.RangeNumber) → item_of (items.Reserved s) ≡ plain (item_reserved (reserved_of range_number_of s))
body_item_of_reserved s = layer_of (items.Reserved s) ∙ ap layer (outs-Reserved s)

pub body_item_of_option : (s : code_statement.Statement) → item_of (items.Option s) ≡ plain (item_option (statement_of s))
body_item_of_option s = layer_of (items.Option s) ∙ ap layer (outs-Option s)
