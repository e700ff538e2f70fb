-- The items of a message as items of its body.
use Rattle.std.proofs.Common.{◌≡◌, List, [], ◌∷◌, ◌++◌, map, refl, sym, ap, ◌∙◌, append-nil}
use Rattle.std.specs.declared.vec.Vec.{Vec}
use Rattle.std.specs.declared.alloc.Global.{Global}
use Rattle.pbx_parse_token.specs.declared.token.Span.{Span}
use Rattle.pbx_desc_records.specs.declared.message.DescriptorProto.{DescriptorProto}
use Rattle.pbx_parse_tree.specs.declared.tree.Head as code_head
use Rattle.pbx_parse_tree.specs.declared.tree.MapField as code_map
use Rattle.pbx_parse_tree.specs.declared.tree.Extensions as code_extensions
use Rattle.pbx_parse_tree.specs.declared.tree.Range as code_range
use Rattle.pbx_parse_tree.specs.declared.tree.Version.{Version}
use Rattle.pbx_parse_tree.specs.declared.tree.RangeNumber as code_range_number
use Rattle.pbx_parse_tree.specs.declared.tree.Item as items
use Rattle.pbx_parse_tree.specs.declared.tree.Item.TheOpen as layers
use Rattle.pbx_parse_tree.specs.declared.tree.Item.{Item, out-Item, roll-Item, roll-out-Item, map-Item, fold_out-Item}
use Rattle.pbx_parse_tree.specs.declared.tree.Item.TheVariants.{rolls-Map, rolls-Message, outs-Map, outs-Message, outs-Extensions}
use Rattle.pbx_parse_tree.specs.Tree.{item_map, item_extensions}
use Rattle.pbx_parse_tree.specs.View.{head_of, map_of, extensions_of, range_of, range_number_of, BodyItem, plain, nested, item_step, item_of, body_of}
use Rattle.pbx_parse_translation.specs.Passes.{listed}
use Rattle.pbx_parse_translation.specs.Fields.{entry_record}
use Rattle.pbx_parse_translation.specs.Messages.{extension_range, extension_ranges_in, message_with, nested_types}
use Rattle.pbx_parse_translation.proofs.Lists.{listed_seen}
use Rattle.pbx_parse_translation.proofs.Counted.{types_in}

-- an item by its outermost layer
abbrev pub layer : layers.Item-F Item → BodyItem
layer l = item_step (map-Item Item BodyItem item_of l)

layer_of : (x : Item) → item_of x ≡ layer (out-Item x)
layer_of x = fold_out-Item BodyItem item_step x

pub body_item_of_map : (m : code_map.MapField) → item_of (items.Map m) ≡ plain (item_map (map_of m))
body_item_of_map m = layer_of (items.Map m) ∙ ap layer (outs-Map m)

pub body_item_of_message : (h : code_head.Head) (is : Vec Item Global) (close : Span) → item_of (items.Message h is close) ≡ nested (head_of h) (body_of is.items) close
body_item_of_message h is close = layer_of (items.Message h is close) ∙ ap layer (outs-Message h is close)

pub body_item_of_extensions : (e : code_extensions.Extensions) → item_of (items.Extensions e) ≡ plain (item_extensions (extensions_of e))
body_item_of_extensions e = layer_of (items.Extensions e) ∙ ap layer (outs-Extensions e)

-- ---- ranges

pub extension_ranges_seen : (x : Item) (e : code_extensions.Extensions) → x ≡ items.Extensions e
    → map (λ (r : code_range.Range code_range_number.RangeNumber). extension_range (range_of range_number_of r)) (listed e.ranges) ≡ extension_ranges_in (item_of x)
extension_ranges_seen x e is = listed_seen extension_range (range_of range_number_of) e.ranges ∙ sym (ap extension_ranges_in (ap item_of is ∙ body_item_of_extensions e))

-- ---- nested types

no_type_in : (v : Version) (l : layers.Item-F Item)
    → ((h : code_head.Head) (is : Vec Item Global) (close : Span) → roll-Item l ≡ items.Message h is close → ⊥) → ((m : code_map.MapField) → roll-Item l ≡ items.Map m → ⊥)
    → types_in v (layer l) ≡ []
no_type_in v (layers.Message h is close) p q = absurd (p h is close (rolls-Message h is close))
no_type_in v (layers.Map m) p q = absurd (q m (rolls-Map m))
no_type_in v _ p q = refl

module _ (v : Version) (x : Item) (before after : List DescriptorProto) where
  -- what is neither a message nor a map field
  pub adds_no_type : ((h : code_head.Head) (is : Vec Item Global) (close : Span) → x ≡ items.Message h is close → ⊥) → ((m : code_map.MapField) → x ≡ items.Map m → ⊥)
      → after ≡ before → after ≡ before ++ types_in v (item_of x)
  adds_no_type p q same =
      same
      ∙ sym (append-nil before)
      ∙ ap (λ (ys : List DescriptorProto). before ++ ys) (sym (ap (types_in v) (layer_of x) ∙ no_type_in v (out-Item x) (λ h is close e. p h is close (sym (roll-out-Item x) ∙ e)) (λ m e. q m (sym (roll-out-Item x) ∙ e))))

  pub adds_entry : (m : code_map.MapField) → x ≡ items.Map m → after ≡ before ++ entry_record (map_of m) ∷ [] → after ≡ before ++ types_in v (item_of x)
  adds_entry m e added = added ∙ ap (λ (p : BodyItem). before ++ types_in v p) (sym (ap item_of e ∙ body_item_of_map m))

  pub adds_message : (h : code_head.Head) (is : Vec Item Global) (close : Span) (inner : List Item) (types : List DescriptorProto) (r : DescriptorProto) → x ≡ items.Message h is close
      → inner ≡ is.items → types ≡ nested_types v (body_of is.items) → r ≡ message_with v h.name.text.now (body_of inner) types → after ≡ before ++ r ∷ [] → after ≡ before ++ types_in v (item_of x)
  adds_message h is close inner types r e same below made added =
      added
      ∙ ap (λ (y : DescriptorProto). before ++ y ∷ [])
      (made ∙ ap (λ (ys : List Item). message_with v h.name.text.now (body_of ys) types) same ∙ ap (message_with v h.name.text.now (body_of is.items)) below)
      ∙ ap (λ (p : BodyItem). before ++ types_in v p) (sym (ap item_of e ∙ body_item_of_message h is close))
