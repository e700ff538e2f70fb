use Rattle.std.proofs.Common.{◌≡◌, ◌∙◌, ◌++◌, ℕ, List, OnOk, sym, ap, subst}
use Rattle.std.specs.List.{flat_map}
use Rattle.pbx_parse_tree.specs.declared.tree.Enum.{Enum}
use Rattle.pbx_parse_tree.specs.declared.tree.Extend.{Extend}
use Rattle.pbx_parse_tree.specs.declared.tree.Item as items
use Rattle.pbx_parse_tree.specs.declared.tree.Item.{fold-roll-Item}
use Rattle.pbx_parse_tree.specs.declared.tree.Item.TheOpen as layers
use Rattle.pbx_parse_tree.specs.declared.tree.Item.TheVariants.{rolls-Oneof, rolls-Enum, rolls-Extend}
use Rattle.pbx_parse_tree.specs.declared.tree.Oneof.{Oneof}
use Rattle.pbx_parse_tree.specs.Tree.{item_oneof, item_enum, item_extend}
use Rattle.pbx_parse_tree.specs.View.{member_of, extension_of, enum_item_of, oneof_of, enum_of, extend_of, BodyItem, plain, item_step, item_of}
use Rattle.pbx_parse_translation.specs.Messages.{member_names, value_names, extension_names, names_in}
use Rattle.pbx_parse_translation.specs.Scope.{Holds}
use Rattle.pbx_parse_translation.proofs.Lists.{flat_seen}
use Rattle.pbx_parse_translation.proofs.Taken.{parts_named}
use Rattle.pbx_parse_translation.proofs.scope.ItemNames.add_names.Goals as goal

oneof_body_item : (o : Oneof) → item_of (items.Oneof o) ≡ plain (item_oneof (oneof_of o))
oneof_body_item o = ap item_of (sym (rolls-Oneof o)) ∙ fold-roll-Item BodyItem item_step (layers.Oneof o)

enum_body_item : (e : Enum) → item_of (items.Enum e) ≡ plain (item_enum (enum_of e))
enum_body_item e = ap item_of (sym (rolls-Enum e)) ∙ fold-roll-Item BodyItem item_step (layers.Enum e)

extend_body_item : (e : Extend) → item_of (items.Extend e) ≡ plain (item_extend (extend_of e))
extend_body_item e = ap item_of (sym (rolls-Extend e)) ∙ fold-roll-Item BodyItem item_step (layers.Extend e)

-- in the words of the item
abbrev all_names : List (List ℕ) → BodyItem → List (List ℕ)
all_names before p = before ++ names_in p

pub returns-in-Oneof : goal.returns-in-Oneof
returns-in-Oneof c = λ before h.
    let it = c.in-Oneof.oneof in
    let P : List (List ℕ) → Type 0 = λ names. OnOk c.add_with_parts.result (Holds c.add_with_parts.new.scope names) in
    subst P
    (parts_named member_names member_of before it.name.text.now c.as_slice.result.now it.members.items c.as_slice.ensures.value ∙ ap (all_names before) (sym (ap item_of c.in-Oneof.is ∙ oneof_body_item it)))
    (c.add_with_parts.ensures before h)

pub returns-in-Enum : goal.returns-in-Enum
returns-in-Enum c = λ before h.
    let it = c.in-Enum.item in
    let P : List (List ℕ) → Type 0 = λ names. OnOk c.add_with_parts-in-Enum.result (Holds c.add_with_parts-in-Enum.new.scope names) in
    subst P
    (parts_named value_names enum_item_of before it.name.text.now c.as_slice-in-Enum.result.now it.items.items c.as_slice-in-Enum.ensures.value ∙ ap (all_names before) (sym (ap item_of c.in-Enum.is ∙ enum_body_item it)))
    (c.add_with_parts-in-Enum.ensures before h)

pub returns-in-Extend : goal.returns-in-Extend
returns-in-Extend c = λ before h.
    let it = c.in-Extend.extend in
    let P : List (List ℕ) → Type 0 = λ names. OnOk c.add_all_names.result (Holds c.add_all_names.new.scope names) in
    subst P
    (ap (λ xs. before ++ flat_map (λ x. extension_names (extension_of x)) xs) c.as_slice-in-Extend.ensures.value
    ∙ ap (λ names. before ++ names) (flat_seen extension_names extension_of it.extensions.items)
    ∙ ap (all_names before) (sym (ap item_of c.in-Extend.is ∙ extend_body_item it)))
    (c.add_all_names.ensures before h)
