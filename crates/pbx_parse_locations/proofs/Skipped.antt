-- Items of another kind than the one that is looked for have nothing of that kind.
use Rattle.std.proofs.Common.{◌≡◌, [], refl}
use Rattle.pbx_parse_tree.specs.declared.tree.Kind.{Kind}
use Rattle.pbx_parse_tree.specs.declared.tree.Tail.{Tail}
use Rattle.pbx_parse_tree.specs.declared.tree.Field.{Field}
use Rattle.pbx_parse_tree.specs.declared.tree.Value.{Value}
use Rattle.pbx_parse_tree.specs.declared.tree.Method.{Method}
use Rattle.pbx_parse_tree.specs.declared.tree.Import.{Import}
use Rattle.pbx_parse_tree.specs.declared.tree.Message.{Message}
use Rattle.pbx_parse_tree.specs.declared.tree.Enum.{Enum}
use Rattle.pbx_parse_tree.specs.declared.tree.Extend.{Extend}
use Rattle.pbx_parse_tree.specs.declared.tree.Service.{Service}
use Rattle.pbx_parse_tree.specs.declared.tree.Member.{Member}
use Rattle.pbx_parse_tree.specs.declared.tree.Extension.{Extension}
use Rattle.pbx_parse_tree.specs.declared.tree.EnumItem.{EnumItem}
use Rattle.pbx_parse_tree.specs.declared.tree.ServiceItem.{ServiceItem}
use Rattle.pbx_parse_tree.specs.declared.tree.Top.{Top}
use Rattle.pbx_parse_tree.specs.declared.tree.Member.TheVariants as members
use Rattle.pbx_parse_tree.specs.declared.tree.Extension.TheVariants as extensions
use Rattle.pbx_parse_tree.specs.declared.tree.EnumItem.TheVariants as enum_items
use Rattle.pbx_parse_tree.specs.declared.tree.ServiceItem.TheVariants as service_items
use Rattle.pbx_parse_tree.specs.declared.tree.Top.TheVariants as tops
use Rattle.pbx_parse_tree.specs.View.{member_of, extension_of, enum_item_of, service_item_of, top_of}
use Rattle.pbx_parse_locations.specs.Locations.{member_parts, extension_parts, item_values, item_methods, top_imports, top_messages, top_enums, top_extensions, top_services}

pub no_member : (x : Member) → ((k : Kind) (t : Tail) → x ≡ members.Field k t → ⊥) → member_parts (member_of x) ≡ []
no_member (members.Field k t) h = absurd (h k t refl)
no_member _ h = refl

pub no_extension : (x : Extension) → ((f : Field) → x ≡ extensions.Field f → ⊥) → extension_parts (extension_of x) ≡ []
no_extension (extensions.Field f) h = absurd (h f refl)
no_extension _ h = refl

pub no_value : (x : EnumItem) → ((v : Value) → x ≡ enum_items.Value v → ⊥) → item_values (enum_item_of x) ≡ []
no_value (enum_items.Value v) h = absurd (h v refl)
no_value _ h = refl

pub no_method : (x : ServiceItem) → ((m : Method) → x ≡ service_items.Method m → ⊥) → item_methods (service_item_of x) ≡ []
no_method (service_items.Method m) h = absurd (h m refl)
no_method _ h = refl

pub no_import : (x : Top) → ((y : Import) → x ≡ tops.Import y → ⊥) → top_imports (top_of x) ≡ []
no_import (tops.Import y) h = absurd (h y refl)
no_import _ h = refl

pub no_message : (x : Top) → ((y : Message) → x ≡ tops.Message y → ⊥) → top_messages (top_of x) ≡ []
no_message (tops.Message y) h = absurd (h y refl)
no_message _ h = refl

pub no_enum_at_top : (x : Top) → ((y : Enum) → x ≡ tops.Enum y → ⊥) → top_enums (top_of x) ≡ []
no_enum_at_top (tops.Enum y) h = absurd (h y refl)
no_enum_at_top _ h = refl

pub no_extend_at_top : (x : Top) → ((y : Extend) → x ≡ tops.Extend y → ⊥) → top_extensions (top_of x) ≡ []
no_extend_at_top (tops.Extend y) h = absurd (h y refl)
no_extend_at_top _ h = refl

pub no_service : (x : Top) → ((y : Service) → x ≡ tops.Service y → ⊥) → top_services (top_of x) ≡ []
no_service (tops.Service y) h = absurd (h y refl)
no_service _ h = refl
