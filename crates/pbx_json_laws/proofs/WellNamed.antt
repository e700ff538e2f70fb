-- The shape of a pool is well named.
use Rattle.std.proofs.Common.{◌≡◌, ◌∙◌, ◌⊎◌, ℕ, ℤ, List, [], map, Bool, true, false, Option, Some, None, find, refl, ap, sym, subst, inl, inr}
use Rattle.std.specs.Prelude.{Contains}
use Rattle.pbx_content.specs.Shape.{declared_at, field_of, enum_values_at}
use Rattle.pbx_content.specs.declared.shape.EnumValueShape.{EnumValueShape}
use Rattle.pbx_content.specs.declared.shape.FieldShape.{FieldShape}
use Rattle.pbx_desc_records.specs.declared.file.FileDescriptorProto.{FileDescriptorProto}
use Rattle.pbx_desc_records.specs.declared.message.DescriptorProto.{DescriptorProto}
use Rattle.pbx_link_definitions.specs.Definitions.{messages, enums}
use Rattle.pbx_link_rules.specs.Pool.{ArePooled}
use Rattle.pbx_link_meaning.specs.Descriptors.{Described, all_messages, all_enums}
use Rattle.pbx_link_meaning.specs.Shapes.{message_shape, enum_shape, shape_of}
use Rattle.pbx_message_laws.specs.Pools.{IsPooled}
use Rattle.pbx_json_meaning.specs.Canonical.{value_of_number}
use Rattle.pbx_json_meaning.specs.Named.{IsOwn, IsExtension, IsWellNamed}
use Rattle.pbx_json_meaning.specs.Names.{name_is, extension_is}
use Rattle.pbx_json_meaning.specs.Urls.{is_type_key}
use Rattle.pbx_json_meaning.specs.Scalars.{value_named}
use Rattle.pbx_json_laws.specs.Laws.{ShapesAreWellNamed}
use Rattle.pbx_json_laws.proofs.FieldsOnce.{field_found, field_apart, field_plain, extension_plain, extension_found}
use Rattle.pbx_json_laws.proofs.Places.{IsMessageAt, message_at, IsEnumAt, enum_at, is_part, field_there}
use Rattle.pbx_json_laws.proofs.ValuesOnce.{value_found, numbers_fit}

module _ (pool : List FileDescriptorProto) (pooled : ArePooled [] pool) where
  abbrev declared : ℕ → List FieldShape
  declared t = declared_at (map message_shape (all_messages pool)) t

  none_there : (fs : List FieldShape) (n : ℕ) (f : FieldShape) → fs ≡ [] → field_of n fs ≡ Some f → ⊥
  none_there fs n f e h =
      let bad : None ≡ Some f = ap (field_of n) (sym e) ∙ h in
      cc

  -- the message is one of its own pool
  is_pooled : (d : Described DescriptorProto) → Contains (all_messages pool) d → IsPooled d
  is_pooled d c =
      let p = is_part messages pool d c in
      let P : List FileDescriptorProto → Type 0 = λ fs. ArePooled [] fs × Contains (all_messages fs) d in
      let both : P d.pool = subst P (ap (λ (x : Described DescriptorProto). x.pool) p.made) (pooled, c) in
      record { pooled = both.0; within = both.1 }

  -- what is said of the fields of each message
  by_message : (P : List FieldShape → FieldShape → Type 0) (e : Bool)
      → ((d : Described DescriptorProto) → Contains (all_messages pool) d → (f : FieldShape) → Contains (message_shape d).fields f → f.is_extension ≡ e
      → P (message_shape d).fields f)
      → (t n : ℕ) (f : FieldShape) → field_of n (declared t) ≡ Some f → f.is_extension ≡ e → P (declared t) f
  by_message P e said t n f h extends = at (message_at (all_messages pool) t)
    where
      at : (declared t ≡ []) ⊎ IsMessageAt (all_messages pool) t → P (declared t) f
      at (inl empty) = absurd (none_there (declared t) n f empty h)
      at (inr m) =
          let fs : List FieldShape = (message_shape m.message).fields in
          let there : Contains fs f = field_there n fs f (ap (field_of n) (sym m.fields) ∙ h) in
          let Q : List FieldShape → Type 0 = λ gs. P gs f in
          subst Q (sym m.fields) (said m.message m.within f there extends)

  values : (e : ℕ) (z : ℤ) (v : EnumValueShape) → value_of_number z (enum_values_at (map enum_shape (all_enums pool)) e) ≡ Some v
      → value_named v.name (enum_values_at (map enum_shape (all_enums pool)) e) ≡ Some v
  values e z v h = at (enum_at (all_enums pool) e)
    where
      at : (enum_values_at (map enum_shape (all_enums pool)) e ≡ []) ⊎ IsEnumAt (all_enums pool) e
          → value_named v.name (enum_values_at (map enum_shape (all_enums pool)) e) ≡ Some v
      at (inl empty) = absurd (let bad : None ≡ Some v = ap (value_of_number z) (sym empty) ∙ h in cc)
      at (inr m) =
          ap (value_named v.name) m.values
          ∙ value_found pool pooled m.enumeration (is_part enums pool m.enumeration m.within) z v (ap (value_of_number z) (sym m.values) ∙ h)

pub shapes_are_well_named : ShapesAreWellNamed
shapes_are_well_named pool pooled numbers =
    record {
      fields =
          λ t n f own. by_message pool pooled (λ fs g. find (name_is g.name) fs ≡ Some g) false
          (λ d c g k e. field_found pool pooled d (is_part messages pool d c) g k e) t n f own.0 own.1;
      apart =
          λ t n f own. by_message pool pooled (λ fs g. find (extension_is g.name) fs ≡ None) false
          (λ d c g k e. field_apart pool pooled d (is_part messages pool d c) g (is_pooled pool pooled d c) k e) t n f own.0 own.1;
      extensions =
          λ t n f own. by_message pool pooled (λ fs g. find (extension_is g.json_name) fs ≡ Some g) true
          (λ d c g k e. extension_found pool pooled d (is_part messages pool d c) g k e) t n f own.0 own.1;
      plain_names =
          λ t n f own. by_message pool pooled (λ fs g. is_type_key g.name ≡ false) false
          (λ d c g k e. field_plain pool pooled d (is_part messages pool d c) g (is_pooled pool pooled d c) k e) t n f own.0 own.1;
      plain_extensions =
          λ t n f own. by_message pool pooled (λ fs g. is_type_key g.json_name ≡ false) true
          (λ d c g k e. extension_plain pool pooled d (is_part messages pool d c) g k e) t n f own.0 own.1;
      numbers = λ e. numbers_fit (map enum_shape (all_enums pool)) e numbers;
      values = λ e z v h. values pool pooled e z v h;
    }
