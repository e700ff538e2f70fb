-- What stands at a place of the shape of a pool.
use Rattle.std.proofs.Common.{◌≡◌, ◌∙◌, ◌⊎◌, ℕ, zero, suc, ◌+◌, ◌==◌, if◌then◌else◌, List, [], ◌∷◌, map, Bool, true, false, Option, Some, None, refl, ap, sym, subst, inl, inr, arith}
use Rattle.std.specs.Prelude.{Contains}
use Rattle.std.specs.List.{flat_map}
use Rattle.pbx_content.specs.Shape.{declared_at, enum_values_at, field_of}
use Rattle.pbx_content.specs.declared.shape.EnumValueShape.{EnumValueShape}
use Rattle.pbx_content.specs.declared.shape.FieldShape.{FieldShape}
use Rattle.pbx_desc_records.specs.declared.enumeration.EnumDescriptorProto.{EnumDescriptorProto}
use Rattle.pbx_desc_records.specs.declared.file.FileDescriptorProto.{FileDescriptorProto}
use Rattle.pbx_desc_records.specs.declared.message.DescriptorProto.{DescriptorProto}
use Rattle.pbx_link_definitions.specs.Definitions.{Part}
use Rattle.pbx_link_meaning.specs.Descriptors.{Described, described, all_parts}
use Rattle.pbx_link_meaning.specs.Shapes.{message_shape, enum_shape}
use Rattle.pbx_link_rules.proofs.Lists.{here, there}
use Rattle.pbx_link_rules.proofs.Types.{source}
use Rattle.pbx_link_meaning.proofs.Lists.{told_of}

-- a part of a file of the pool
pub record IsPart {X : Type 0} (tell : FileDescriptorProto → List (Part X)) (pool : List FileDescriptorProto) (d : Described X) : Type 0 where
  pub file : FileDescriptorProto
  pub part : Part X
  pub in_pool : Contains pool file
  pub in_file : Contains (tell file) part
  pub made : described pool file part ≡ d

pub is_part : {X : Type 0} (tell : FileDescriptorProto → List (Part X)) (pool : List FileDescriptorProto) (d : Described X) → Contains (all_parts tell pool) d
    → IsPart tell pool d
is_part tell pool d c =
    let t = told_of (λ (f : FileDescriptorProto). map (described pool f) (tell f)) pool d c in
    let s = source (described pool t.holder) (tell t.holder) d t.inside in
    record { file = t.holder; part = s.item; in_pool = t.within; in_file = s.within; made = s.made }

-- the fields of a message, or none
pub record IsMessageAt (ds : List (Described DescriptorProto)) (t : ℕ) : Type 0 where
  pub message : Described DescriptorProto
  pub within : Contains ds message
  pub fields : declared_at (map message_shape ds) t ≡ (message_shape message).fields

pub message_at : (ds : List (Described DescriptorProto)) (t : ℕ) → (declared_at (map message_shape ds) t ≡ []) ⊎ IsMessageAt ds t
message_at [] t = inl refl
message_at (d ∷ ds) zero = inr (record { message = d; within = here d ds; fields = refl })
message_at (d ∷ ds) (suc t) = at (message_at ds t)
  where
    at : (declared_at (map message_shape ds) t ≡ []) ⊎ IsMessageAt ds t → (declared_at (map message_shape (d ∷ ds)) (suc t) ≡ []) ⊎ IsMessageAt (d ∷ ds) (suc t)
    at (inl empty) = inl empty
    at (inr m) = inr (record { message = m.message; within = there d m.message ds m.within; fields = m.fields })

-- the values of an enum, or none
pub record IsEnumAt (ds : List (Described EnumDescriptorProto)) (e : ℕ) : Type 0 where
  pub enumeration : Described EnumDescriptorProto
  pub within : Contains ds enumeration
  pub values : enum_values_at (map enum_shape ds) e ≡ (enum_shape enumeration).values

pub enum_at : (ds : List (Described EnumDescriptorProto)) (e : ℕ) → (enum_values_at (map enum_shape ds) e ≡ []) ⊎ IsEnumAt ds e
enum_at [] e = inl refl
enum_at (d ∷ ds) zero = inr (record { enumeration = d; within = here d ds; values = refl })
enum_at (d ∷ ds) (suc e) = at (enum_at ds e)
  where
    at : (enum_values_at (map enum_shape ds) e ≡ []) ⊎ IsEnumAt ds e → (enum_values_at (map enum_shape (d ∷ ds)) (suc e) ≡ []) ⊎ IsEnumAt (d ∷ ds) (suc e)
    at (inl empty) = inl empty
    at (inr m) = inr (record { enumeration = m.enumeration; within = there d m.enumeration ds m.within; values = m.values })

-- the field of a number is one of the fields
pub field_there : (n : ℕ) (fs : List FieldShape) (f : FieldShape) → field_of n fs ≡ Some f → Contains fs f
field_there n [] f e = absurd (cc)
field_there n (g ∷ gs) f e = at (n == g.number) e (field_there n gs f)
  where
    at : (b : Bool) → (if b then Some g else field_of n gs) ≡ Some f → (field_of n gs ≡ Some f → Contains gs f) → Contains (g ∷ gs) f
    at true k more = let same : g ≡ f = cc in subst (λ (x : FieldShape). Contains (g ∷ gs) x) same (here g gs)
    at false k more = there g f gs (more k)
