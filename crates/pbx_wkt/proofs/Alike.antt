-- The kinds that descriptors answer, and those of the shape of their pool.
use Rattle.std.proofs.Common.{◌≡◌, ◌∙◌, ℕ, ◌==◌, ◌||◌, if◌then◌else◌, List, [], Bool, true, false, Option, Some, None, refl, ap, sym, subst}
use Rattle.std.specs.Prelude.{ℤ, pos, negsuc, Contains, is_some, option_map, option_and_then}
use Rattle.std.specs.Str.{bytes_eq}
use Rattle.pbx_content.specs.declared.shape.Kind.{Kind}
use Rattle.pbx_content.specs.declared.shape.Kind.TheVariants as kind
use Rattle.pbx_content.specs.declared.shape.Shape.{Shape}
use Rattle.pbx_desc_records.specs.declared.enumeration.EnumDescriptorProto.{EnumDescriptorProto}
use Rattle.pbx_desc_records.specs.declared.field.FieldDescriptorProto.{FieldDescriptorProto}
use Rattle.pbx_desc_records.specs.declared.file.FileDescriptorProto.{FileDescriptorProto}
use Rattle.pbx_desc_records.specs.declared.message.DescriptorProto.{DescriptorProto}
use Rattle.pbx_link_definitions.specs.Definitions.{Part, messages, fields_in}
use Rattle.pbx_link_definitions.specs.Says.{is_number, number_or_zero}
use Rattle.pbx_link_rules.specs.Pool.{ArePooled}
use Rattle.pbx_link_meaning.specs.Descriptors.{Described, all_messages, all_enums, message_of_name, enum_of_name, message_referred, enum_referred, referred}
use Rattle.pbx_link_meaning.specs.Shapes.{place_of_message, place_of_enum, scalar_kind, kind_by, shape_of}
use Rattle.pbx_message_laws.proofs.Typed.{referred_has_place}
use Rattle.pbx_link.specs.declared.kind.Kind.{Kind as Answer}
use Rattle.pbx_link.specs.declared.kind.Kind.TheVariants as answers
use Rattle.pbx_link.specs.Kinds.{scalar_of, kind_in}
use Rattle.pbx_link.specs.Tables.{part_at, no_field}
use Rattle.pbx_link.proofs.Types.{field_kind}
use Rattle.pbx_wkt_types.specs.Known.{Sort, scalar, message, enum}
use Rattle.pbx_wkt_types.specs.Shapes.{type_number, has_sort}
use Rattle.pbx_wkt_types.proofs.Declared.{is_scalar}
use Rattle.pbx_wkt.specs.Kinds.{kind_number, kind_has_sort}
use Rattle.pbx_wkt.proofs.Lists.{stands}
use Rattle.pbx_wkt.proofs.Places.{message_named, enum_named, enum_there, names_apart}
use Rattle.pbx_wkt.proofs.Rules.{IsTyped}

-- ---- scalars

-- a message or an enum
abbrev names_type : Answer → Bool
names_type (answers.Message m) = true
names_type (answers.Enum e) = true
names_type _ = false

-- both are one scalar
pub record AreAlike (a : Answer) (k : Kind) : Type 0 where
  pub number : kind_number a ≡ type_number k
  pub unnamed : names_type a ≡ false
  pub plain : is_scalar k ≡ true

pub floats_alike : AreAlike answers.Float kind.Float
floats_alike = record { number = refl; unnamed = refl; plain = refl }

one_or : (c : Bool) (a b : Answer) (k l : Kind) → kind_number a ≡ type_number k → names_type a ≡ false → is_scalar k ≡ true → AreAlike b l
    → AreAlike (if c then a else b) (if c then k else l)
one_or true a b k l number unnamed plain rest = record { number = number; unnamed = unnamed; plain = plain }
one_or false a b k l number unnamed plain rest = rest

scalars_alike : (n : ℕ) → AreAlike (scalar_of n) (scalar_kind n)
scalars_alike n =
    one_or (n == 1) answers.Double _ kind.Double _ refl refl refl (
    one_or (n == 2) answers.Float _ kind.Float _ refl refl refl (
    one_or (n == 3) answers.Int64 _ kind.Int64 _ refl refl refl (
    one_or (n == 4) answers.Uint64 _ kind.Uint64 _ refl refl refl (
    one_or (n == 5) answers.Int32 _ kind.Int32 _ refl refl refl (
    one_or (n == 6) answers.Fixed64 _ kind.Fixed64 _ refl refl refl (
    one_or (n == 7) answers.Fixed32 _ kind.Fixed32 _ refl refl refl (
    one_or (n == 8) answers.Bool _ kind.Bool _ refl refl refl (
    one_or (n == 9) answers.String _ kind.String _ refl refl refl (
    one_or (n == 12) answers.Bytes _ kind.Bytes _ refl refl refl (
    one_or (n == 13) answers.Uint32 _ kind.Uint32 _ refl refl refl (
    one_or (n == 15) answers.Sfixed32 _ kind.Sfixed32 _ refl refl refl (
    one_or (n == 16) answers.Sfixed64 _ kind.Sfixed64 _ refl refl refl (
    one_or (n == 17) answers.Sint32 answers.Sint64 kind.Sint32 kind.Sint64 refl refl refl
    (record { number = refl; unnamed = refl; plain = refl }))))))))))))))

no_message : (q : List ℕ) (a : Answer) → names_type a ≡ false → kind_has_sort (message q) a ≡ false
no_message q (answers.Message m) h = absurd cc
no_message q _ h = refl

no_enum : (q : List ℕ) (a : Answer) → names_type a ≡ false → kind_has_sort (enum q) a ≡ false
no_enum q (answers.Enum e) h = absurd cc
no_enum q _ h = refl

module _ (shape : Shape) where
  no_message_kind : (q : List ℕ) (k : Kind) → is_scalar k ≡ true → false ≡ has_sort shape (message q) k
  no_message_kind q (kind.Message t) h = absurd cc
  no_message_kind q _ h = refl

  no_enum_kind : (q : List ℕ) (k : Kind) → is_scalar k ≡ true → false ≡ has_sort shape (enum q) k
  no_enum_kind q (kind.Enum e) h = absurd cc
  no_enum_kind q _ h = refl

  pub sorts_alike : (a : Answer) (k : Kind) → AreAlike a k → (s : Sort) → kind_has_sort s a ≡ has_sort shape s k
  sorts_alike a k h (scalar c) = ap (λ (n : ℕ). type_number c == n) h.number
  sorts_alike a k h (message q) = no_message q a h.unnamed ∙ no_message_kind q k h.plain
  sorts_alike a k h (enum q) = no_enum q a h.unnamed ∙ no_enum_kind q k h.plain

-- ---- the record of a field

number_same : (o : Option ℤ) (k : ℕ) → false ≡ (0 == k) → is_number o k ≡ (number_or_zero o == k)
number_same None k h = h
number_same (Some (pos n)) k h = refl
number_same (Some (negsuc n)) k h = h

module _ (pool : List FileDescriptorProto) (pooled : ArePooled [] pool) where
  abbrev shape : Shape
  shape = shape_of pool

  message_alike : (name : Option (List ℕ)) (m : Described DescriptorProto) → message_referred pool name ≡ Some m → (s : Sort)
      → kind_has_sort s (answers.Message m) ≡ has_sort shape s (kind.Message (place_of_message pool name))
  message_alike name m e (scalar c) = refl
  message_alike name m e (message q) =
      ap (λ (t : List ℕ). bytes_eq t q) (sym (message_named (all_messages pool) (place_of_message pool name) m (referred_has_place pool name m pooled e).at))
  message_alike name m e (enum q) = refl

  enum_alike : (name : Option (List ℕ)) (y : Described EnumDescriptorProto) → enum_referred pool name ≡ Some y → (s : Sort)
      → kind_has_sort s (answers.Enum y) ≡ has_sort shape s (kind.Enum (place_of_enum pool name))
  enum_alike name y e (scalar c) = refl
  enum_alike name y e (message q) = refl
  enum_alike name y e (enum q) =
      ap (λ (t : List ℕ). bytes_eq t q) (sym (enum_named (all_enums pool) (place_of_enum pool name) y (enum_there pool name y e)))

  module _ (x : FieldDescriptorProto) (a : Answer) where
    abbrev n : ℕ
    n = number_or_zero x.kind

    abbrev told : Bool → Bool → Option Answer
    told b c =
        if b then option_map answers.Message (message_referred pool x.type_name)
        else (if c then option_map answers.Enum (enum_referred pool x.type_name) else Some (scalar_of n))

    -- the kind that is answered is that of the shape
    pub record_alike : kind_in pool x ≡ Some a → (s : Sort) → kind_has_sort s a ≡ has_sort shape s (kind_by pool n x.type_name)
    record_alike e s = at (n == 11) (n == 14) e
      where
        of_message : (o : Option (Described DescriptorProto)) → message_referred pool x.type_name ≡ o → option_map answers.Message o ≡ Some a
            → kind_has_sort s a ≡ has_sort shape s (kind.Message (place_of_message pool x.type_name))
        of_message None h e = absurd cc
        of_message (Some m) h e =
            let is : answers.Message m ≡ a = cc in
            subst (λ (b : Answer). kind_has_sort s b ≡ has_sort shape s (kind.Message (place_of_message pool x.type_name))) is (message_alike x.type_name m h s)

        of_enum : (o : Option (Described EnumDescriptorProto)) → enum_referred pool x.type_name ≡ o → option_map answers.Enum o ≡ Some a
            → kind_has_sort s a ≡ has_sort shape s (kind.Enum (place_of_enum pool x.type_name))
        of_enum None h e = absurd cc
        of_enum (Some y) h e =
            let is : answers.Enum y ≡ a = cc in
            subst (λ (b : Answer). kind_has_sort s b ≡ has_sort shape s (kind.Enum (place_of_enum pool x.type_name))) is (enum_alike x.type_name y h s)

        at : (b c : Bool) → told b c ≡ Some a
            → kind_has_sort s a ≡ has_sort shape s
            (if b then kind.Message (place_of_message pool x.type_name) else (if c then kind.Enum (place_of_enum pool x.type_name) else scalar_kind n))
        at true c e = of_message (message_referred pool x.type_name) refl e
        at false true e = of_enum (enum_referred pool x.type_name) refl e
        at false false e =
            let is : scalar_of n ≡ a = cc in
            subst (λ (b : Answer). kind_has_sort s b ≡ has_sort shape s (scalar_kind n)) is (sorts_alike shape (scalar_of n) (scalar_kind n) (scalars_alike n) s)

    -- a field whose type name is that of a message is of a message type
    pub is_message : (m : Described DescriptorProto) → IsTyped x.kind x.type_name → message_referred pool x.type_name ≡ Some m → kind_in pool x ≡ Some a
        → a ≡ answers.Message m
    is_message m typed h e = at (n == 11) (n == 14) refl refl e
      where
        apart : (o : Option (List ℕ)) (y : Described EnumDescriptorProto) → option_and_then (message_of_name pool) o ≡ Some m
            → option_and_then (enum_of_name pool) o ≡ Some y → ⊥
        apart None y p g = cc
        apart (Some q) y p g = names_apart pool pooled q m y p g

        no_enum_there : (o : Option (Described EnumDescriptorProto)) → enum_referred pool x.type_name ≡ o → option_map answers.Enum o ≡ Some a → ⊥
        no_enum_there None g e = cc
        no_enum_there (Some y) g e = apart (referred x.type_name) y h g

        unnamed : (o : Option (List ℕ)) → x.type_name ≡ o → (n == 11) ≡ false → (n == 14) ≡ false → ⊥
        unnamed None is u v =
            let bad : None ≡ Some m = sym (ap (message_referred pool) is) ∙ h in
            cc
        unnamed (Some q) is u v =
            let bad : false ≡ true =
            ap (λ (b : Bool). b || false) (sym u ∙ sym (number_same x.kind 11 refl))
            ∙ ap (λ (b : Bool). is_number x.kind 11 || b) (sym v ∙ sym (number_same x.kind 14 refl)) ∙ typed q is in
            cc

        at : (b c : Bool) → (n == 11) ≡ b → (n == 14) ≡ c → told b c ≡ Some a → a ≡ answers.Message m
        at true c u v e =
            let both : Some (answers.Message m) ≡ Some a = sym (ap (option_map answers.Message) h) ∙ e in
            cc
        at false true u v e = absurd (no_enum_there (enum_referred pool x.type_name) refl e)
        at false false u v e = absurd (unnamed x.type_name refl u v)

  -- each field has a kind
  pub kind_there : (f : FileDescriptorProto) → Contains pool f → (p : Part DescriptorProto) → Contains (messages f) p → (y : Part FieldDescriptorProto)
      → Contains (fields_in p) y → is_some (kind_in pool y.item) ≡ true
  kind_there f held p c y inside =
      let is : part_at no_field (fields_in p) inside.0 ≡ y = stands (fields_in p) inside.0 _ y inside.1 ∙ inside.2 in
      subst (λ (z : Part FieldDescriptorProto). is_some (kind_in pool z.item) ≡ true) is (field_kind pool pooled f held p inside.0 c inside.1)
