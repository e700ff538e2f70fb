-- Messages, enums and fields of a pool where they stand.
use Rattle.std.proofs.Common.{◌≡◌, ◌∙◌, ℕ, zero, suc, nat_lt, cond, length, List, [], ◌∷◌, map, Bool, true, Option, Some, None, ap, sym, subst, arith}
use Rattle.std.specs.Prelude.{Contains, find, position, unwrap_or, option_and_then, slice_get}
use Rattle.std.specs.List.{flat_map, position_or_len}
use Rattle.std.specs.Str.{bytes_eq}
use Rattle.std.proofs.lemmas.Bool.Decides.{nat_tests}
use Rattle.std.proofs.lemmas.List.Elements.{Contains-append_left, Contains-append_right}
use Rattle.std.proofs.lemmas.List.Folds.{find_at}
use Rattle.std.proofs.lemmas.Option.{slice_get_within}
use Rattle.pbx_desc_records.specs.declared.enumeration.EnumDescriptorProto.{EnumDescriptorProto}
use Rattle.pbx_desc_records.specs.declared.field.FieldDescriptorProto.{FieldDescriptorProto}
use Rattle.pbx_desc_records.specs.declared.file.FileDescriptorProto.{FileDescriptorProto}
use Rattle.pbx_desc_records.specs.declared.message.DescriptorProto.{DescriptorProto}
use Rattle.pbx_link_definitions.specs.Definitions.{Part, messages, enums, message_name, enum_name, fields_in}
use Rattle.pbx_link_definitions.specs.Says.{is_proto3}
use Rattle.pbx_link_scope.specs.declared.types.Bound.{Bound}
use Rattle.pbx_link_scope.specs.declared.types.Bound.TheVariants.{Message as to_message, Enum as to_enum}
use Rattle.pbx_link_scope.specs.Scope.{bound_name}
use Rattle.pbx_link_scope.specs.Pooled.{file_types}
use Rattle.pbx_link_rules.specs.Pool.{ArePooled}
use Rattle.pbx_link_rules.proofs.Counted.{typed_once}
use Rattle.pbx_link_rules.proofs.Distinct.{pooled_are_distinct}
use Rattle.pbx_link_rules.proofs.Types.{source}
use Rattle.pbx_link_meaning.specs.Descriptors.{Described, described, all_messages, all_enums, message_of_name, enum_of_name, enum_referred, referred, fields_of_message}
use Rattle.pbx_link_meaning.specs.Shapes.{message_shape, enum_shape, place_of_enum, enum_place}
use Rattle.pbx_link_meaning.proofs.Lists.{told_of, is_told, one_item}
use Rattle.pbx_link_meaning.proofs.PoolParts.{found_there}
use Rattle.pbx_message_laws.specs.Pools.{IsPooled}
use Rattle.pbx_message_laws.proofs.Listed.{mapped}
use Rattle.pbx_wkt_types.specs.Types.{message_name_at, enum_name_at}
use Rattle.pbx_wkt_types.specs.Shapes.{is_proto3_at}
use Rattle.pbx_wkt.proofs.Lists.{passes}

-- ---- what the shape says at a place

pub message_named : (ds : List (Described DescriptorProto)) (t : ℕ) (m : Described DescriptorProto) → slice_get ds t ≡ Some m
    → message_name_at (map message_shape ds) t ≡ message_name m.part
message_named [] t m e = absurd cc
message_named (d ∷ ds) zero m e = let is : d ≡ m = cc in ap (λ (c : Described DescriptorProto). message_name c.part) is
message_named (d ∷ ds) (suc t) m e = message_named ds t m e

pub message_proto3 : (ds : List (Described DescriptorProto)) (t : ℕ) (m : Described DescriptorProto) → slice_get ds t ≡ Some m
    → is_proto3_at (map message_shape ds) t ≡ is_proto3 m.file
message_proto3 [] t m e = absurd cc
message_proto3 (d ∷ ds) zero m e = let is : d ≡ m = cc in ap (λ (c : Described DescriptorProto). is_proto3 c.file) is
message_proto3 (d ∷ ds) (suc t) m e = message_proto3 ds t m e

pub enum_named : (ds : List (Described EnumDescriptorProto)) (t : ℕ) (m : Described EnumDescriptorProto) → slice_get ds t ≡ Some m
    → enum_name_at (map enum_shape ds) t ≡ enum_name m.part
enum_named [] t m e = absurd cc
enum_named (d ∷ ds) zero m e = let is : d ≡ m = cc in ap (λ (c : Described EnumDescriptorProto). enum_name c.part) is
enum_named (d ∷ ds) (suc t) m e = enum_named ds t m e

-- what is found stands at its position
found_place : {X : Type 0} (test : X → Bool) (xs : List X) (x : X) (n : ℕ) → find test xs ≡ Some x → slice_get xs (unwrap_or (position test xs) n) ≡ Some x
found_place test xs x n e =
    let at : slice_get xs (position_or_len test xs) ≡ Some x = sym (find_at test xs) ∙ e in
    let lt = slice_get_within xs (position_or_len test xs) x at in
    let is : nat_lt (position_or_len test xs) (length xs) ≡ true = grind (arith, nat_tests, lt) in
    ap (λ (b : Bool). slice_get xs (unwrap_or (cond b (Some (position_or_len test xs)) None) n)) is ∙ at

pub enum_there : (pool : List FileDescriptorProto) (name : Option (List ℕ)) (e : Described EnumDescriptorProto) → enum_referred pool name ≡ Some e
    → slice_get (all_enums pool) (place_of_enum pool name) ≡ Some e
enum_there pool name e h = at (referred name) h
  where
    at : (o : Option (List ℕ)) → option_and_then (enum_of_name pool) o ≡ Some e
        → slice_get (all_enums pool) (unwrap_or (option_and_then (enum_place pool) o) (length (all_enums pool))) ≡ Some e
    at None g = absurd cc
    at (Some q) g = found_place (λ (d : Described EnumDescriptorProto). bytes_eq (enum_name d.part) q) (all_enums pool) e (length (all_enums pool)) g

-- ---- names

-- no message has the name of an enum
pub names_apart : (pool : List FileDescriptorProto) → ArePooled [] pool → (q : List ℕ) (m : Described DescriptorProto) (e : Described EnumDescriptorProto)
    → message_of_name pool q ≡ Some m → enum_of_name pool q ≡ Some e → ⊥
names_apart pool pooled q m e h g =
    let of_message : Described DescriptorProto → Bool = λ d. bytes_eq (message_name d.part) q in
    let of_enum : Described EnumDescriptorProto → Bool = λ d. bytes_eq (enum_name d.part) q in
    let test : Bound → Bool = λ b. bytes_eq (bound_name b) q in
    let a = told_of (λ (f : FileDescriptorProto). map (described pool f) (messages f)) pool m (found_there of_message (all_messages pool) m h) in
    let b = told_of (λ (f : FileDescriptorProto). map (described pool f) (enums f)) pool e (found_there of_enum (all_enums pool) e g) in
    let p = source (described pool a.holder) (messages a.holder) m a.inside in
    let r = source (described pool b.holder) (enums b.holder) e b.inside in
    let first : Contains (flat_map file_types pool) (to_message p.item) =
    is_told file_types pool a.holder (to_message p.item) a.within
    (Contains-append_left (map to_message (messages a.holder)) (map to_enum (enums a.holder)) (to_message p.item) (mapped to_message (messages a.holder) p.item p.within)) in
    let second : Contains (flat_map file_types pool) (to_enum r.item) =
    is_told file_types pool b.holder (to_enum r.item) b.within
    (Contains-append_right (map to_message (messages b.holder)) (map to_enum (enums b.holder)) (to_enum r.item) (mapped to_enum (enums b.holder) r.item r.within)) in
    let bad : to_message p.item ≡ to_enum r.item =
    one_item test (flat_map file_types pool) (to_message p.item) (to_enum r.item) (typed_once pool (pooled_are_distinct pool pooled) q)
    first (ap of_message p.made ∙ passes of_message (all_messages pool) m h) second (ap of_enum r.made ∙ passes of_enum (all_enums pool) e g) in
    cc

-- ---- fields

-- where a message of a pool stands
pub record IsMessage (d : Described DescriptorProto) : Type 0 where
  pub file : FileDescriptorProto
  pub held : Contains d.pool file
  pub part : Part DescriptorProto
  pub there : Contains (messages file) part
  pub is : described d.pool file part ≡ d

pub message_stands : (d : Described DescriptorProto) → IsPooled d → IsMessage d
message_stands d of =
    let t = told_of (λ (f : FileDescriptorProto). map (described d.pool f) (messages f)) d.pool d of.within in
    let m = source (described d.pool t.holder) (messages t.holder) d t.inside in
    record { file = t.holder; held = t.within; part = m.item; there = m.within; is = m.made }

-- where a field of a message of a pool stands
pub record IsField (d : Described DescriptorProto) (x : Described FieldDescriptorProto) : Type 0 where
  pub message : IsMessage d
  pub part : Part FieldDescriptorProto
  pub there : Contains (fields_in message.part) part
  pub is : described d.pool message.file part ≡ x

pub field_stands : (d : Described DescriptorProto) → IsPooled d → (x : Described FieldDescriptorProto) → Contains (fields_of_message d) x → IsField d x
field_stands d of x c =
    let m = message_stands d of in
    let own = source (described d.pool m.file) (fields_in m.part) x
    (subst (λ (e : Described DescriptorProto). Contains (fields_of_message e) x) (sym m.is) c) in
    record { message = m; part = own.item; there = own.within; is = own.made }
