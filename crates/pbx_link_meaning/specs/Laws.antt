-- What holds of the shape of a pool.
use Rattle.std.specs.Prelude.{ℕ, ◌==◌, List, [], map, IsTrue}
use Rattle.std.specs.List.{IsDistinct, list_all}
use Rattle.std.specs.Int.{w32}
use Rattle.std.specs.Int.RustNames.{FitsSigned}
use Rattle.pbx_wire.specs.Text.{is_record_number}
use Rattle.pbx_content.specs.Shape.{declared_of, first_number}
use Rattle.pbx_content.specs.Sound.{has_good_keys, AreProper, IsProper}
use Rattle.pbx_desc_records.specs.declared.file.FileDescriptorProto.{FileDescriptorProto}
use Rattle.pbx_link_rules.specs.Pool.{ArePooled}
use Rattle.pbx_link_meaning.specs.Shapes.{shape_of}

-- The numbers of the fields and extensions of each message are numbers that records may have.
abbrev pub NumbersAreValid : Type 0
NumbersAreValid =
    (pool : List FileDescriptorProto) → ArePooled [] pool → (t : ℕ) → IsTrue (list_all (λ f. is_record_number f.number) (declared_of (shape_of pool) t))

-- No number stands twice among the fields and extensions of a message.
abbrev pub NumbersAreDistinct : Type 0
NumbersAreDistinct =
    (pool : List FileDescriptorProto) → ArePooled [] pool → (t : ℕ) → IsDistinct (λ m n. m == n) (map (λ f. f.number) (declared_of (shape_of pool) t))

-- The keys of each field that is a map are of a kind that keys may have.
abbrev pub KeysAreValid : Type 0
KeysAreValid =
    (pool : List FileDescriptorProto) → ArePooled [] pool → (t : ℕ) → IsTrue (list_all (λ f. has_good_keys f.cardinality) (declared_of (shape_of pool) t))

-- The fields and extensions of each message are proper.
abbrev pub TypesAreProper : Type 0
TypesAreProper = (pool : List FileDescriptorProto) → ArePooled [] pool → (t : ℕ) → AreProper (declared_of (shape_of pool) t)

-- The shape is proper where the default of each enum is a number of 32 bits. No rule of linking says that: the type of a value's number does, `i32`.
abbrev pub ShapeIsProper : Type 0
ShapeIsProper =
    (pool : List FileDescriptorProto) → ArePooled [] pool → ((e : ℕ) → FitsSigned w32 (first_number (shape_of pool) e)) → IsProper (shape_of pool)
