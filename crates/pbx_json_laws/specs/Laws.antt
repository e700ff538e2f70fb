-- What holds of the names in the shape of a pool.
use Rattle.std.specs.Prelude.{List, []}
use Rattle.pbx_desc_records.specs.declared.file.FileDescriptorProto.{FileDescriptorProto}
use Rattle.pbx_link_rules.specs.Pool.{ArePooled}
use Rattle.pbx_link_meaning.specs.Shapes.{shape_of}
use Rattle.pbx_link_shapes.specs.EnumNumbers.{HasEnumNumbers}
use Rattle.pbx_json_meaning.specs.Named.{IsWellNamed}

-- Fields, extensions and values of enums are found by their names, where the numbers of the values have 32 bits, as their type has it.
abbrev pub ShapesAreWellNamed : Type 0
ShapesAreWellNamed = (pool : List FileDescriptorProto) → ArePooled [] pool → HasEnumNumbers (shape_of pool) → IsWellNamed (shape_of pool)
