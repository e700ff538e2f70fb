-- The numbers of the values of enums have 32 bits (Protocol Buffers "Language Guide (proto 3)": Enumerations).
use Rattle.std.specs.Prelude.{List}
use Rattle.std.specs.List.{All}
use Rattle.std.specs.Int.{w32}
use Rattle.std.specs.Int.RustNames.{FitsSigned}
use Rattle.pbx_content.specs.declared.shape.EnumShape.{EnumShape}
use Rattle.pbx_content.specs.declared.shape.EnumValueShape.{EnumValueShape}
use Rattle.pbx_content.specs.declared.shape.Shape.{Shape}

-- those of all values of these enums
abbrev pub AreEnumNumbers : List EnumShape → Type 0
AreEnumNumbers es = All (λ (e : EnumShape). All (λ (v : EnumValueShape). FitsSigned w32 v.number) e.values) es

-- those of all enums of a shape
abbrev pub HasEnumNumbers : Shape → Type 0
HasEnumNumbers shape = AreEnumNumbers shape.enums
