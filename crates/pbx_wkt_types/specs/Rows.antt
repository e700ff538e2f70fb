-- What rows of the table in the code stand for.
use Rattle.std.specs.Prelude.{map}
use Rattle.pbx_wkt_types.specs.declared.table.Sort.{Sort as SortRow}
use Rattle.pbx_wkt_types.specs.declared.table.Sort.TheVariants.{Scalar, Message, Enum}
use Rattle.pbx_wkt_types.specs.declared.table.FieldRow.{FieldRow}
use Rattle.pbx_wkt_types.specs.declared.table.TypeRow.{TypeRow}
use Rattle.pbx_wkt_types.specs.Known.{Sort, scalar, message, enum, Row, Known}

-- what one value is
abbrev pub row_sort : SortRow → Sort
row_sort (Scalar k) = scalar k
row_sort (Message name) = message name.now
row_sort (Enum name) = enum name.now

-- the field of a row
abbrev pub row_field : FieldRow → Row
row_field r = record { number = r.0; name = r.1.now; json_name = r.2.now; sort = row_sort r.3; cardinality = r.4; oneof = r.5 }

-- the type of a row
abbrev pub row_type : TypeRow → Known
row_type r = record { name = r.0.now; form = r.1; rows = map row_field r.2.now }
