-- What parts of records say, absent or not (Protocol Buffers `descriptor.proto`).
use Rattle.std.specs.Prelude.{ℕ, ◌==◌, ◌&&◌, ℤ, pos, negsuc, int_le, List, Bool, false, Option, Some, None, codes, option_and_then}
use Rattle.std.specs.List.{list_any}
use Rattle.pbx_wire.specs.Text.{is_numbered}
use Rattle.pbx_wire.specs.declared.rec.Rec.{Rec}
use Rattle.pbx_content.specs.Records.{number_of}
use Rattle.pbx_desc_records.specs.Options.{bool_of}
use Rattle.pbx_desc_records.specs.declared.field.FieldDescriptorProto.{FieldDescriptorProto}
use Rattle.pbx_desc_records.specs.declared.file.FileDescriptorProto.{FileDescriptorProto}
use Rattle.pbx_desc_records.specs.declared.message.DescriptorProto.{DescriptorProto, out-DescriptorProto}
use Rattle.pbx_desc_records.specs.declared.options.Options.{Options}
use Rattle.pbx_link_definitions.specs.Names.{text_or_empty, is_named}

-- the message's own name, or the empty text where it has none
abbrev pub own_name : DescriptorProto → List ℕ
own_name m = text_or_empty (out-DescriptorProto m).name

-- the message's own fields
abbrev pub own_fields : DescriptorProto → List FieldDescriptorProto
own_fields m = (out-DescriptorProto m).field

-- a file of proto3; a file that names no syntax is of proto2
abbrev pub is_proto3 : FileDescriptorProto → Bool
is_proto3 f = is_named f.syntax (codes "proto3")

-- the number is there, and is this one
abbrev pub is_number : Option ℤ → ℕ → Bool
is_number None n = false
is_number (Some (pos m)) n = m == n
is_number (Some (negsuc m)) n = false

-- a number that is not negative; any other is 0, which no field has
abbrev pub number_or_zero : Option ℤ → ℕ
number_or_zero None = 0
number_or_zero (Some (pos n)) = n
number_or_zero (Some (negsuc n)) = 0

-- the number, or 0 where there is none
abbrev pub signed_or_zero : Option ℤ → ℤ
signed_or_zero None = pos 0
signed_or_zero (Some z) = z

-- the flag is there and set
abbrev pub is_set : Option Bool → Bool
is_set None = false
is_set (Some b) = b

-- an option of this number as a truth value, if it is given
abbrev pub option_bool : ℕ → Option Options → Option Bool
option_bool n o = option_and_then (λ (p : Options). bool_of n p.recs) o

-- whether the message is the entry of a map (`descriptor.proto`: MessageOptions.map_entry)
abbrev pub is_entry : DescriptorProto → Bool
is_entry m = is_set (option_bool 7 (out-DescriptorProto m).options)

-- the label `repeated`
abbrev pub is_repeated : FieldDescriptorProto → Bool
is_repeated x = is_number x.label 3

-- the label `optional`, which a field of proto3 without a label has too
abbrev pub is_optional : FieldDescriptorProto → Bool
is_optional x = is_number x.label 1

-- both numbers are there, and are equal
abbrev pub are_equal : Option ℤ → Option ℤ → Bool
are_equal (Some a) (Some b) = int_le a b && int_le b a
are_equal a b = false

-- a record of this number, one that may be written, is among them
abbrev pub has_record : ℕ → List Rec → Bool
has_record n rs = list_any (λ r. is_numbered r && number_of r == n) rs

-- the options say so, as a truth value of this number
abbrev pub has_option : ℕ → Option Options → Bool
has_option n o = is_set (option_bool n o)

-- the options hold an UninterpretedOption, which is the number 999
abbrev pub is_uninterpreted : Option Options → Bool
is_uninterpreted None = false
is_uninterpreted (Some o) = has_record 999 o.recs
