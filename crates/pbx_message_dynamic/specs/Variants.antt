-- Variants by numbers.
use Rattle.std.specs.Prelude.{ℕ}
use Rattle.pbx_message_dynamic.specs.Values.{Variant, truths, numbers_i32, numbers_i64, numbers_u32, numbers_u64, texts, octet_strings}
use Rattle.pbx_message_dynamic.specs.Values.{enum_numbers, messages, lists, maps, no_variant}

-- the place of a variant among them
abbrev pub variant_number : Variant → ℕ
variant_number truths = 0
variant_number numbers_i32 = 1
variant_number numbers_i64 = 2
variant_number numbers_u32 = 3
variant_number numbers_u64 = 4
variant_number texts = 5
variant_number octet_strings = 6
variant_number enum_numbers = 7
variant_number messages = 8
variant_number lists = 9
variant_number maps = 10
variant_number no_variant = 11
