-- What is next in a block, as its first word tells.
use Rattle.std.specs.Prelude.{List, if◌then◌else◌, codes}
use Rattle.pbx_parse_token.specs.Tokens.{Token}
use Rattle.pbx_parse_reader.specs.declared.enums.FirstInEnum.{FirstInEnum}
use Rattle.pbx_parse_reader.specs.declared.enums.FirstInEnum.TheVariants as firsts
use Rattle.pbx_parse_reader.specs.View.{sees_mark, sees_without}

abbrev pub first_in_enum_of : List Token → FirstInEnum
first_in_enum_of ts =
    if sees_mark 59 ts then firsts.Empty
    else (if sees_without 61 (codes "reserved") ts then firsts.Reserved
    else (if sees_without 61 (codes "option") ts then firsts.Option
    else firsts.Value))
