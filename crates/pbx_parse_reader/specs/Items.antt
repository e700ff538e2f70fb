-- What the next item of a message is, as its first word tells.
use Rattle.std.specs.Prelude.{List, if◌then◌else◌, codes}
use Rattle.pbx_parse_token.specs.Tokens.{Token}
use Rattle.pbx_parse_reader.specs.declared.messages.First.{First}
use Rattle.pbx_parse_reader.specs.declared.messages.First.TheVariants as firsts
use Rattle.pbx_parse_reader.specs.View.{sees_mark, sees_word, sees_both}

-- the sort of what begins so, where it is no message
abbrev pub first_of : List Token → First
first_of ts =
    if sees_mark 59 ts then firsts.Empty
    else (if sees_both 60 (codes "map") ts then firsts.Map
    else (if sees_word (codes "oneof") ts then firsts.Oneof
    else (if sees_word (codes "enum") ts then firsts.Enum
    else (if sees_word (codes "extend") ts then firsts.Extend
    else (if sees_word (codes "extensions") ts then firsts.Extensions
    else (if sees_word (codes "reserved") ts then firsts.Reserved
    else (if sees_word (codes "option") ts then firsts.Option
    else firsts.Field)))))))
