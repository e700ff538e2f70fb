-- What is next at the top of a file, as its first word tells.
use Rattle.std.specs.Prelude.{List, if◌then◌else◌, codes}
use Rattle.pbx_parse_token.specs.Tokens.{Token}
use Rattle.pbx_parse_reader.specs.declared.tops.FirstTop.{FirstTop}
use Rattle.pbx_parse_reader.specs.declared.tops.FirstTop.TheVariants as firsts
use Rattle.pbx_parse_reader.specs.View.{sees_mark, sees_word}

-- the sort of what begins so
abbrev pub first_top_of : List Token → FirstTop
first_top_of ts =
    if sees_mark 59 ts then firsts.Empty
    else (if sees_word (codes "message") ts then firsts.Message
    else (if sees_word (codes "enum") ts then firsts.Enum
    else (if sees_word (codes "import") ts then firsts.Import
    else (if sees_word (codes "package") ts then firsts.Package
    else (if sees_word (codes "extend") ts then firsts.Extend
    else (if sees_word (codes "service") ts then firsts.Service
    else firsts.Option))))))
