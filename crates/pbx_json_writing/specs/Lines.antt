-- Lines of an object, one after the other.
use Rattle.std.specs.Prelude.{List, [], ◌∷◌, map as map_list, filter, Option, Some}
use Rattle.serde_json.specs.Data.{Members, no_members}
use Rattle.pbx_content.specs.Content.{Key, Val, Content, Fields, no_fields, field, fields}
use Rattle.pbx_content.specs.Shape.{field_of}
use Rattle.pbx_content.specs.declared.shape.Kind.{Kind}
use Rattle.pbx_content.specs.declared.shape.FieldShape.{FieldShape}
use Rattle.pbx_content.specs.declared.shape.Shape.{Shape}
use Rattle.pbx_json_meaning.specs.Asked.{one}
use Rattle.pbx_json_meaning.specs.Canonical.{Line, with_line, tells, told_line, key_text, default_line, is_written_default}
use Rattle.pbx_json_meaning.specs.Canonical.{Writing}

-- the members with each of the lines, the first line first; None: a line has no tree, or its key is there already
abbrev pub with_lines : List Line → Option Members → Option Members
with_lines [] r = r
with_lines (l ∷ ls) r = with_lines ls (with_line l.0 l.1 r)

-- the members of these lines alone
abbrev pub collected : List Line → Option Members
collected ls = with_lines ls (Some no_members)

-- a line for each field that has a value
abbrev pub field_lines : Shape → Writing → List FieldShape → Fields → List Line
field_lines shape o gs no_fields = []
field_lines shape o gs (field n v fs) = told_line o (tells shape o v) (field_of n gs) ∷ field_lines shape o gs fs

-- the members of the fields that have a value
abbrev pub field_members : Shape → Writing → List FieldShape → Content → Option Members
field_members shape o gs c = collected (field_lines shape o gs (fields c))

-- the line of an entry
abbrev pub pair_line : Shape → Writing → Kind → Key × Val → Line
pair_line shape o k p = (key_text p.0, tells shape o p.1 (one k))

-- the lines of defaults
abbrev pub default_lines : Shape → Writing → Fields → List FieldShape → List Line
default_lines shape o fs gs = map_list (default_line shape o) (filter (is_written_default o fs) gs)
