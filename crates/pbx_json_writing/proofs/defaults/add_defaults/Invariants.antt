use Rattle.std.proofs.Common.{◌≡◌, Some, take}
use Rattle.serde_json.specs.View.{members_view}
use Rattle.pbx_content.specs.Content.{fields}
use Rattle.pbx_content_codec.specs.View.{content_of}
use Rattle.pbx_json_meaning.specs.Canonical.{writing}
use Rattle.pbx_json_writing.specs.Lines.{with_lines, default_lines}
use Rattle.pbx_json_writing.proofs.defaults.add_defaults.Given as goal

abbrev pub invariant-loop-field : goal.invariant-loop-field
invariant-loop-field l =
    with_lines (default_lines l.schema (writing l.schema l.options) (fields (content_of l.contents)) (take l.field-index l.field-items)) (Some (members_view l.initial.map.entries))
    ≡ Some (members_view l.map.entries)
