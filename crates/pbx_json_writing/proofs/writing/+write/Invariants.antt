use Rattle.std.proofs.Common.{◌≡◌, ◌+◌, ◌*◌, Some, map, take}
use Rattle.serde_json.specs.View.{view, members_view}
use Rattle.pbx_content.specs.Encoding.{type_of}
use Rattle.pbx_content.specs.Shape.{declared_of}
use Rattle.pbx_json_meaning.specs.Stands.{all_read}
use Rattle.pbx_json_meaning.specs.Canonical.{writing}
use Rattle.pbx_json_writing.specs.Indexes.{AreIndexes}
use Rattle.pbx_json_writing.specs.Lines.{collected}
use Rattle.pbx_json_writing.proofs.Arrays.{told}
use Rattle.pbx_json_writing.proofs.Entries.{entry}
use Rattle.pbx_json_writing.proofs.OfFields.{line}
use Rattle.pbx_json_writing.proofs.writing.+write.Given as goal

-- The room is the measure: what is called at the same room stands below its caller in this order.
abbrev pub decreases-held_tree : goal.decreases-held_tree
decreases-held_tree l = 4 * l.room + 1

abbrev pub decreases-array_tree : goal.decreases-array_tree
decreases-array_tree l = 4 * l.room

abbrev pub decreases-entries_tree : goal.decreases-entries_tree
decreases-entries_tree l = 4 * l.room

abbrev pub decreases-message_tree : goal.decreases-message_tree
decreases-message_tree l = 4 * l.room

abbrev pub decreases-field_map : goal.decreases-field_map
decreases-field_map l = 4 * l.room + 2

abbrev pub decreases-field_tree : goal.decreases-field_tree
decreases-field_tree l = 4 * l.room + 2

abbrev pub decreases-any_tree : goal.decreases-any_tree
decreases-any_tree l = 4 * l.room + 2

abbrev pub decreases-passed_tree : goal.decreases-passed_tree
decreases-passed_tree l = 4 * l.room + 3

abbrev pub invariant-array_tree-loop-held : goal.invariant-array_tree-loop-held
invariant-array_tree-loop-held l = record {
  so : all_read (told l.schema (writing l.schema l.options) l.kind) (take l.held-index l.held-items) ≡ Some (map view l.items.items);
  known : AreIndexes l.schema l.indexes;
}

abbrev pub invariant-entries_tree-loop-pair : goal.invariant-entries_tree-loop-pair
invariant-entries_tree-loop-pair l = record {
  so : collected (map (entry l.schema (writing l.schema l.options) l.kind) (take l.pair-index l.pair-items)) ≡ Some (members_view l.map.entries);
  known : AreIndexes l.schema l.indexes;
}

abbrev pub invariant-field_map-loop-field : goal.invariant-field_map-loop-field
invariant-field_map-loop-field l = record {
  so : collected (map (line l.schema (writing l.schema l.options) (declared_of l.schema (type_of l.fn.kind))) (take l.field-index l.field-items)) ≡ Some (members_view l.map.entries);
  known : AreIndexes l.schema l.indexes;
}
