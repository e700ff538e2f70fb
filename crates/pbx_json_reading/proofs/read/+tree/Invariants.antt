use Rattle.std.proofs.Common.{◌≡◌, ◌+◌, ◌*◌, [], None, option_map, map, drop}
use Rattle.serde_json.specs.View.{items_view, members_view}
use Rattle.pbx_content.specs.Shape.{declared_of}
use Rattle.pbx_content.specs.declared.shape.Kind.TheVariants.{Message}
use Rattle.pbx_content_codec.specs.View.{val_of, content_of}
use Rattle.pbx_json_schema.specs.Index.{AreNamesIn}
use Rattle.pbx_json_walk.specs.Walk.{walk, start, parts, walk_items, items_answers, walk_entries, no_entries, walk_payload}
use Rattle.pbx_json_reading.specs.Objects.{parts_read}
use Rattle.pbx_json_reading.specs.States.{state_of, entries_of}
use Rattle.pbx_json_reading.proofs.read.+tree.Given as goal

abbrev pub decreases-read_message : goal.decreases-read_message
decreases-read_message l = 16 * l.levels

abbrev pub decreases-read_object : goal.decreases-read_object
decreases-read_object l = 16 * l.levels + 7

abbrev pub decreases-read_parts : goal.decreases-read_parts
decreases-read_parts l = 16 * l.levels + 10

abbrev pub decreases-read_payload : goal.decreases-read_payload
decreases-read_payload l = 16 * l.levels + 3

abbrev pub decreases-read_payload_member : goal.decreases-read_payload_member
decreases-read_payload_member l = 16 * l.levels + 2

abbrev pub decreases-read_value : goal.decreases-read_value
decreases-read_value l = 16 * l.levels + 1

abbrev pub decreases-read_item : goal.decreases-read_item
decreases-read_item l = 16 * l.levels + 2

abbrev pub decreases-read_entry : goal.decreases-read_entry
decreases-read_entry l = 16 * l.levels + 2

abbrev pub decreases-read_list : goal.decreases-read_list
decreases-read_list l = 16 * l.levels + 3

abbrev pub decreases-read_map : goal.decreases-read_map
decreases-read_map l = 16 * l.levels + 3

abbrev pub decreases-read_values : goal.decreases-read_values
decreases-read_values l = 16 * l.levels + 4

abbrev pub decreases-read_field : goal.decreases-read_field
decreases-read_field l = 16 * l.levels + 5

abbrev pub decreases-read_member : goal.decreases-read_member
decreases-read_member l = 16 * l.levels + 6

abbrev pub invariant-read_object-loop-key : goal.invariant-read_object-loop-key
invariant-read_object-loop-key l = record {
  walked :
      walk l.skips (declared_of l.reading.schema.now l.place) (parts_read l.beside (parts l.reading.schema.now l.reading.allow (members_view l.initial.key-iterator))) start
      ≡ walk l.skips (declared_of l.reading.schema.now l.place) (parts_read l.beside (parts l.reading.schema.now l.reading.allow (members_view l.key-iterator))) (state_of l.state);
  names : AreNamesIn l.reading.schema.now l.names;
}

abbrev pub invariant-read_payload-loop-key : goal.invariant-read_payload-loop-key
invariant-read_payload-loop-key l = record {
  walked :
      walk_payload l.skips (Message l.place) (parts l.reading.schema.now l.reading.allow (members_view l.initial.key-iterator)) None
      ≡ walk_payload l.skips (Message l.place) (parts l.reading.schema.now l.reading.allow (members_view l.key-iterator)) (option_map content_of l.found);
  names : AreNamesIn l.reading.schema.now l.names;
}

abbrev pub invariant-read_list-loop-index : goal.invariant-read_list-loop-index
invariant-read_list-loop-index l = record {
  walked :
      walk_items l.kind 0 (items_answers l.reading.schema.now l.reading.allow (items_view l.items)) []
      ≡ walk_items l.kind l.index (items_answers l.reading.schema.now l.reading.allow (items_view (drop l.index l.items))) (map val_of l.values);
  names : AreNamesIn l.reading.schema.now l.names;
}

abbrev pub invariant-read_map-loop-key : goal.invariant-read_map-loop-key
invariant-read_map-loop-key l = record {
  walked :
      walk_entries l.key_kind l.kind (parts l.reading.schema.now l.reading.allow (members_view l.initial.key-iterator)) no_entries
      ≡ walk_entries l.key_kind l.kind (parts l.reading.schema.now l.reading.allow (members_view l.key-iterator)) (entries_of l.entries);
  names : AreNamesIn l.reading.schema.now l.names;
}
