use Rattle.pbx_link_meaning.specs.Shapes.{shape_of}
use Rattle.pbx_message_dynamic.proofs.GivenMaps.{list_sound, map_sound, map_field_given}
use Rattle.pbx_message_dynamic.proofs.giving.field_value.Goals as goal

pub list_value-requires-clause-sound : goal.list_value-requires-clause-sound
list_value-requires-clause-sound c =
    list_sound (shape_of c.args.value_type.now.holder.pool) c.args.value_type.now.kind c.in-Many.list c.items_are_of_kinds.ensures.lists
    (rw (c.in-Repeated.is, c.in-Many.is) at c.requires.sound)

pub map_value-requires-clause-sound : goal.map_value-requires-clause-sound
map_value-requires-clause-sound c =
    map_sound (shape_of c.args.value_type.now.holder.pool) c.in-Map.key_kind c.args.value_type.now.kind c.in-Pairs.pairs c.items_are_of_kinds.ensures.maps
    (rw (c.in-Map.is, c.in-Pairs.is) at c.requires.sound)

pub returns-in-Pairs : goal.returns-in-Pairs
returns-in-Pairs c =
    rw (c.in-Map.is, c.in-Pairs.is) (map_field_given c.args.value_type.now.holder.pool c.in-Map.key_kind c.args.value_type.now.kind c.in-Pairs.pairs c.map_value.result
    c.map_value.ensures)
