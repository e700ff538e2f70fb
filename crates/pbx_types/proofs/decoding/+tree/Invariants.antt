use Rattle.std.proofs.Common.{◌+◌, ◌*◌}
use Rattle.pbx_content.specs.declared.shape.Kind.TheVariants as kind
use Rattle.pbx_types.proofs.Lists.{AreRecords}
use Rattle.pbx_types.specs.Content.{value_content}
use Rattle.pbx_types.specs.Exact.{is_exact_value}
use Rattle.pbx_types.proofs.Reading.{AreFields}
use Rattle.pbx_types.proofs.decoding.+tree.Given as goal

abbrev pub decreases-value_from : goal.decreases-value_from
decreases-value_from l = 4 * l.room

abbrev pub decreases-take_struct : goal.decreases-take_struct
decreases-take_struct l = 4 * l.room + 3

abbrev pub decreases-take_list : goal.decreases-take_list
decreases-take_list l = 4 * l.room + 3

abbrev pub decreases-struct_from : goal.decreases-struct_from
decreases-struct_from l = 4 * l.room + 2

abbrev pub decreases-list_from : goal.decreases-list_from
decreases-list_from l = 4 * l.room + 2

abbrev pub decreases-fields_from : goal.decreases-fields_from
decreases-fields_from l = 4 * l.room + 1

abbrev pub decreases-values_from : goal.decreases-values_from
decreases-values_from l = 4 * l.room + 1

abbrev pub invariant-fields_from-loop-pair : goal.invariant-fields_from-loop-pair
invariant-fields_from-loop-pair l = AreFields l.yielded l.fields

abbrev pub invariant-values_from-loop-held : goal.invariant-values_from-loop-held
invariant-values_from-loop-held l = AreRecords (kind.Message 6) value_content is_exact_value l.yielded l.values
