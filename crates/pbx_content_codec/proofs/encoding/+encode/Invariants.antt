use Rattle.std.proofs.Common.{◌≡◌, ◌++◌, map, drop}
use Rattle.pbx_content.specs.Content.{vals_of, pairs_of}
use Rattle.pbx_content.specs.Shape.{fields_of}
use Rattle.pbx_content.specs.Encoding.{fields_recs, vals_recs, pairs_recs, keys_of}
use Rattle.pbx_content_codec.specs.View.{val_of, pair_of, entry_of, fields_in}
use Rattle.pbx_content_codec.proofs.encoding.+encode.Given as goal

abbrev pub invariant-fields_records-loop-field : goal.invariant-fields_records-loop-field
invariant-fields_records-loop-field l =
    fields_recs l.schema (fields_of l.schema l.type_at) (fields_in (map entry_of l.field-items))
    ≡ l.recs ++ fields_recs l.schema (fields_of l.schema l.type_at) (fields_in (map entry_of (drop l.field-index l.field-items)))

abbrev pub invariant-add_many-loop-held : goal.invariant-add_many-loop-held
invariant-add_many-loop-held l =
    l.initial.recs ++ vals_recs l.schema l.field.number l.field.kind (vals_of (map val_of l.held-items))
    ≡ l.recs ++ vals_recs l.schema l.field.number l.field.kind (vals_of (map val_of (drop l.held-index l.held-items)))

abbrev pub invariant-add_pairs-loop-pair : goal.invariant-add_pairs-loop-pair
invariant-add_pairs-loop-pair l =
    l.initial.recs ++ pairs_recs l.schema l.field.number (keys_of l.field.cardinality) l.field.kind (pairs_of (map pair_of l.pair-items))
    ≡ l.recs ++ pairs_recs l.schema l.field.number (keys_of l.field.cardinality) l.field.kind (pairs_of (map pair_of (drop l.pair-index l.pair-items)))
