use Rattle.std.proofs.Common.{◌≡◌, ◌+◌, ◌*◌, map, drop}
use Rattle.std.specs.List.{list_all}
use Rattle.pbx_content.specs.Content.{vals_of, pairs_of}
use Rattle.pbx_content.specs.Shape.{fields_of}
use Rattle.pbx_content_codec.specs.View.{val_of, pair_of, entry_of, fields_in}
use Rattle.pbx_json_meaning.specs.Fits.{payload_fits, fields_payloads, vals_payloads, pairs_payloads}
use Rattle.pbx_json_schema.specs.Index.{AreTypesIn}
use Rattle.pbx_json_levels.proofs.walk.+fit.Given as goal

-- The room is the measure: what is called at the same room stands below its caller in this order.
abbrev pub decreases-held_fits : goal.decreases-held_fits
decreases-held_fits l = 6 * l.room + 1

abbrev pub decreases-many_fit : goal.decreases-many_fit
decreases-many_fit l = 6 * l.room

abbrev pub decreases-pairs_fit : goal.decreases-pairs_fit
decreases-pairs_fit l = 6 * l.room

abbrev pub decreases-contents_fit : goal.decreases-contents_fit
decreases-contents_fit l = 6 * l.room

abbrev pub decreases-fields_fit : goal.decreases-fields_fit
decreases-fields_fit l = 6 * l.room + 2

abbrev pub decreases-own_payload_fits : goal.decreases-own_payload_fits
decreases-own_payload_fits l = 6 * l.room + 2

abbrev pub decreases-payload_is_read : goal.decreases-payload_is_read
decreases-payload_is_read l = 6 * l.room + 1

abbrev pub invariant-many_fit-loop-held : goal.invariant-many_fit-loop-held
invariant-many_fit-loop-held l = record {
  so : list_all (payload_fits l.schema) (vals_payloads l.schema (vals_of (map val_of l.held-items)) l.kind)
      ≡ list_all (payload_fits l.schema) (vals_payloads l.schema (vals_of (map val_of (drop l.held-index l.held-items))) l.kind);
  known : AreTypesIn l.schema l.types;
}

abbrev pub invariant-pairs_fit-loop-pair : goal.invariant-pairs_fit-loop-pair
invariant-pairs_fit-loop-pair l = record {
  so : list_all (payload_fits l.schema) (pairs_payloads l.schema (pairs_of (map pair_of l.pair-items)) l.kind)
      ≡ list_all (payload_fits l.schema) (pairs_payloads l.schema (pairs_of (map pair_of (drop l.pair-index l.pair-items))) l.kind);
  known : AreTypesIn l.schema l.types;
}

abbrev pub invariant-fields_fit-loop-field : goal.invariant-fields_fit-loop-field
invariant-fields_fit-loop-field l = record {
  so : list_all (payload_fits l.schema) (fields_payloads l.schema (fields_of l.schema l.fn.place) (fields_in (map entry_of l.field-items)))
      ≡ list_all (payload_fits l.schema) (fields_payloads l.schema (fields_of l.schema l.fn.place) (fields_in (map entry_of (drop l.field-index l.field-items))));
  known : AreTypesIn l.schema l.types;
}
