-- What the records that hold no records hold as messages: their values by ascending number, and their content.
use Rattle.std.specs.Prelude.{List, [], ◌∷◌, map, Option, Some, option_map}
use Rattle.pbx_content.specs.Content.{Content, Val, number, text, octets, many, vals_of}
use Rattle.pbx_desc_shapes.specs.TypesShape.{any_fields, time_fields, mask_fields}
use Rattle.pbx_types.specs.FieldContent.{record_content}
use Rattle.pbx_types.specs.declared.any.Any.{Any}
use Rattle.pbx_types.specs.declared.any.Empty.{Empty}
use Rattle.pbx_types.specs.declared.mask.FieldMask.{FieldMask}
use Rattle.pbx_types.specs.declared.time.Duration.{Duration}
use Rattle.pbx_types.specs.declared.time.Timestamp.{Timestamp}

-- the values of an Any
abbrev pub any_values : Any → List (Option Val)
any_values a = option_map text a.type_url ∷ option_map octets a.value ∷ []

-- the content of an Any
abbrev pub any_content : Any → Content
any_content a = record_content any_fields (any_values a) a.unknown

-- the values of a Duration
abbrev pub duration_values : Duration → List (Option Val)
duration_values d = option_map number d.seconds ∷ option_map number d.nanos ∷ []

-- the content of a Duration
abbrev pub duration_content : Duration → Content
duration_content d = record_content time_fields (duration_values d) d.unknown

-- the values of a Timestamp
abbrev pub timestamp_values : Timestamp → List (Option Val)
timestamp_values t = option_map number t.seconds ∷ option_map number t.nanos ∷ []

-- the content of a Timestamp
abbrev pub timestamp_content : Timestamp → Content
timestamp_content t = record_content time_fields (timestamp_values t) t.unknown

-- the content of an Empty
abbrev pub empty_content : Empty → Content
empty_content e = record_content [] [] e.unknown

-- the values of a FieldMask
abbrev pub mask_values : FieldMask → List (Option Val)
mask_values m = Some (many (vals_of (map text m.paths))) ∷ []

-- the content of a FieldMask
abbrev pub mask_content : FieldMask → Content
mask_content m = record_content mask_fields (mask_values m) m.unknown
