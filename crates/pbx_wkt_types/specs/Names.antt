-- The message types that JSON has a form of its own for, by their full names (ProtoJSON Format: the table of types).
use Rattle.std.specs.Prelude.{ℕ, List, [], ◌∷◌, codes, Bool}
use Rattle.std.specs.List.{list_any}
use Rattle.std.specs.Str.{bytes_eq}

-- the full names of the seventeen types
abbrev pub well_known_names : List (List ℕ)
well_known_names =
    codes "google.protobuf.Any"
    ∷ codes "google.protobuf.Timestamp"
    ∷ codes "google.protobuf.Duration"
    ∷ codes "google.protobuf.Struct"
    ∷ codes "google.protobuf.FloatValue"
    ∷ codes "google.protobuf.DoubleValue"
    ∷ codes "google.protobuf.Int32Value"
    ∷ codes "google.protobuf.Int64Value"
    ∷ codes "google.protobuf.UInt32Value"
    ∷ codes "google.protobuf.UInt64Value"
    ∷ codes "google.protobuf.BoolValue"
    ∷ codes "google.protobuf.StringValue"
    ∷ codes "google.protobuf.BytesValue"
    ∷ codes "google.protobuf.FieldMask"
    ∷ codes "google.protobuf.ListValue"
    ∷ codes "google.protobuf.Value"
    ∷ codes "google.protobuf.Empty"
    ∷ []

-- the full name, without a leading dot, is one of the seventeen
unfoldable pub is_well_known : List ℕ → Bool
is_well_known name = list_any (λ own. bytes_eq name own) well_known_names
