-- Worked rows: full names that are well known, and some that are not, as closed equations.
use Rattle.std.proofs.Common.{◌≡◌, true, false, codes, refl}
use Rattle.std.specs.Prelude.{length}
use Rattle.pbx_wkt_types.specs.Names.{well_known_names, is_well_known}

row_seventeen : length well_known_names ≡ 17
row_seventeen = refl

row_first : is_well_known (codes "google.protobuf.Any") ≡ true
unfolding is_well_known
row_first = refl

row_last : is_well_known (codes "google.protobuf.Empty") ≡ true
unfolding is_well_known
row_last = refl

-- an enum is no message type, though its values have a form of their own
row_enum : is_well_known (codes "google.protobuf.NullValue") ≡ false
unfolding is_well_known
row_enum = refl

row_dotted : is_well_known (codes ".google.protobuf.Any") ≡ false
unfolding is_well_known
row_dotted = refl

row_bare : is_well_known (codes "Any") ≡ false
unfolding is_well_known
row_bare = refl

row_longer : is_well_known (codes "google.protobuf.Any2") ≡ false
unfolding is_well_known
row_longer = refl

row_descriptor : is_well_known (codes "google.protobuf.FileDescriptorProto") ≡ false
unfolding is_well_known
row_descriptor = refl

row_none : is_well_known (codes "") ≡ false
unfolding is_well_known
row_none = refl
