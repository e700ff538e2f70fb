-- What is read of a tree, before what is inside it is read.
use Rattle.std.specs.Prelude.{Bool, false, Result, Ok, Err, if◌then◌else◌}
use Rattle.std.specs.Borrow.{Bor}
use Rattle.std.specs.BTreeMap.{BTreeMap}
use Rattle.std.specs.Prelude.{String, List}
use Rattle.std.specs.declared.alloc.Global.{Global}
use Rattle.serde_json.specs.Data.{Data, array, object, Items, no_items, item, Members, no_members, member}
use Rattle.serde_json.specs.View.{items_view, members_view}
use Rattle.serde_json.specs.declared.value.Value.{Value}
use Rattle.pbx_content.specs.declared.shape.Kind.{Kind}
use Rattle.pbx_content.specs.declared.shape.Shape.{Shape}
use Rattle.pbx_content.specs.declared.shape.FieldShape.{FieldShape}
use Rattle.pbx_content.specs.declared.shape.Cardinality.{Cardinality}
use Rattle.pbx_content.specs.declared.shape.Cardinality.TheVariants.{Singular}
use Rattle.pbx_content.specs.Shape.{is_float}
use Rattle.pbx_json_meaning.specs.Asked.{reads_null}
use Rattle.pbx_json_meaning.specs.declared.kind.JsonKind.{JsonKind}
use Rattle.pbx_json_meaning.specs.declared.kind.JsonKind.TheVariants as fault

-- null is a value of a field of so many values
abbrev pub reads_null_by : Shape → Kind → Cardinality → Bool
reads_null_by shape k Singular = reads_null shape k
reads_null_by shape k _ = false

-- null is read as a value of the field
abbrev pub reads_null_for : Shape → FieldShape → Bool
reads_null_for shape f = reads_null_by shape f.kind f.cardinality

-- the members that were found
abbrev pub option_members : Result (Bor (BTreeMap (String Global) Value)) JsonKind → Result Members JsonKind
option_members (Ok m) = Ok (members_view m.now.entries)
option_members (Err k) = Err k

-- the elements that were found
abbrev pub option_items : Result (Bor (List Value)) JsonKind → Result Items JsonKind
option_items (Ok vs) = Ok (items_view vs.now)
option_items (Err k) = Err k

-- the members of an object
abbrev pub members_in : Data → Result Members JsonKind
members_in (object ms) = Ok ms
members_in _ = Err fault.WrongKind

-- the elements of a list of floats, of which only the empty one is read
abbrev pub items_if_none : Items → Result Items JsonKind
items_if_none no_items = Ok no_items
items_if_none (item d ds) = Err fault.Float

-- the members of a map of floats, of which only the empty one is read
abbrev pub members_if_none : Members → Result Members JsonKind
members_if_none no_members = Ok no_members
members_if_none (member k d ms) = Err fault.Float

-- the fault of a tree that is of no sort that is read, where values of a kind are
abbrev pub wrong_kind_of : Kind → JsonKind
wrong_kind_of k = if is_float k then fault.Float else fault.WrongKind

-- the elements of a tree that is read as a list
abbrev pub items_of_list : Kind → Data → Result Items JsonKind
items_of_list k (array ds) = if is_float k then items_if_none ds else Ok ds
items_of_list k _ = Err (wrong_kind_of k)

-- the members of a tree that is read as a map
abbrev pub members_of_map : Kind → Data → Result Members JsonKind
members_of_map k (object ms) = if is_float k then members_if_none ms else Ok ms
members_of_map k _ = Err (wrong_kind_of k)
