-- What reading a message of a type from a JSON tree answers, and writing one.
use Rattle.std.specs.Prelude.{◌≡◌, ◌⊎◌, Bool, not, Some, None}
use Rattle.serde_json.specs.Data.{Data}
use Rattle.pbx_content.specs.Content.{Content}
use Rattle.pbx_desc_records.specs.declared.message.DescriptorProto.{DescriptorProto}
use Rattle.pbx_link_meaning.specs.Descriptors.{Described}
use Rattle.pbx_link_meaning.specs.Shapes.{shape_of, place_of}
use Rattle.pbx_json_meaning.specs.Stands.{Stands}
use Rattle.pbx_json_meaning.specs.Faults.{FirstJsonFault}
use Rattle.pbx_json_meaning.specs.Canonical.{canonical}
use Rattle.pbx_json_meaning.specs.WriteFaults.{WriteFault}
use Rattle.pbx_json_meaning.specs.declared.error.JsonError.{JsonError}
use Rattle.pbx_json_meaning.specs.declared.kind.JsonKind.TheVariants.{NoMemory}
use Rattle.pbx_json_meaning.specs.declared.options.SerializeOptions.{SerializeOptions}
use Rattle.pbx_json_meaning.specs.declared.options.DeserializeOptions.{DeserializeOptions}

-- the tree stands for the content, as a message of the type
abbrev pub IsRead : Described DescriptorProto → DeserializeOptions → Data → Content → Type 0
IsRead d o tree c = Stands (shape_of d.pool) (place_of d) (not o.deny_unknown_fields) tree c

-- the error is of memory, or tells the first fault of the tree
abbrev pub IsReadFault : Described DescriptorProto → DeserializeOptions → Data → JsonError → Type 0
IsReadFault d o tree e = (e.kind ≡ NoMemory) ⊎ FirstJsonFault (shape_of d.pool) (place_of d) (not o.deny_unknown_fields) tree e.place e.kind

-- the error is of memory, or the tree stands for nothing
abbrev pub IsUnread : Described DescriptorProto → DeserializeOptions → Data → JsonError → Type 0
IsUnread d o tree e = (e.kind ≡ NoMemory) ⊎ ((c : Content) → ¬ IsRead d o tree c)

-- the tree is the canonical one of the content, under the options
abbrev pub IsWritten : Described DescriptorProto → SerializeOptions → Content → Data → Type 0
IsWritten d o c tree = canonical (shape_of d.pool) (place_of d) c o ≡ Some tree

-- the error is of memory, or tells a fault of writing the content
abbrev pub IsWriteFault : Described DescriptorProto → SerializeOptions → Content → JsonError → Type 0
IsWriteFault d o c e = (e.kind ≡ NoMemory) ⊎ WriteFault (shape_of d.pool) (place_of d) c o e.place e.kind

-- the error is of memory, or the content has no canonical tree
abbrev pub IsUnwritten : Described DescriptorProto → SerializeOptions → Content → JsonError → Type 0
IsUnwritten d o c e = (e.kind ≡ NoMemory) ⊎ (canonical (shape_of d.pool) (place_of d) c o ≡ None)
