-- The sets of compiled files.
use Rattle.std.specs.Prelude.{◌≡◌, ◌∷◌, [], ◌||◌, List, Bool, map, find, Option, Some, None, if◌then◌else◌}
use Rattle.std.specs.List.{filter}
use Rattle.pbx_desc_records.specs.declared.file.FileDescriptorProto.{FileDescriptorProto}
pub use Rattle.pbx_desc_decodable.specs.Sets.{is_undecodable, AreDecodable, IsSet}
use Rattle.pbx_link_meaning.specs.Descriptors.{FileDescribed}
use Rattle.pbx_link_definitions.specs.Names.{text_or_empty}
use Rattle.protox_file_error.specs.declared.error.ErrorKind.{ErrorKind}
use Rattle.protox_file_error.specs.declared.error.ErrorKind.TheVariants.{Undecodable, NoMemory}
use Rattle.protox_file_sources.specs.Metadata.{Metadata}
use Rattle.protox_compile_walk.specs.Compiled.{done_by}
use Rattle.protox_compile_walk.specs.Walk.{Done, records}

-- the record, without its source information unless that is kept (Protocol Buffers `descriptor.proto`: SourceCodeInfo may be left out)
abbrev pub with_info : Bool → FileDescriptorProto → FileDescriptorProto
with_info info f = if info then f else record f { source_code_info = None }

-- The linked records in order: without the files that are only imported, unless imports are included, and without source information, unless
-- that is (protoc's options `--include_imports` and `--include_source_info`).
abbrev pub listed : Bool → Bool → List Done → List FileDescriptorProto
listed imports info done = map (with_info info) (records (filter (λ (d : Done). imports || d.opened) done))

-- the file whose record comes next, if one does, by what is known of it
abbrev pub next_done : Metadata → Option FileDescribed → List Done
next_done m None = []
next_done m (Some d) = done_by m d.file ∷ []

-- the error tells the first file that cannot be read again
abbrev pub IsUndecodable : List FileDescriptorProto → ErrorKind → Type 0
IsUndecodable files (Undecodable file) = (g : FileDescriptorProto) × (find is_undecodable files ≡ Some g) × (file ≡ text_or_empty g.name)
IsUndecodable files error = ⊥

-- why the files have no set: one of them cannot be read again, or want of memory
abbrev pub IsUnencodable : List FileDescriptorProto → ErrorKind → Type 0
IsUnencodable files NoMemory = Unit {0}
IsUnencodable files error = IsUndecodable files error
