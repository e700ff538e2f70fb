-- A converter: a message of a pool whose names are clear in JSON.
-- States: the contract of `Converter::new`, and the two jobs.
use Rattle.std.specs.Prelude.{◌≡◌, ℕ, List, Result, Some, None}
use Rattle.pbx_desc_records.specs.declared.file.FileDescriptorProto.{FileDescriptorProto}
use Rattle.pbx_desc_records.specs.declared.message.DescriptorProto.{DescriptorProto}
use Rattle.pbx_link_meaning.specs.Descriptors.{Described, message_of_name}
use Rattle.pbx_link_meaning.specs.Shapes.{shape_of, place_of}
use Rattle.protox_lines_items.specs.Told.{ConvertsLines, ConvertsRecords}
use Rattle.protox_lines_items.specs.declared.error.LineError.{LineError}
use Rattle.protox_lines.specs.Converted.{to_record, to_line, IsLineFault, IsRecordFault}
use Rattle.protox_transcode.specs.Parts.{IsNotClear}
use Rattle.protox_transcode.specs.Top.{HaveClearNames}
use Rattle.protox_transcode.specs.declared.error.TopError.{TopError}
use Rattle.protox_transcode.specs.declared.error.TopError.TheVariants as top

-- the message of the name, in a pool with clear names
pub record IsConverter (files : List FileDescriptorProto) (name : List ℕ) (d : Described DescriptorProto) : Type 0 where
  pub clear : HaveClearNames files
  pub named : message_of_name files name ≡ Some d

-- why there is none: a key has two meanings, or a well-known name another shape; then the name
abbrev pub IsNoConverter : List FileDescriptorProto → List ℕ → TopError → Type 0
IsNoConverter files name (top.TypeNotFound n) = HaveClearNames files × (n ≡ name) × (message_of_name files name ≡ None)
IsNoConverter files name error = IsNotClear files error

-- the lines of the bytes are converted to records so
abbrev pub GivesRecords : Described DescriptorProto → List ℕ → Result ℕ LineError → List ℕ → Type 0
GivesRecords d = ConvertsLines (to_record (shape_of d.pool) (place_of d)) (IsLineFault (shape_of d.pool) (place_of d))

-- the records of the bytes are converted to lines so
abbrev pub GivesLines : Described DescriptorProto → List ℕ → Result ℕ LineError → List ℕ → Type 0
GivesLines d = ConvertsRecords (to_line (shape_of d.pool) (place_of d)) (IsRecordFault (shape_of d.pool) (place_of d))
