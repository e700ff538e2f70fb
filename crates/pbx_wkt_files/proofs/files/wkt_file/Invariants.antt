use Rattle.std.proofs.Common.{◌≡◌, drop}
use Rattle.std.specs.Prelude.{find}
use Rattle.pbx_desc_records.specs.declared.file.FileDescriptorProto.{FileDescriptorProto}
use Rattle.pbx_link_definitions.specs.Names.{is_named}
use Rattle.pbx_wkt_files.specs.Files.{wkt_files, wkt_file_named}
use Rattle.pbx_wkt_files.proofs.files.wkt_file.Given as goal

abbrev pub invariant-loop-index : goal.invariant-loop-index
invariant-loop-index l = wkt_file_named l.name ≡ find (λ (f : FileDescriptorProto). is_named f.name l.name) (drop l.index wkt_files)
