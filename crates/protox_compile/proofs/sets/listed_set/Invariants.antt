use Rattle.std.proofs.Common.{◌≡◌, ◌++◌, List}
use Rattle.pbx_desc_records.specs.declared.file.FileDescriptorProto.{FileDescriptorProto}
use Rattle.pbx_desc_encoding.specs.Sets.{IsSetOf}
use Rattle.protox_compile_walk.specs.Compiled.{done_of}
use Rattle.protox_compile.specs.Sets.{listed as listed_of}
use Rattle.protox_compile.proofs.Listed.{left}
use Rattle.protox_compile.proofs.sets.listed_set.Given as goal

abbrev pub invariant-loop-metadata : goal.invariant-loop-metadata
invariant-loop-metadata l =
    (files : List FileDescriptorProto) × IsSetOf l.set files
    × (files ++ left l.imports l.info l.known l.metadata-index l.files ≡ listed_of l.imports l.info (done_of l.known l.pool))
