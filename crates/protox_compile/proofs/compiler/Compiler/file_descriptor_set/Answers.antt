use Rattle.std.proofs.Common.{◌∙◌, [], List, ap}
use Rattle.pbx_desc_records.specs.declared.file.FileDescriptorProto.{FileDescriptorProto}
use Rattle.pbx_desc_records.specs.declared.file.FileDescriptorSet.{FileDescriptorSet}
use Rattle.protox_compile.specs.Sets.{listed}
use Rattle.protox_compile.proofs.Listed.{listed_again}
use Rattle.protox_compile.proofs.compiler.Compiler.file_descriptor_set.Goals as goal

pub returns : goal.returns
returns g c =
    let same = listed_again c.metadata.result.now c.pool-pool.result c.self.inside.finished c.metadata.ensures c.pool-pool.ensures.pool in
    let set : List FileDescriptorProto → FileDescriptorSet = λ files. record { file = files; unknown = [] } in
    rw (← c.self.view_is, c.new.ensures) (ap set (c.in_ok-file.ensures ∙ ap (listed c.self.inside.imports c.self.inside.source_info) same))
