use Rattle.std.proofs.Common.{◌∙◌}
use Rattle.protox_compile_walk.specs.Indexes.{index_under}
use Rattle.protox_compile_walk.proofs.indexes.Indexes.get.Goals as goal

pub returns : goal.returns
unfolding index_under
returns c = c.copied.ensures ∙ c.get.ensures.value
