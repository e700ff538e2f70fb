use Rattle.std.proofs.Common.{ap}
use Rattle.std.specs.Map.{lookup}
use Rattle.std.specs.BTreeMap.{is_at}
use Rattle.std.proofs.lemmas.Map.Text.{text_cmp}
use Rattle.protox_compile_walk.specs.Indexes.{index_under}
use Rattle.protox_compile_walk.proofs.indexes.Indexes.new.Goals as goal

pub returns : goal.returns
unfolding index_under
returns c = λ name. ap (lookup (is_at (text_cmp name))) c.new.ensures.empty
