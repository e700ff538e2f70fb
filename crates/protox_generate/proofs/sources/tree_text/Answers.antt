use Rattle.std.proofs.Common.{string_bytes}
use Rattle.protox_generate.proofs.Texts.{ok_then, tree_is}
use Rattle.protox_generate.proofs.sources.tree_text.Goals as goal

pub returns : goal.returns
returns c = ok_then c.format.result (λ s h. tree_is c.args.number _ _ (string_bytes s) c.in_ok-p.ensures c.in_ok-q.ensures h) c.format.ensures.ok
