use Rattle.std.proofs.Common.{string_bytes}
use Rattle.protox_generate.proofs.Texts.{ok_then, source_is}
use Rattle.protox_generate.proofs.sources.source.Goals as goal

pub returns : goal.returns
returns c =
    ok_then c.format.result
    (λ s h. source_is c.args.number _ _ _ _ (string_bytes s) c.in_ok-first.ensures c.in_ok-second.ensures c.in_ok-p.ensures c.in_ok-q.ensures h) c.format.ensures.ok
