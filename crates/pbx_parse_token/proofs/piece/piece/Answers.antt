use Rattle.std.proofs.Common.{ap, length, length-drop, sym, arith}
use Rattle.std.specs.List.{prefix_len}
use Rattle.std.proofs.lemmas.List.Sums.{prefix_len-le-length}
use Rattle.pbx_parse_token.specs.declared.run.Run.TheVariants as runs
use Rattle.pbx_parse_token.specs.Bytes.{passes}
use Rattle.pbx_parse_token.proofs.Laws.{identifier_runs}
use Rattle.pbx_parse_token.proofs.piece.piece.Goals as goal

pub returns-in-Identifier-clause-shorter : goal.returns-in-Identifier-clause-shorter
returns-in-Identifier-clause-shorter c =
    let bytes = c.args.bytes.now in
    let n = prefix_len (passes runs.Identifier) bytes in
    omega (arith, ap length c.identifier_at.ensures.rest, identifier_runs bytes (sym c.in-Identifier.ensures), length-drop n bytes, prefix_len-le-length (passes runs.Identifier) bytes)
