use Rattle.std.proofs.lemmas.Result.{err_from_is_err_and}
use Rattle.pbx_parse_reader.proofs.ranges.extensions.Goals as goal

pub returns-in_err-keyword-clause-only : goal.returns-in_err-keyword-clause-only
returns-in_err-keyword-clause-only c = λ e rest fit s.
    let q = err_from_is_err_and c.from_residual.result c.from_residual.ensures.1 in
    rw (q.1, q.2) (c.in_err-keyword.ensures.only e.keyword _ s)
