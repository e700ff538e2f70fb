use Rattle.std.proofs.lemmas.Result.{err_from_is_err_and}
use Rattle.pbx_parse_reader.proofs.Begin.{reserved_begins}
use Rattle.pbx_parse_reader.proofs.ranges.reserved.Goals as goal

pub returns-in_err-keyword-clause-only : goal.returns-in_err-keyword-clause-only
returns-in_err-keyword-clause-only g c = λ r rest fit s.
    let q = err_from_is_err_and c.from_residual.result c.from_residual.ensures.1 in
    let b = reserved_begins g.N.RangeBound.spelled r rest _ s in
    rw (q.1, q.2) (c.in_err-keyword.ensures.only b.0 b.1 b.2)
