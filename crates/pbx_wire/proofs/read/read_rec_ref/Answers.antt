use Rattle.std.proofs.Common.{arith}
use Rattle.std.proofs.lemmas.Result.{err_from_is_err_and}
use Rattle.pbx_wire.specs.View.{rec_of}
use Rattle.pbx_wire.proofs.Fronts.{front_rec, front_end, front_fault}
use Rattle.pbx_wire.proofs.read.read_rec_ref.Goals as goal

pub returns-in_err-item-clause-fault : goal.returns-in_err-item-clause-fault
returns-in_err-item-clause-fault c =
    let p = err_from_is_err_and c.from_residual.result c.from_residual.ensures.1 in
    rw (p.1, p.2) (front_fault c.args.levels c.in-Some.total c.args.at c.args.bytes.now _ (omega (arith, c.in-Some.ensures)) c.in_err-item.ensures)

pub returns-in-Some-item-clause-found : goal.returns-in-Some-item-clause-found
returns-in-Some-item-clause-found c =
    front_rec c.args.levels c.in-Some.total c.args.at c.args.bytes.now (rec_of c.in-Some-item.rec) c.in_ok-item.rest.now (rw c.in-Some-item.is at c.in_ok-item.ensures)

pub returns-in-None-clause-found : goal.returns-in-None-clause-found
returns-in-None-clause-found c =
    front_end c.args.levels c.in-Some.total c.args.at c.args.bytes.now c.in_ok-item.rest.now (rw c.in-None.is at c.in_ok-item.ensures)
