use Rattle.pbx_desc_encoding.proofs.Places.{on_ok, truth_written, no_truth}
use Rattle.pbx_desc_encoding.proofs.values.put_truth.Goals as goal

pub returns-in-Some : goal.returns-in-Some
returns-in-Some c =
    rw c.in-Some.is
    (on_ok c.put_numeral.result (λ here. truth_written c.args.number c.wire_truth.result c.in-Some.value c.args.out.now.items c.put_numeral.new.out.items here c.wire_truth.ensures) c.put_numeral.ensures)

pub returns-in-None : goal.returns-in-None
returns-in-None c = rw c.in-None.is (no_truth c.args.number c.args.out.now.items)
