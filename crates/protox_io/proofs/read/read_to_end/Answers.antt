use Rattle.std.proofs.Common.{IsTrue, ◌∙◌, rules}
use Rattle.protox_io.specs.Count.{Rose}
use Rattle.protox_io.proofs.Counts.{over_limit, at_end, block_told, block_fails, reads_some, reads_more, later_again}
use Rattle.protox_io.proofs.read.read_to_end.Goals as goal

pub returns-then-as_slice-limit-clause-told : goal.returns-then-as_slice-limit-clause-told
returns-then-as_slice-limit-clause-told g c tells = over_limit c.reading.bytes _ _ _ (c.reading.invariant.told tells) (search rules)

pub returns-then-n-eq0-clause-told : goal.returns-then-n-eq0-clause-told
returns-then-n-eq0-clause-told g c tells =
    let t : IsTrue (g.S.Source.input c.reading.source).tells = c.reading.invariant.keeps_tells ∙ tells in
    let all = c.in-Ok.ensures.told t ∙ c.reading.invariant.told tells in
    let none = c.in-Ok.ensures.end t (search rules) in
    let whole = at_end c.read_block.new.bytes _ _ all none in
    (whole, none, search rules)

pub returns-in-Err-clause-told : goal.returns-in-Err-clause-told
returns-in-Err-clause-told g c tells = block_told (Rose (g.S.Source.count c.reading.source) (g.S.Source.count c.read_block.new.source)) c.args.limit (g.S.Source.input c.args.source.now).left (g.S.Source.input c.read_block.new.source).left c.in-Err.fault c.in-Err.ensures.cause

pub returns-in-Err-clause-cause : goal.returns-in-Err-clause-cause
returns-in-Err-clause-cause g c = block_fails _ _ _ c.in-Err.fault c.reading.invariant.later c.in-Err.ensures.cause

pub reading-preserved : goal.reading-preserved
reading-preserved g c = record {
  told = λ tells. c.in-Ok.ensures.told (c.reading.invariant.keeps_tells ∙ tells) ∙ c.reading.invariant.told tells;
  keeps_tells = c.in-Ok.ensures.keeps_tells ∙ c.reading.invariant.keeps_tells;
  later = later_again _ _ _ c.reading.invariant.later c.in-Ok.ensures.later;
  block = search rules;
}

pub returns-then-as_slice-limit-clause-front : goal.returns-then-as_slice-limit-clause-front
returns-then-as_slice-limit-clause-front g c = λ tells. reads_some c.reading.bytes _ _ (c.reading.invariant.told tells)

pub returns-then-n-eq0-clause-front : goal.returns-then-n-eq0-clause-front
returns-then-n-eq0-clause-front g c = λ tells.
    reads_more c.reading.bytes _ _ _ (c.reading.invariant.told tells) (c.read_block.ensures.front (c.reading.invariant.keeps_tells ∙ tells))

pub returns-in-Err-clause-front : goal.returns-in-Err-clause-front
returns-in-Err-clause-front g c = λ tells.
    reads_more c.reading.bytes _ _ _ (c.reading.invariant.told tells) (c.read_block.ensures.front (c.reading.invariant.keeps_tells ∙ tells))
