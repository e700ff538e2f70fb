use Rattle.protox_words.proofs.Faults.{refused}
use Rattle.protox_words.specs.Told.{scan_of}
use Rattle.protox_words.proofs.words.read_into.Goals as goal

pub returns-in-Err : goal.returns-in-Err
returns-in-Err c = λ fresh.
    refused c.args.words.now c.as_slice-word-items.result.now c.loop-word.word-index c.word-item.result c.as_str.result.now
    (scan_of c.loop-word.place c.loop-word.args) c.step.new.args c.in-Err.error c.as_slice-word-items.ensures c.as_str.ensures
    (c.loop-word.invariant fresh) c.loop-word-test.true c.word-item.is c.in-Err.ensures
