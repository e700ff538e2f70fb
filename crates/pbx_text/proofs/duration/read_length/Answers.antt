use Rattle.std.proofs.Common.{rules}
use Rattle.pbx_text.proofs.Durations.{length_far, length_ok}
use Rattle.pbx_text.proofs.duration.read_length.Goals as goal

pub returns-in-Some-number_up_to-clause-value : goal.returns-in-Some-number_up_to-clause-value
returns-in-Some-number_up_to-clause-value c =
    search (rules, length_ok c.args.text.now c.split_digits.result.0.now c.split_digits.result.1.now)

pub returns-in-None-clause-value : goal.returns-in-None-clause-value
returns-in-None-clause-value c = search (rules, length_far c.args.text.now c.split_digits.result.0.now c.split_digits.result.1.now)
