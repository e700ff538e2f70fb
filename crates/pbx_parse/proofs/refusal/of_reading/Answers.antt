use Rattle.pbx_parse.proofs.refusal.of_reading.Goals as goal

pub at_stop-requires-clause-start : goal.at_stop-requires-clause-start
at_stop-requires-clause-start c = c.in-Some.ensures.starts c.args.source.now c.requires.starts
