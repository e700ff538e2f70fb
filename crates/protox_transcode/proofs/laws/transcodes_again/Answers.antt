use Rattle.protox_transcode.proofs.Again.{transcodes_again, transcoded_is_read, transcoded_ask_for}
use Rattle.protox_transcode.proofs.laws.transcodes_again.Goals as goal

pub returns-clause-again : goal.returns-clause-again
returns-clause-again c = transcodes_again c.opens_once.ensures.paths c.set_opens_again.ensures

pub returns-clause-read : goal.returns-clause-read
returns-clause-read c = transcoded_is_read

pub returns-clause-asked : goal.returns-clause-asked
returns-clause-asked c = transcoded_ask_for c.roots_name_themselves.ensures.asked

pub returns-clause-repeated : goal.returns-clause-repeated
returns-clause-repeated c = c.names_repeat_as_paths.ensures
