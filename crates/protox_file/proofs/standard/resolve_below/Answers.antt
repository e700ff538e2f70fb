use Rattle.protox_file_sources.proofs.Readings.{named_again}
use Rattle.protox_file.proofs.standard.resolve_below.Goals as goal

pub returns-in-Some-clause-named : goal.returns-in-Some-clause-named
returns-in-Some-clause-named c = named_again c.in-Some.rest.now c.path_to_file_name.result c.path_to_file_name.ensures
