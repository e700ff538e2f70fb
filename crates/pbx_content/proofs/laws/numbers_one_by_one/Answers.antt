use Rattle.pbx_content.proofs.FaultyAlone.{numbers_go_on, numbers_stop}
use Rattle.pbx_content.proofs.laws.numbers_one_by_one.Goals as goal

pub returns-clause-go_on : goal.returns-clause-go_on
returns-clause-go_on c = numbers_go_on

pub returns-clause-stop : goal.returns-clause-stop
returns-clause-stop c = numbers_stop
