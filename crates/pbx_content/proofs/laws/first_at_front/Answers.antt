use Rattle.pbx_content.proofs.FaultyFirst.{first_at_front, first_by_key, first_of_record, first_as_field, first_in_payload}
use Rattle.pbx_content.proofs.laws.first_at_front.Goals as goal

pub returns-clause-at_front : goal.returns-clause-at_front
returns-clause-at_front c = first_at_front

pub returns-clause-by_key : goal.returns-clause-by_key
returns-clause-by_key c = first_by_key

pub returns-clause-of_record : goal.returns-clause-of_record
returns-clause-of_record c = first_of_record

pub returns-clause-as_field : goal.returns-clause-as_field
returns-clause-as_field c = first_as_field

pub returns-clause-in_payload : goal.returns-clause-in_payload
returns-clause-in_payload c = first_in_payload
