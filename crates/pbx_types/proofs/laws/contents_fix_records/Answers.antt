use Rattle.pbx_types.proofs.One.{any_one, duration_one, empty_one, mask_one, timestamp_one}
use Rattle.pbx_types.proofs.TreeOne.{value_one, struct_one, list_one}
use Rattle.pbx_types.proofs.laws.contents_fix_records.Goals as goal

pub returns-clause-any : goal.returns-clause-any
returns-clause-any c = any_one

pub returns-clause-duration : goal.returns-clause-duration
returns-clause-duration c = duration_one

pub returns-clause-empty : goal.returns-clause-empty
returns-clause-empty c = empty_one

pub returns-clause-mask : goal.returns-clause-mask
returns-clause-mask c = mask_one

pub returns-clause-timestamp : goal.returns-clause-timestamp
returns-clause-timestamp c = timestamp_one

pub returns-clause-value : goal.returns-clause-value
returns-clause-value c = value_one

pub returns-clause-struct_value : goal.returns-clause-struct_value
returns-clause-struct_value c = struct_one

pub returns-clause-list_value : goal.returns-clause-list_value
returns-clause-list_value c = list_one
