use Rattle.pbx_desc_encoding.specs.Content.{file_set_content, file_content}
use Rattle.pbx_desc.specs.Exact.{is_exact_file_set, is_exact_file}
use Rattle.pbx_desc.proofs.One.{file_set_one, file_one, service_one, method_one, source_code_info_one, location_one, options_one, by_bytes}
use Rattle.pbx_desc.proofs.laws.contents_fix_files.Goals as goal

pub returns-clause-set : goal.returns-clause-set
returns-clause-set c = file_set_one

pub returns-clause-set_bytes : goal.returns-clause-set_bytes
returns-clause-set_bytes c bytes a b x y e f = by_bytes file_set_content is_exact_file_set file_set_one a b _ x y e f

pub returns-clause-file : goal.returns-clause-file
returns-clause-file c = file_one

pub returns-clause-file_bytes : goal.returns-clause-file_bytes
returns-clause-file_bytes c bytes a b x y e f = by_bytes file_content is_exact_file file_one a b _ x y e f

pub returns-clause-service : goal.returns-clause-service
returns-clause-service c = service_one

pub returns-clause-method : goal.returns-clause-method
returns-clause-method c = method_one

pub returns-clause-source_code_info : goal.returns-clause-source_code_info
returns-clause-source_code_info c = source_code_info_one

pub returns-clause-location : goal.returns-clause-location
returns-clause-location c = location_one

pub returns-clause-options : goal.returns-clause-options
returns-clause-options c = options_one
