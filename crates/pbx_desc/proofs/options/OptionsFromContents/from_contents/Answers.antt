use Rattle.pbx_desc_encoding.proofs.Types.{file_options_type}
use Rattle.pbx_desc.proofs.options.OptionsFromContents.from_contents.Goals as goal

pub returns : goal.returns
returns c = c.options_of.ensures 14 file_options_type
