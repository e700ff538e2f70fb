use Rattle.pbx_content.proofs.Written.{decodes_whole, decodes_within, decodes_parts}
use Rattle.pbx_content.proofs.laws.encoding_decodes.Goals as goal

pub returns-clause-whole : goal.returns-clause-whole
returns-clause-whole c = decodes_whole

pub returns-clause-within : goal.returns-clause-within
returns-clause-within c = decodes_within

pub returns-clause-parts : goal.returns-clause-parts
returns-clause-parts c = decodes_parts
