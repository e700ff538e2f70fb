-- Why a file is not added to a pool.
use Rattle.pbx_link_definitions.specs.declared.error.DescriptorError.{DescriptorError}
use Rattle.pbx_link_definitions.specs.declared.error.DescriptorError.TheVariants.{NoMemory}

-- want of memory
abbrev pub out_of_memory : DescriptorError
out_of_memory = NoMemory
