-- Why a pool refuses a file.
use Rattle.std.specs.Prelude.{List}
use Rattle.pbx_desc_records.specs.declared.file.FileDescriptorProto.{FileDescriptorProto}
use Rattle.pbx_link_rules.specs.Breaches.{BreaksFirst}
use Rattle.pbx_link_pool.specs.declared.refusal.Refusal.{Refusal}
use Rattle.pbx_link_pool.specs.declared.refusal.Refusal.TheVariants.{Breach, NoMemory}

-- the breach is the first rule that the record breaks, and where; nothing is said where memory runs out
abbrev pub IsRefused : List FileDescriptorProto → FileDescriptorProto → Refusal → Type 0
IsRefused files f (Breach breach) = BreaksFirst files f breach.rule breach.place
IsRefused files f NoMemory = Unit {0}
