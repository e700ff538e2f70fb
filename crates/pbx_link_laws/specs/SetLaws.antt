-- What the bytes of a pool's set are read back as.
use Rattle.std.specs.Prelude.{◌≡◌, ℕ, List, [], Some}
use Rattle.pbx_desc_records.specs.declared.file.FileDescriptorProto.{FileDescriptorProto}
use Rattle.pbx_desc_encoding.specs.Content.{files_content}
use Rattle.pbx_desc_encoding.specs.Sets.{DecodesSet}
use Rattle.pbx_link_rules.specs.Pool.{ArePooled}
use Rattle.pbx_link_definitions.specs.declared.error.DescriptorError.{DescriptorError}
use Rattle.pbx_link_definitions.specs.declared.error.DescriptorError.TheVariants.{NoMemory}
use Rattle.pbx_link.specs.Bytes.{with_files, DecodesFiles, AreAdded, IsSetRefused}

-- The records that the bytes decode to are all added to a pool without files, and make this pool: each keeps the rules and is linked to the
-- record at its place. So what is decoded into a pool without files is this pool, and nothing but want of memory refuses it.
pub record IsReadBack (pool : List FileDescriptorProto) (bytes : List ℕ) : Type 0 where
  pub added : (fs : List FileDescriptorProto) → DecodesFiles bytes fs → with_files [] fs ≡ Some pool
  pub same : (new : List FileDescriptorProto) → AreAdded [] bytes new → new ≡ pool
  pub accepted : (error : DescriptorError) → IsSetRefused [] bytes error → error ≡ NoMemory

-- Bytes that decode to the set of a pool's files are read back as the pool.
abbrev pub SetsAreReadBack : Type 0
SetsAreReadBack = (pool : List FileDescriptorProto) (bytes : List ℕ) → ArePooled [] pool → DecodesSet bytes (files_content pool) → IsReadBack pool bytes
