use Rattle.std.proofs.Common.{◌≡◌, Some}
use Rattle.pbx_link.specs.Bytes.{with_files}
use Rattle.pbx_link.proofs.pool.DescriptorPool.with_all.Given as goal

-- the pool has the files so far
abbrev pub invariant-loop-file : goal.invariant-loop-file
invariant-loop-file l = with_files l.fn.self l.yielded ≡ Some l.pool
