use Rattle.std.proofs.Common.{◌≡◌, Some, sym}
use Rattle.protox_file_sources.specs.Memory.{by_text, named_by}
use Rattle.protox_file_sources.proofs.Texts.{is_name}
use Rattle.protox_file_sources.proofs.memory.MemoryResolverFileResolver.resolve_path.Goals as goal

pub returns-in_ok-copy-in-Some-clause-named : goal.returns-in_ok-copy-in-Some-clause-named
returns-in_ok-copy-in-Some-clause-named c =
    let found : named_by (by_text c.self.inside.names) c.args.path.now ≡ Some c.in-Some.name.now = sym c.in-Some.ensures in
    rw c.in_ok-copy-in-Some.ensures (is_name (by_text c.self.inside.names) c.args.path.now c.in-Some.name.now c.self.invariant found)
