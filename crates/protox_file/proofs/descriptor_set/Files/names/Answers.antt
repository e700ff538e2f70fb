use Rattle.std.proofs.Common.{length, slice_get, option_map, ◌≡◌, Some, None}
use Rattle.protox_file.specs.Listed.{declared_name}
use Rattle.protox_file.specs.Sets.{entries_of}
use Rattle.protox_file.proofs.Indexes.{one_more, all_first}
use Rattle.protox_file.proofs.descriptor_set.Files.names.Goals as goal

pub loop-name-preserved : goal.loop-name-preserved
loop-name-preserved c =
    let is : Some c.in-Some.name.now ≡ option_map declared_name (slice_get (entries_of c.args.self.now) (length c.loop-name.names)) =
    rw c.len.ensures at c.in-Some.ensures in
    rw (c.in_ok-add.ensures.ok, c.in_ok-from_str.ensures, c.len-index.ensures)
    (one_more (entries_of c.args.self.now) c.loop-name.names c.in-Some.name.now c.loop-name.invariant is)

pub returns : goal.returns
returns c =
    let is : None ≡ option_map declared_name (slice_get (entries_of c.args.self.now) (length c.loop-name.names)) =
    rw c.len.ensures at c.in_default.ensures in
    all_first (entries_of c.args.self.now) c.loop-name.names c.loop-name.invariant is
