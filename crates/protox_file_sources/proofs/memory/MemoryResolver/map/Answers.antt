use Rattle.std.proofs.Common.{◌≡◌, Some}
use Rattle.protox_io.specs.FileNames.{name_of}
use Rattle.protox_file_sources.proofs.Texts.{name_put, names_kept, still_names}
use Rattle.protox_file_sources.proofs.memory.MemoryResolver.map.Goals as goal

pub returns-clause-set : goal.returns-clause-set
returns-clause-set c =
    let put = name_put c.self.inside.names c.put_under.new.values c.args.path.now _ c.put_under.result c.put_under.ensures.ok in
    rw c.in_ok-name.ensures at put

pub returns-clause-others : goal.returns-clause-others
returns-clause-others c =
    let kept = names_kept c.self.inside.names c.put_under.new.values c.args.path.now _ c.put_under.result c.put_under.ensures.ok c.put_under.ensures.err in
    rw (← c.self.view_is) kept

pub invariant_of-self : goal.invariant_of-self
invariant_of-self c =
    let is : name_of c.in_ok-name.name ≡ Some c.in_ok-name.name = rw c.in_ok-name.ensures c.requires in
    still_names c.self.inside.names c.put_under.new.values c.args.path.now _ c.put_under.result c.put_under.ensures.ok c.put_under.ensures.err
    c.self.invariant is
