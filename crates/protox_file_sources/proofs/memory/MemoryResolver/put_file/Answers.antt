use Rattle.protox_file_sources.proofs.Texts.{file_put, files_kept}
use Rattle.protox_file_sources.proofs.memory.MemoryResolver.put_file.Goals as goal

pub returns-clause-set : goal.returns-clause-set
returns-clause-set c = file_put c.self.inside.files c.put_under.new.values c.args.name.now _ c.put_under.result c.put_under.ensures.ok

pub returns-clause-others : goal.returns-clause-others
returns-clause-others c =
    let kept = files_kept c.self.inside.files c.put_under.new.values c.args.name.now _ c.put_under.result c.put_under.ensures.ok c.put_under.ensures.err in
    rw (← c.self.view_is) kept
