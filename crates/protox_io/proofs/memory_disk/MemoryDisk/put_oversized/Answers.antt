use Rattle.std.proofs.Common.{◌≡◌, ◌∷◌, None, rules, ap, ◌∙◌}
use Rattle.protox_io.specs.Memory.{told_by}
use Rattle.protox_io.specs.Paths.{disk_key}
use Rattle.protox_io.proofs.Keys.{told_put, told_other}
use Rattle.protox_io.proofs.memory_disk.MemoryDisk.put_oversized.Goals as goal

pub returns-clause-set : goal.returns-clause-set
returns-clause-set c =
    let put : c.insert.new.self.items ≡ (c.args.path.now, None) ∷ c.args.self.now.files = search rules in
    ap (λ files. told_by files (disk_key c.args.path.now)) put ∙ told_put c.args.path.now None c.args.self.now.files

pub returns-clause-others : goal.returns-clause-others
returns-clause-others c = λ key n.
    let put : c.insert.new.self.items ≡ (c.args.path.now, None) ∷ c.args.self.now.files = search rules in
    ap (λ files. told_by files key) put ∙ told_other c.args.path.now None c.args.self.now.files key n
