use Rattle.std.proofs.Common.{◌∙◌, sym}
use Rattle.pbx_link.proofs.Parts.{next_file}
use Rattle.pbx_link.proofs.file.PoolFilesIterator.next.Goals as goal

pub returns-clause-steps : goal.returns-clause-steps
returns-clause-steps c =
    sym c.self.view_is
    ∙ next_file c.self.inside.pool.now c.tables.result.now c.copy.result c.self.inside.index c.in_ok-table.table.now c.copy-2.result
    c.tables.ensures.same c.copy.ensures c.copy-2.ensures c.in_ok-table.ensures.lookup.3.0 (c.in_ok-table.ensures.lookup.3.1 c.in_ok-table.table.now)
