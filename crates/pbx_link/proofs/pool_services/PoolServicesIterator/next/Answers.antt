use Rattle.std.proofs.Common.{◌∙◌, sym}
use Rattle.pbx_link_definitions.specs.Definitions.{services}
use Rattle.pbx_link.specs.Tables.{no_service}
use Rattle.pbx_link.proofs.Walk.{next_standing, goes_on}
use Rattle.pbx_link.proofs.pool_services.PoolServicesIterator.next.Goals as goal

pub returns-clause-steps : goal.returns-clause-steps
returns-clause-steps c =
    let at = c.in_ok-at.ensures in
    sym c.self.view_is
    ∙ next_standing no_service services c.self.inside.pool.now c.tables.result.now c.copy.result c.self.inside.file c.self.inside.index
    c.in_ok-at.at.file c.in_ok-at.at.index c.copy-2.result c.in_ok-at.at.table.now
    c.tables.ensures.same c.copy.ensures c.copy-2.ensures at.0 at.1 at.2

pub returns-clause-goes : goal.returns-clause-goes
returns-clause-goes c = goes_on _ _ _ _ tt (returns-clause-steps c)
