use Rattle.std.proofs.Common.{◌∙◌, sym}
use Rattle.pbx_link.proofs.Tops.{next_top}
use Rattle.pbx_link.proofs.Walk.{goes_on}
use Rattle.pbx_link.proofs.file_parts.FileMessagesIterator.next.Goals as goal

pub returns-clause-steps : goal.returns-clause-steps
returns-clause-steps c =
    let at = c.in_ok-index.ensures in
    sym c.self.view_is ∙ next_top c.self.inside.file.now c.self.inside.index c.in_ok-index.index c.message.result c.message.ensures at.2

pub returns-clause-goes : goal.returns-clause-goes
returns-clause-goes c = goes_on _ _ _ _ tt (returns-clause-steps c)
