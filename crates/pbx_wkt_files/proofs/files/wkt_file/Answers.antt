use Rattle.std.proofs.Common.{sym, ◌∙◌}
use Rattle.pbx_wkt_files.specs.Files.{wkt_files}
use Rattle.pbx_wkt_files.proofs.Found.{passed, here}
use Rattle.pbx_wkt_files.proofs.files.wkt_file.Goals as goal

pub returns-then-eq : goal.returns-then-eq
returns-then-eq c =
    sym (c.loop-index.invariant
    ∙ here wkt_files c.loop-index.index c.name_at.result.now c.args.name.now c.in_ok-wkt_file_at.field-0 c.name_at.ensures (sym c.eq.ensures ∙ c.if-eq.true) c.in_ok-wkt_file_at.ensures)

pub loop-index-preserved : goal.loop-index-preserved
loop-index-preserved c =
    c.loop-index.invariant ∙ passed wkt_files c.loop-index.index c.name_at.result.now c.args.name.now c.name_at.ensures (sym c.eq.ensures ∙ c.if-eq.false)
