use Rattle.std.proofs.Common.{◌∙◌, ap}
use Rattle.pbx_link_rules.specs.Breaches.{keeps_rules}
use Rattle.pbx_link_rules.specs.Pool.{with_file}
use Rattle.pbx_wkt.proofs.Grown.{next_keeps, next_added}
use Rattle.pbx_wkt.proofs.pool.make_wkt_descriptor_pool.Goals as goal

pub add-requires : goal.add-requires
add-requires c =
    ap (λ files. keeps_rules files c.in_ok-wkt_file_at.field-0) c.loop-index.invariant
    ∙ next_keeps c.loop-index.index c.in_ok-wkt_file_at.field-0 c.in_ok-wkt_file_at.ensures

pub loop-index-preserved : goal.loop-index-preserved
loop-index-preserved c =
    c.in_ok-add.ensures ∙ ap (λ files. with_file files c.in_ok-wkt_file_at.field-0) c.loop-index.invariant
    ∙ next_added c.loop-index.index c.in_ok-wkt_file_at.field-0 c.in_ok-wkt_file_at.ensures
