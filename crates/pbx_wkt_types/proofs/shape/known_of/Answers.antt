use Rattle.std.proofs.Common.{codes, sym, ◌∙◌}
use Rattle.std.proofs.lemmas.Str.Pattern.{starts_text}
use Rattle.pbx_wkt_types.specs.Known.{known_of}
use Rattle.pbx_wkt_types.proofs.WellKnown.{elsewhere}
use Rattle.pbx_wkt_types.proofs.shape.known_of.Goals as goal

pub returns-then-starts_with : goal.returns-then-starts_with
unfolding known_of
returns-then-starts_with c = c.named.ensures

pub returns-else-starts_with : goal.returns-else-starts_with
returns-else-starts_with c =
    let text = c.args.full_name.now in
    sym (elsewhere text (sym (starts_text c.starts_with.result (codes "google.protobuf.") text c.starts_with.ensures.cases) ∙ c.if-starts_with.false))
