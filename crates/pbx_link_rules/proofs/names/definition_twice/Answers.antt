use Rattle.std.proofs.Common.{◌∙◌, List}
use Rattle.pbx_link_definitions.specs.Definitions.{Defined}
use Rattle.pbx_link_rules.proofs.Twice.{found_here, found_none}
use Rattle.pbx_link_rules.proofs.names.definition_twice.Goals as goal

pub returns-in-Some : goal.returns-in-Some
returns-in-Some g c =
    let ds : List Defined = c.definitions-definitions.result.now in
    found_here (g.P.Pooled.files c.args.pool.now) c.args.parts.now ds c.definitions-definitions.ensures c.as_slice.result.now
    (c.as_slice.ensures ∙ c.in_ok-names.ensures) c.in_ok-index.field-0 (rw (c.file.ensures) at c.in_ok-index.ensures) c.in-Some.index c.index-definitions-index.result c.place.result.now
    c.in_ok-place_at-in-Some.field-0 c.in-Some.is c.index-definitions-index.is c.place.ensures c.in_ok-place_at-in-Some.ensures

pub returns : goal.returns
returns g c =
    let ds : List Defined = c.definitions-definitions.result.now in
    found_none (g.P.Pooled.files c.args.pool.now) c.args.parts.now ds c.definitions-definitions.ensures c.as_slice.result.now
    (c.as_slice.ensures ∙ c.in_ok-names.ensures) c.in_ok-index.field-0 (rw (c.file.ensures) at c.in_ok-index.ensures) c.in-None.is
