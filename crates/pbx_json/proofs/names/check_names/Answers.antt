use Rattle.std.proofs.Common.{◌≡◌, ◌∙◌, None, subst}
use Rattle.pbx_content.specs.declared.shape.Shape.{Shape}
use Rattle.pbx_link_meaning.specs.Shapes.{shape_of}
use Rattle.pbx_json_meaning.specs.Clash.{ByAnyName, name_fault}
use Rattle.pbx_json.proofs.Clear.{ok_then}
use Rattle.pbx_json.proofs.names.check_names.Goals as goal

pub returns-in-Ok-clause-written : goal.returns-in-Ok-clause-written
returns-in-Ok-clause-written c =
    let is = c.as_ref-schema.ensures ∙ c.in-Ok.ensures.is in
    let P : Shape → Type 0 = λ s. name_fault ByAnyName s ≡ None in
    ok_then c.first_fault.result
    (λ clear. c.canonical_stands.ensures.written (shape_of c.args.pool.now) (rw is at c.shape-proper.ensures.proper)
    (c.shapes_are_well_named.ensures c.args.pool.now c.files-pooled.ensures.pooled c.in-Ok.ensures.numbers) (subst P is clear))
    c.first_fault.ensures.ok
