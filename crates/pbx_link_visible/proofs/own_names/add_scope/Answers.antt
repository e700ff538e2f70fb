use Rattle.std.proofs.Common.{◌∙◌, ◌&&◌, ◌||◌, Bool, ap}
use Rattle.std.specs.Str.{bytes_eq}
use Rattle.std.specs.String.{string_bytes}
use Rattle.pbx_link_definitions.specs.Names.{qualified}
use Rattle.pbx_link_definitions.specs.Definitions.{full_name, is_scope}
use Rattle.pbx_link_visible.specs.Names.{has_text}
use Rattle.pbx_link_visible.proofs.Texts.{key_inserted}
use Rattle.pbx_link_visible.proofs.own_names.add_scope.Goals as goal

pub returns-in_ok-insert : goal.returns-in_ok-insert
returns-in_ok-insert c = λ q.
    let d = c.args.definition.now in
    let is = c.in_ok-name_key.ensures ∙ ap (λ s. qualified s c.name.result.now) c.scope.ensures ∙ ap (qualified d.scope) c.name.ensures in
    key_inserted c.in_ok-name_key.field-0 (full_name d) c.args.names.now c.insert.new.self is c.in_ok-insert.ensures.updates q
    ∙ ap (λ (b : Bool). (b && bytes_eq (full_name d) q) || has_text string_bytes c.args.names.now q) (c.if-is_scope.ensures ∙ ap is_scope c.sort.ensures)
