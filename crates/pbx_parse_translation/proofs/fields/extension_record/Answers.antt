use Rattle.std.proofs.Common.{◌≡◌, ◌∙◌, Bool, true, Option, Some, None, if◌then◌else◌, refl, sym, ap}
use Rattle.pbx_parse_tree.specs.Tree.{Field}
use Rattle.pbx_parse_tree.specs.View.{field_of}
use Rattle.pbx_parse_translation.specs.Fields.{is_proto3_optional, labelled_field, typed_field, untyped_field}
use Rattle.pbx_parse_translation.proofs.fields.extension_record.Goals as goal
use Rattle.pbx_parse_translation.proofs.fields.extension_record.Goals.{then-is_proto3_optional, else-is_proto3_optional}

without_presence : (f : Field) → (labelled_field f).proto3_optional ≡ None
unfolding labelled_field typed_field untyped_field
without_presence f = refl

abbrev presence : Bool → Option Bool
presence b = if b then Some true else None

pub returns : goal.returns
returns c =
    let f = field_of c.args.field.now in
    let optional = is_proto3_optional c.args.version c.args.field.now.label in
    elim c.if-is_proto3_optional.branch [
      | then-is_proto3_optional w ↦
          let has : presence optional ≡ Some true = ap presence (sym c.is_proto3_optional.ensures ∙ w.if-is_proto3_optional.true) in
          cc (w.record-is, has, c.in_ok-record.ensures, c.in_ok-extendee.ensures)
      | else-is_proto3_optional w ↦
          let has : presence optional ≡ None = ap presence (sym c.is_proto3_optional.ensures ∙ w.if-is_proto3_optional.false) in
          let kept : c.in_ok-record.record.proto3_optional ≡ None = ap (λ r. r.proto3_optional) c.in_ok-record.ensures ∙ without_presence f in
          cc (w.record-is, has, kept, c.in_ok-record.ensures, c.in_ok-extendee.ensures)
    ]
