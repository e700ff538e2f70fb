use Rattle.std.proofs.Common.{◌≡◌, ◌∙◌, List, ℕ, ap, subst}
use Rattle.pbx_desc_records.specs.declared.message.DescriptorProto.{DescriptorProto}
use Rattle.pbx_link_meaning.specs.Descriptors.{Described}
use Rattle.pbx_link_meaning.specs.Shapes.{shape_of, place_of}
use Rattle.protox_io.specs.Sink.{Appends}
use Rattle.protox_lines_items.specs.Items.{AreItems}
use Rattle.protox_lines_items.specs.Cutting.{ConvertsBy}
use Rattle.protox_lines.specs.Converted.{to_line, IsRecordFault}
use Rattle.protox_lines.specs.Target.{Target, target}
use Rattle.protox_lines.proofs.converter.Converter.records_to_lines.Goals as goal

pub returns-clause-told : goal.returns-clause-told
returns-clause-told g c s t =
    let d = c.args.self.now in
    let shape : c.as_ref.result.now ≡ shape_of d.pool = c.as_ref.ensures ∙ c.self.invariant.1 ∙ ap (λ (v : Described DescriptorProto). shape_of v.pool) c.self.view_is in
    let place : c.self.inside.place ≡ place_of d = c.self.invariant.2 ∙ ap place_of c.self.view_is in
    let made : c.new-converter.result ≡ target (shape_of d.pool) (place_of d) =
    c.new-converter.ensures ∙ ap (λ z. target z c.self.inside.place) shape ∙ ap (target (shape_of d.pool)) place in
    let P : Target → Type 0 = λ z. Appends (g.K.Sink.output c.args.out.now).held (g.K.Sink.output c.convert_items.new.out).held
    (ConvertsBy AreItems (to_line z.shape z.place) (IsRecordFault z.shape z.place) (g.S.Source.input c.args.input.now).left c.convert_items.result) in
    subst P made (c.convert_items.ensures.told s t)

pub returns-clause-untold : goal.returns-clause-untold
returns-clause-untold g c t =
    let d = c.args.self.now in
    let shape : c.as_ref.result.now ≡ shape_of d.pool = c.as_ref.ensures ∙ c.self.invariant.1 ∙ ap (λ (v : Described DescriptorProto). shape_of v.pool) c.self.view_is in
    let place : c.self.inside.place ≡ place_of d = c.self.invariant.2 ∙ ap place_of c.self.view_is in
    let made : c.new-converter.result ≡ target (shape_of d.pool) (place_of d) =
    c.new-converter.ensures ∙ ap (λ z. target z c.self.inside.place) shape ∙ ap (target (shape_of d.pool)) place in
    let P : Target → Type 0 = λ z. Appends (g.K.Sink.output c.args.out.now).held (g.K.Sink.output c.convert_items.new.out).held
    (λ said. (read : List ℕ) × ConvertsBy AreItems (to_line z.shape z.place) (IsRecordFault z.shape z.place) read c.convert_items.result said) in
    subst P made (c.convert_items.ensures.untold t)
