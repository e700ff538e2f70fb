use Rattle.std.proofs.Common.{◌≡◌, ◌∙◌, List, ℕ, ap, subst}
use Rattle.pbx_desc_records.specs.declared.message.DescriptorProto.{DescriptorProto}
use Rattle.pbx_link_meaning.specs.Descriptors.{Described}
use Rattle.pbx_link_meaning.specs.Shapes.{shape_of, place_of}
use Rattle.protox_io.specs.Sink.{Appends}
use Rattle.protox_lines_items.specs.Lines.{AreLines}
use Rattle.protox_lines_items.specs.Cutting.{ConvertsBy}
use Rattle.protox_lines.specs.Converted.{to_record, IsLineFault}
use Rattle.protox_lines.specs.Target.{Target, target}
use Rattle.protox_lines.proofs.Streams.{lines_told, lines_untold}
use Rattle.protox_lines.proofs.converter.Converter.lines_to_records.Goals as goal

pub returns-clause-told : goal.returns-clause-told
returns-clause-told g c s t =
    let d = c.args.self.now in
    let shape : c.as_ref.result.now ≡ shape_of d.pool = c.as_ref.ensures ∙ c.self.invariant.1 ∙ ap (λ (v : Described DescriptorProto). shape_of v.pool) c.self.view_is in
    let place : c.self.inside.place ≡ place_of d = c.self.invariant.2 ∙ ap place_of c.self.view_is in
    let made : c.new-converter.result ≡ target (shape_of d.pool) (place_of d) =
    c.new-converter.ensures ∙ ap (λ z. target z c.self.inside.place) shape ∙ ap (target (shape_of d.pool)) place in
    let P : Target → Type 0 = λ z. Appends (g.K.Sink.output c.args.out.now).held (g.K.Sink.output c.convert_items.new.out).held
    (ConvertsBy AreLines (to_record z.shape z.place) (IsLineFault z.shape z.place) (g.S.Source.input c.args.input.now).left c.convert_items.result) in
    lines_told (to_record (shape_of d.pool) (place_of d)) (IsLineFault (shape_of d.pool) (place_of d)) (g.S.Source.input c.args.input.now).left c.convert_items.result
    (g.K.Sink.output c.args.out.now).held (g.K.Sink.output c.convert_items.new.out).held (subst P made (c.convert_items.ensures.told s t))

pub returns-clause-untold : goal.returns-clause-untold
returns-clause-untold g c t =
    let d = c.args.self.now in
    let shape : c.as_ref.result.now ≡ shape_of d.pool = c.as_ref.ensures ∙ c.self.invariant.1 ∙ ap (λ (v : Described DescriptorProto). shape_of v.pool) c.self.view_is in
    let place : c.self.inside.place ≡ place_of d = c.self.invariant.2 ∙ ap place_of c.self.view_is in
    let made : c.new-converter.result ≡ target (shape_of d.pool) (place_of d) =
    c.new-converter.ensures ∙ ap (λ z. target z c.self.inside.place) shape ∙ ap (target (shape_of d.pool)) place in
    let P : Target → Type 0 = λ z. Appends (g.K.Sink.output c.args.out.now).held (g.K.Sink.output c.convert_items.new.out).held
    (λ said. (read : List ℕ) × ConvertsBy AreLines (to_record z.shape z.place) (IsLineFault z.shape z.place) read c.convert_items.result said) in
    lines_untold (to_record (shape_of d.pool) (place_of d)) (IsLineFault (shape_of d.pool) (place_of d)) c.convert_items.result
    (g.K.Sink.output c.args.out.now).held (g.K.Sink.output c.convert_items.new.out).held (subst P made (c.convert_items.ensures.untold t))
