use Rattle.std.proofs.Common.{◌∙◌, ap}
use Rattle.std.specs.Prelude.{slice_get}
use Rattle.pbx_desc_records.specs.declared.field.FieldDescriptorProto.{FieldDescriptorProto}
use Rattle.pbx_desc_records.specs.declared.file.FileDescriptorProto.{FileDescriptorProto}
use Rattle.pbx_link_definitions.specs.Definitions.{Part, extensions}
use Rattle.pbx_link_meaning.specs.Descriptors.{Described, parent_of}
use Rattle.pbx_link.specs.Tables.{part_at, no_field}
use Rattle.pbx_link.proofs.Parts.{part_is}
use Rattle.pbx_link.proofs.FirstNamed.{parent_is, no_parent}
use Rattle.pbx_link.proofs.extension.ExtensionDescriptor.parent_message.Goals as goal

pub returns-in-Some : goal.returns-in-Some
returns-in-Some c =
    let d = c.self.inside in
    let there = c.extension.ensures ∙ ap (λ (g : FileDescriptorProto). slice_get (extensions g) d.index) c.as_ref.ensures in
    let part = part_is no_field (extensions d.table) d.index c.extension.result c.unwrap-part.result there c.self.invariant.1 c.unwrap-part.ensures in
    let found = c.in-Some.ensures in
    parent_is d.pool d.table (part_at no_field (extensions d.table) d.index).scope c.scope.result.now
    (c.scope.ensures ∙ ap (λ (p : Part FieldDescriptorProto). p.scope) part) c.copy.result c.copy-in-Some.result c.as_ref-2.result.now c.in-Some.index
    c.copy.ensures c.copy-in-Some.ensures c.as_ref-2.ensures found.1
    ∙ ap (λ (e : Described FieldDescriptorProto). parent_of e) c.self.view_is

pub returns-in-None : goal.returns-in-None
returns-in-None c =
    let d = c.self.inside in
    let there = c.extension.ensures ∙ ap (λ (g : FileDescriptorProto). slice_get (extensions g) d.index) c.as_ref.ensures in
    let part = part_is no_field (extensions d.table) d.index c.extension.result c.unwrap-part.result there c.self.invariant.1 c.unwrap-part.ensures in
    no_parent d.pool d.table (part_at no_field (extensions d.table) d.index).scope c.scope.result.now
    (c.scope.ensures ∙ ap (λ (p : Part FieldDescriptorProto). p.scope) part) c.as_ref-2.result.now c.as_ref-2.ensures c.in-None.ensures
    ∙ ap (λ (e : Described FieldDescriptorProto). parent_of e) c.self.view_is
