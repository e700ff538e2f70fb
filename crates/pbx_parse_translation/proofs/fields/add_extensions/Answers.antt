use Rattle.std.proofs.Common.{◌∙◌, ◌++◌, List, ap}
use Rattle.pbx_desc_records.specs.declared.field.FieldDescriptorProto.{FieldDescriptorProto}
use Rattle.pbx_parse_tree.specs.declared.tree.Extension.{Extension}
use Rattle.pbx_parse_tree.specs.declared.tree.Version.{Version}
use Rattle.pbx_parse_tree.specs.Tree.{TypeName}
use Rattle.pbx_parse_tree.specs.View.{type_of, extension_of}
use Rattle.pbx_parse_translation.specs.Fields.{extension_records, extend_records}
use Rattle.pbx_parse_translation.proofs.Lists.{flat_seen, none_left}
use Rattle.pbx_parse_translation.proofs.fields.add_extensions.Goals as goal

abbrev seen_extension : Version → TypeName → Extension → List FieldDescriptorProto
seen_extension v extendee e = extension_records v extendee (extension_of e)

pub returns : goal.returns
unfolding extend_records
returns c =
    let v = c.args.version in
    let extendee = type_of c.args.extend.now.extendee in
    none_left (seen_extension v extendee) c.deref-extension-items.result.now c.each.extension-index c.each.records _ c.each-test.false c.each.invariant
    ∙ ap (λ rs. c.args.records.now ++ rs) (flat_seen (extension_records v extendee) extension_of c.args.extend.now.extensions.items)
