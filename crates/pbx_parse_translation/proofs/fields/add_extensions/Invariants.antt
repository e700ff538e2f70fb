use Rattle.std.proofs.Common.{◌≡◌, ◌++◌, drop}
use Rattle.std.specs.List.{flat_map}
use Rattle.pbx_parse_tree.specs.View.{type_of, extension_of}
use Rattle.pbx_parse_translation.specs.Fields.{extension_records}
use Rattle.pbx_parse_translation.proofs.fields.add_extensions.Given as goal

abbrev pub invariant-each : goal.invariant-each
invariant-each l =
    l.records ++ flat_map (λ e. extension_records l.version (type_of l.extend.extendee) (extension_of e)) (drop l.extension-index l.extension-items)
    ≡ l.fn.records ++ flat_map (λ e. extension_records l.version (type_of l.extend.extendee) (extension_of e)) l.extend.extensions.items
