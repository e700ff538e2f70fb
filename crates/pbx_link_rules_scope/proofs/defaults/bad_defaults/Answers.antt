use Rattle.std.proofs.Common.{◌≡◌, ◌∙◌, ◌++◌, Bool, List, ap, sym, subst}
use Rattle.std.specs.Prelude.{Option, None, Result, IfOk}
use Rattle.std.specs.List.{flat_map}
use Rattle.pbx_desc_records.specs.declared.field.FieldDescriptorProto.{FieldDescriptorProto}
use Rattle.pbx_desc_records.specs.declared.file.FileDescriptorProto.{FileDescriptorProto}
use Rattle.pbx_desc_records.specs.declared.message.DescriptorProto.{DescriptorProto}
use Rattle.pbx_link_definitions.specs.Definitions.{Place, Part, fields_in, messages, extensions}
use Rattle.pbx_link_definitions.specs.Places.{IsAmong}
use Rattle.pbx_link_definitions.specs.Says.{is_proto3}
use Rattle.pbx_link_rules_scope.specs.Defaults.{has_bad_default, bad_defaults}
use Rattle.pbx_link_rules_scope.specs.Rules.{places_by}
use Rattle.pbx_link_rules_scope.proofs.defaults.bad_defaults.Goals as goal

-- the places among such fields and such extensions
abbrev among : List FileDescriptorProto → Bool → List (Part DescriptorProto) → List (Part FieldDescriptorProto) → List Place
among seen proto3 ms es = places_by (has_bad_default proto3 seen) 7 (flat_map fields_in ms) ++ places_by (has_bad_default proto3 seen) 7 es

-- no field has a bad default, so what is found among the extensions
in_extensions : {E : Type 0} (seen : List FileDescriptorProto) (f : FileDescriptorProto) (proto3 : Bool) → proto3 ≡ is_proto3 f
    → (ms : List (Part DescriptorProto)) → ms ≡ messages f → (es : List (Part FieldDescriptorProto)) → es ≡ extensions f
    → (o : Option Place) → IsAmong (places_by (has_bad_default proto3 seen) 7 (flat_map fields_in ms)) o → o ≡ None
    → (r : Result (Option Place) E) → IfOk r (IsAmong (places_by (has_bad_default proto3 seen) 7 es)) → IfOk r (IsAmong (bad_defaults seen f))
in_extensions {E} seen f proto3 is ms are es those o none found r h =
    let empty = subst (λ (p : Option Place). IsAmong (places_by (has_bad_default proto3 seen) 7 (flat_map fields_in ms)) p) found none in
    subst (λ (ps : List Place). IfOk r (IsAmong ps))
    (sym (ap (λ (ps : List Place). ps ++ places_by (has_bad_default proto3 seen) 7 es) empty)
    ∙ ap (λ (qs : List (Part DescriptorProto)). among seen proto3 qs es) are
    ∙ ap (λ (qs : List (Part FieldDescriptorProto)). among seen proto3 (messages f) qs) those
    ∙ ap (λ (b : Bool). among seen b (messages f) (extensions f)) is)
    h

pub returns-in-None : goal.returns-in-None
returns-in-None g c =
    in_extensions (g.V.Visible.files c.args.seen.now) c.args.parts.now c.is_named-proto3.result
    (c.is_named-proto3.ensures ∙ ap is_proto3 c.file.ensures) c.messages.result.now c.messages.ensures c.extensions.result.now c.extensions.ensures
    c.in_ok-place.field-0 c.in_ok-place.ensures c.in-None.is c.broken_extension.result c.broken_extension.ensures
