use Rattle.std.proofs.Common.{ℕ, List, map, sym, ap, subst, ◌∙◌, rules}
use Rattle.serde_json.specs.Data.{array, object}
use Rattle.serde_json.specs.View.{view, members_view}
use Rattle.serde_json.specs.declared.value.Value.{Null, Array, Object, the_lemmas}
use Rattle.pbx_json_meaning.specs.Canonical.{items_of}
use Rattle.pbx_content.specs.Content.{content, message}
use Rattle.pbx_content.specs.Encoding.{type_of}
use Rattle.pbx_content.specs.Shape.{declared_of, field_of}
use Rattle.pbx_content_codec.specs.View.{content_of, entry_of, fields_in}
use Rattle.pbx_content_codec.specs.declared.contents.Contents.{out-Contents}
use Rattle.pbx_content_codec.specs.declared.contents.Held.{Held}
use Rattle.pbx_json_meaning.specs.Asked.{one}
use Rattle.pbx_json_meaning.specs.Canonical.{tells}
use Rattle.pbx_json_meaning.specs.declared.kind.JsonKind.TheVariants as fault
use Rattle.pbx_json_meaning.specs.Canonical.{writing}
use Rattle.pbx_json_writing.specs.Refusals.{Refused}
use Rattle.pbx_json_writing.proofs.OfAny.{any_told, any_refused}
use Rattle.pbx_json_writing.proofs.Arrays.{list_value, array_refused, array_more, array_done}
use Rattle.pbx_json_writing.proofs.Entries.{map_value, entry_refused, entry_step, entries_done}
use Rattle.pbx_json_writing.proofs.OfFields.{field_unknown, field_refused, field_step, fields_done}
use Rattle.pbx_json_writing.proofs.OfValues.{struct_told, struct_refused, list_told, list_refused, is_value, held_value_told, held_value_refused}
use Rattle.pbx_json_writing.proofs.Refusing.{refused_here}
use Rattle.pbx_json_writing.proofs.Views.{content_is, val_of-Pairs, array_view, object_view}
use Rattle.pbx_json_writing.proofs.writing.+write.Goals as goal

pub held_tree-returns-in-Pairs-clause-refused : goal.held_tree-returns-in-Pairs-clause-refused
held_tree-returns-in-Pairs-clause-refused t c = rw (c.in-Pairs.is, val_of-Pairs c.in-Pairs.pairs) c.entries_tree.ensures.refused

-- ---- lists

pub array_tree-returns-in-Err-clause-refused : goal.array_tree-returns-in-Err-clause-refused
array_tree-returns-in-Err-clause-refused t c =
    subst (λ hs. Refused c.args.schema.now (writing c.args.schema.now c.args.options.now) (list_value c.args.schema.now (writing c.args.schema.now c.args.options.now) c.args.kind hs) c.args.kind c.in-Err.refusal)
    c.as_slice-held-items.ensures
    (array_refused c.args.schema.now (writing c.args.schema.now c.args.options.now) c.args.kind c.as_slice-held-items.result.now c.loop-held.held-index c.held-item.result
    c.loop-held.items.items c.held_tree-written.result c.in-Err.refusal c.loop-held-test.true c.held-item.is c.loop-held.invariant.so
    c.held_tree-written.ensures.refused c.in-Err.ensures.refused)

pub array_tree-loop-held-preserved : goal.array_tree-loop-held-preserved
array_tree-loop-held-preserved t c = record {
  so =
      array_more c.args.schema.now (writing c.args.schema.now c.args.options.now) c.args.kind c.as_slice-held-items.result.now c.loop-held.held-index c.held-item.result
      c.loop-held.items.items c.add_item.new.items.items c.held_tree-written.result c.loop-held-test.true c.held-item.is c.loop-held.invariant.so
      c.held_tree-written.ensures.written c.in_default.ensures.written;
  known = c.held_tree-written.ensures.known;
}

pub array_tree-returns-clause-written : goal.array_tree-returns-clause-written
array_tree-returns-clause-written t c =
    ap (λ hs. tells c.args.schema.now (writing c.args.schema.now c.args.options.now) (list_value c.args.schema.now (writing c.args.schema.now c.args.options.now) c.args.kind hs) (one c.args.kind))
    (sym c.as_slice-held-items.ensures)
    ∙ array_done c.args.schema.now (writing c.args.schema.now c.args.options.now) c.args.kind c.as_slice-held-items.result.now c.loop-held.held-index c.loop-held.items
    c.loop-held-test.false c.loop-held.invariant.so

-- ---- maps

pub entries_tree-returns-in-Err-clause-refused : goal.entries_tree-returns-in-Err-clause-refused
entries_tree-returns-in-Err-clause-refused t c =
    subst (λ ps. Refused c.args.schema.now (writing c.args.schema.now c.args.options.now) (map_value c.args.schema.now (writing c.args.schema.now c.args.options.now) c.args.kind ps) c.args.kind c.in-Err.refusal)
    c.as_slice-pair-items.ensures
    (entry_refused c.args.schema.now (writing c.args.schema.now c.args.options.now) c.args.kind c.as_slice-pair-items.result.now c.loop-pair.pair-index c.pair-item.result
    (members_view c.loop-pair.map.entries) c.loop-pair-test.true c.pair-item.is c.loop-pair.invariant.so c.as_str.result.now c.held_tree-written.result
    c.in-Err.refusal (c.as_str.ensures ∙ c.in-Ok.ensures) c.held_tree-written.ensures.refused c.in-Err.ensures.refused)

pub entries_tree-loop-pair-preserved : goal.entries_tree-loop-pair-preserved
entries_tree-loop-pair-preserved t c = record {
  so =
      entry_step c.args.schema.now (writing c.args.schema.now c.args.options.now) c.args.kind c.as_slice-pair-items.result.now c.loop-pair.pair-index c.pair-item.result
      (members_view c.loop-pair.map.entries) c.loop-pair-test.true c.pair-item.is c.loop-pair.invariant.so c.as_str.result.now c.held_tree-written.result
      (members_view c.add_member.new.map.entries) (c.as_str.ensures ∙ c.in-Ok.ensures) c.held_tree-written.ensures.written
      c.in_default-add_member.ensures.written;
  known = c.held_tree-written.ensures.known;
}

pub entries_tree-returns-clause-written : goal.entries_tree-returns-clause-written
entries_tree-returns-clause-written t c =
    ap (λ ps. tells c.args.schema.now (writing c.args.schema.now c.args.options.now) (map_value c.args.schema.now (writing c.args.schema.now c.args.options.now) c.args.kind ps) (one c.args.kind))
    (sym c.as_slice-pair-items.ensures)
    ∙ entries_done c.args.schema.now (writing c.args.schema.now c.args.options.now) c.args.kind c.as_slice-pair-items.result.now c.loop-pair.pair-index c.loop-pair.map
    c.loop-pair-test.false c.loop-pair.invariant.so

-- ---- fields

pub field_map-returns-in_default-clause-refused : goal.field_map-returns-in_default-clause-refused
field_map-returns-in_default-clause-refused t c =
    refused_here c.args.schema.now (writing c.args.schema.now c.args.options.now) (message (content_of c.args.contents.now)) c.args.kind fault.WrongKind c.here.result c.here.ensures
    (field_unknown c.args.schema.now (writing c.args.schema.now c.args.options.now) c.args.kind (out-Contents c.args.contents.now).kept (content_of c.args.contents.now)
    c.as_slice-field-items.result.now
    (content_is c.args.contents.now ∙ ap (λ (fs : List (ℕ × Held)). content (fields_in (map entry_of fs)) (out-Contents c.args.contents.now).kept)
    (sym c.as_slice-field-items.ensures.same))
    c.loop-field.field-index c.field-item.result c.loop-field-test.true c.field-item.is c.requires.plain fault.WrongKind
    (ap (λ n. field_of c.field-item.result.0 (declared_of c.args.schema.now n)) (sym c.message_type-type_at.ensures) ∙ sym c.in_default.ensures.found))

pub field_map-returns-in-Err-clause-refused : goal.field_map-returns-in-Err-clause-refused
field_map-returns-in-Err-clause-refused t c =
    field_refused c.args.schema.now (writing c.args.schema.now c.args.options.now) c.args.kind (out-Contents c.args.contents.now).kept (content_of c.args.contents.now)
    c.as_slice-field-items.result.now
    (content_is c.args.contents.now ∙ ap (λ (fs : List (ℕ × Held)). content (fields_in (map entry_of fs)) (out-Contents c.args.contents.now).kept)
    (sym c.as_slice-field-items.ensures.same))
    c.loop-field.field-index c.field-item.result c.loop-field-test.true c.field-item.is c.requires.plain c.in-Some.found.now
    (ap (λ n. field_of c.field-item.result.0 (declared_of c.args.schema.now n)) (sym c.message_type-type_at.ensures) ∙ sym c.in-Some.ensures.found)
    (members_view c.loop-field.map.entries) c.loop-field.invariant.so c.key_of_field.result.now c.held_tree-written.result c.in-Err.refusal c.key_of_field.ensures
    c.held_tree-written.ensures.refused c.in-Err.ensures.refused

pub field_map-loop-field-preserved : goal.field_map-loop-field-preserved
field_map-loop-field-preserved t c = record {
  so =
      field_step c.args.schema.now (writing c.args.schema.now c.args.options.now) c.args.kind (out-Contents c.args.contents.now).kept (content_of c.args.contents.now)
      c.as_slice-field-items.result.now
      (content_is c.args.contents.now ∙ ap (λ (fs : List (ℕ × Held)). content (fields_in (map entry_of fs)) (out-Contents c.args.contents.now).kept)
      (sym c.as_slice-field-items.ensures.same))
      c.loop-field.field-index c.field-item.result c.loop-field-test.true c.field-item.is c.requires.plain c.in-Some.found.now
      (ap (λ n. field_of c.field-item.result.0 (declared_of c.args.schema.now n)) (sym c.message_type-type_at.ensures) ∙ sym c.in-Some.ensures.found)
      (members_view c.loop-field.map.entries) c.loop-field.invariant.so c.key_of_field.result.now c.held_tree-written.result
      (members_view c.add_member.new.map.entries) c.key_of_field.ensures c.held_tree-written.ensures.written c.in_default-add_member.ensures.written;
  known = c.held_tree-written.ensures.known;
}

pub field_map-returns-clause-written : goal.field_map-returns-clause-written
field_map-returns-clause-written t c =
    fields_done c.args.schema.now (writing c.args.schema.now c.args.options.now) (declared_of c.args.schema.now (type_of c.args.kind)) (out-Contents c.args.contents.now).kept
    (content_of c.args.contents.now) c.as_slice-field-items.result.now
    (content_is c.args.contents.now ∙ ap (λ (fs : List (ℕ × Held)). content (fields_in (map entry_of fs)) (out-Contents c.args.contents.now).kept)
    (sym c.as_slice-field-items.ensures.same))
    c.loop-field.field-index (members_view c.loop-field.map.entries) c.loop-field-test.false c.loop-field.invariant.so

-- ---- messages of `Any`

pub any_tree-returns-in-Err-clause-refused : goal.any_tree-returns-in-Err-clause-refused
any_tree-returns-in-Err-clause-refused t c = c.in-Err.ensures.refused c.args.options.now

pub any_tree-returns-clause-written : goal.any_tree-returns-clause-written
any_tree-returns-clause-written t c =
    any_told c.args.schema.now c.args.options.now c.args.kind (content_of c.args.contents.now) c.requires.form c.in-Ok.payload c.in-Ok.ensures.found
    c.type_url.result.now c.type_url.ensures c.message_tree-written.result c.with_payload.result c.message_tree-written.ensures.written c.with_payload.ensures.written

pub any_tree-returns-clause-refused : goal.any_tree-returns-clause-refused
any_tree-returns-clause-refused t c =
    any_refused c.args.schema.now c.args.options.now c.args.kind (content_of c.args.contents.now) c.requires.form c.in-Ok.payload c.in-Ok.ensures.found
    c.message_tree-written.result c.with_payload.result c.message_tree-written.ensures.written c.message_tree-written.ensures.refused c.with_payload.ensures.refused

-- ---- messages that are told by the value of a field

pub passed_tree-returns-in-Struct-clause-written : goal.passed_tree-returns-in-Struct-clause-written
passed_tree-returns-in-Struct-clause-written t c =
    struct_told c.args.schema.now (writing c.args.schema.now c.args.options.now) c.args.kind (content_of c.args.contents.now) (view (Object c.new.result)) c.field_tree.result
    (sym c.requires.form ∙ c.in-Struct.is) (sym (object_view c.new.result) ∙ ap (λ es. object (members_view es)) c.new.ensures.empty)
    c.field_tree.ensures.written

pub passed_tree-returns-in-Struct-clause-refused : goal.passed_tree-returns-in-Struct-clause-refused
passed_tree-returns-in-Struct-clause-refused t c =
    struct_refused c.args.schema.now (writing c.args.schema.now c.args.options.now) c.args.kind (content_of c.args.contents.now) c.field_tree.result
    (sym c.requires.form ∙ c.in-Struct.is) c.field_tree.ensures.refused

pub passed_tree-returns-in-ListValue-clause-written : goal.passed_tree-returns-in-ListValue-clause-written
passed_tree-returns-in-ListValue-clause-written t c =
    list_told c.args.schema.now (writing c.args.schema.now c.args.options.now) c.args.kind (content_of c.args.contents.now) (view (Array c.new-in-ListValue.result))
    c.field_tree-in-ListValue.result (sym c.requires.form ∙ c.in-ListValue.is)
    (sym (array_view c.new-in-ListValue.result) ∙ ap (λ vs. array (items_of (map view vs))) c.new-in-ListValue.ensures.items)
    c.field_tree-in-ListValue.ensures.written

pub passed_tree-returns-in-ListValue-clause-refused : goal.passed_tree-returns-in-ListValue-clause-refused
passed_tree-returns-in-ListValue-clause-refused t c =
    list_refused c.args.schema.now (writing c.args.schema.now c.args.options.now) c.args.kind (content_of c.args.contents.now) c.field_tree-in-ListValue.result
    (sym c.requires.form ∙ c.in-ListValue.is) c.field_tree-in-ListValue.ensures.refused

pub passed_tree-returns-in-Ok : goal.passed_tree-returns-in-Ok
passed_tree-returns-in-Ok t c = record {
  written =
      held_value_told c.args.schema.now (writing c.args.schema.now c.args.options.now) c.args.kind (content_of c.args.contents.now)
      (sym c.requires.form ∙ is_value c.args.form c.requires.passed c.in_default.not-Struct c.in_default.not-ListValue c.in_default.not-Any) c.in-Ok.ensures.whole
      c.in-Ok.number c.in-Ok.ensures.first c.in-Ok.number-test.1 (view Null) (search (rules, the_lemmas)) c.field_tree-in-Ok.result c.field_tree-in-Ok.ensures.written;
  refused =
      held_value_refused c.args.schema.now (writing c.args.schema.now c.args.options.now) c.args.kind (content_of c.args.contents.now)
      (sym c.requires.form ∙ is_value c.args.form c.requires.passed c.in_default.not-Struct c.in_default.not-ListValue c.in_default.not-Any) c.in-Ok.ensures.whole
      c.in-Ok.number c.in-Ok.ensures.first c.in-Ok.number-test.1 (view Null) (search (rules, the_lemmas)) c.field_tree-in-Ok.result c.field_tree-in-Ok.ensures.refused;
  known = c.field_tree-in-Ok.ensures.known;
}

pub passed_tree-returns-in-Err : goal.passed_tree-returns-in-Err
passed_tree-returns-in-Err t c = record { written = tt; refused = c.in-Err.ensures.refused (writing c.args.schema.now c.args.options.now); known = c.requires.known }
