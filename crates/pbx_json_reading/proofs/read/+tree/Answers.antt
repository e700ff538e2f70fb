use Rattle.std.proofs.Common.{◌≡◌, ◌∙◌, ap, sym, None, option_map, Ok, Err, rules, ◌∷◌}
use Rattle.serde_json.specs.View.{view, members_view}
use Rattle.pbx_content.specs.Shape.{declared_of}
use Rattle.pbx_content.specs.declared.shape.Kind.TheVariants.{Message}
use Rattle.pbx_content_codec.specs.View.{content_of, val_of}
use Rattle.pbx_json_walk.specs.Walk.{walk, start, parts, answer_map, content_found, walk_entries, no_entries, map_value, answers, and_then}
use Rattle.pbx_json_walk.specs.Walk.{Part, walk_payload, payload_found, elements_in, parts_in}
use Rattle.pbx_json_reading.specs.States.{state_of, entries_of}
use Rattle.pbx_json_reading.specs.Objects.{parts_read}
use Rattle.std.proofs.Common.{Some, true}
use Rattle.pbx_content.specs.Meaning.{shown}
use Rattle.pbx_json_meaning.specs.Asked.{field, one, target_by, has_presence}
use Rattle.pbx_json_meaning.specs.Names.{field_named}
use Rattle.pbx_json_meaning.specs.declared.place.Step.TheVariants.{Key as to_key}
use Rattle.pbx_content.specs.declared.shape.Kind.TheVariants.{String as a_text}
use Rattle.pbx_json_walk.specs.Walk.{at_step, or_here, value_turn, target_answer, list_answer, map_answer, message_answer, message_found, key_judged, payload_turn, entry_turn}
use Rattle.pbx_json_reading.specs.Objects.{fields_object, member_turn, payload_object}
use Rattle.pbx_json_reading.proofs.Members.{member_read, payload_value, payload_other, fields_walk, fields_first, map_walk, payload_walk, fault_from}
use Rattle.pbx_json_reading.proofs.Answered.{told_by, told_made, told_both, one_answer, plain_answer, field_answer}
use Rattle.pbx_json_reading.proofs.read.+tree.Goals as goal

pub read_object-returns-clause-told : goal.read_object-returns-clause-told
read_object-returns-clause-told t c =
    let S = c.args.reading.now.schema.now in
    let A = c.args.reading.now.allow in
    let fs = declared_of S c.args.place in
    let left : walk c.args.skips fs (parts_read c.args.beside (parts S A (members_view c.in-Ok.members.now.entries))) start ≡ Ok (state_of c.loop-key.state) = search rules in
    told_by content_of _ _ c.into_contents.result
    (told_made content_of _ c.into_contents.result c.into_contents.ensures.ok c.into_contents.ensures.err)
    (fields_walk c.args.beside S A c.args.skips fs (view c.args.tree.now) c.in-Ok.members.now.entries c.iter-key-items.ensures.ordered c.in-Ok.ensures
    ∙ ap (answer_map content_found) left)

pub read_object-returns-in-Err-read_member-clause-told : goal.read_object-returns-in-Err-read_member-clause-told
read_object-returns-in-Err-read_member-clause-told t c =
    let S = c.args.reading.now.schema.now in
    let A = c.args.reading.now.allow in
    fault_from (member_turn c.args.beside c.args.skips (declared_of S c.args.place) c.as_str.result.now (answers S A (view c.in-Some.member.now)) (state_of c.loop-key.state)) (fields_object c.args.beside c.args.skips (declared_of S c.args.place) (view c.args.tree.now) (parts_in S A (view c.args.tree.now))) c.in-Err-read_member.error c.in-Err-read_member.ensures.told (λ at.
    let fs = declared_of S c.args.place in
    let begun : walk c.args.skips fs (parts_read c.args.beside (parts S A (members_view c.in-Ok.members.now.entries))) start
    ≡ walk c.args.skips fs (parts_read c.args.beside (parts S A (members_view c.loop-key.key-iterator))) (state_of c.loop-key.state) = search rules in
    let one : Part = record { key = c.as_str.result.now; answers = answers S A (view c.in-Some.member.now) } in
    let rest : parts S A (members_view c.loop-key.key-iterator) ≡ one ∷ parts S A (members_view c.next.new.self) = search rules in
    fields_walk c.args.beside S A c.args.skips fs (view c.args.tree.now) c.in-Ok.members.now.entries c.iter-key-items.ensures.ordered c.in-Ok.ensures
    ∙ ap (answer_map content_found) (begun ∙ ap (λ ps. walk c.args.skips fs (parts_read c.args.beside ps) (state_of c.loop-key.state)) rest
    ∙ fields_first c.args.beside c.args.skips fs one (parts S A (members_view c.next.new.self)) (state_of c.loop-key.state)
    ∙ ap (λ a. and_then a (walk c.args.skips fs (parts_read c.args.beside (parts S A (members_view c.next.new.self))))) at))

pub read_map-returns-clause-told : goal.read_map-returns-clause-told
read_map-returns-clause-told t c =
    let S = c.args.reading.now.schema.now in
    let A = c.args.reading.now.allow in
    let left : walk_entries c.args.key_kind c.args.kind (parts S A (members_view c.in-Ok.members.now.entries)) no_entries ≡ Ok (entries_of c.loop-key.entries) = search rules in
    told_by (option_map val_of) _ _ c.map_held.result
    (told_made (option_map val_of) _ c.map_held.result c.map_held.ensures.ok c.map_held.ensures.err)
    (map_walk S A c.args.key_kind c.args.kind (view c.args.tree.now) c.in-Ok.members.now.entries c.iter-key-items.ensures.ordered c.in-Ok.ensures
    ∙ ap (answer_map map_value) left)

pub read_map-returns-in-Err-read_entry-clause-told : goal.read_map-returns-in-Err-read_entry-clause-told
read_map-returns-in-Err-read_entry-clause-told t c =
    let S = c.args.reading.now.schema.now in
    let A = c.args.reading.now.allow in
    fault_from (at_step (to_key c.as_str.result.now) (entry_turn c.args.key_kind c.args.kind c.as_str.result.now (answers S A (view c.in-Some.member.now)) (entries_of c.loop-key.entries))) (map_answer c.args.key_kind c.args.kind (view c.args.tree.now) (parts_in S A (view c.args.tree.now))) c.in-Err-read_entry.error c.in-Err-read_entry.ensures.told (λ at.
    let left : walk_entries c.args.key_kind c.args.kind (parts S A (members_view c.in-Ok.members.now.entries)) no_entries ≡ Err c.in-Err-read_entry.error = search (rules, at) in
    map_walk S A c.args.key_kind c.args.kind (view c.args.tree.now) c.in-Ok.members.now.entries c.iter-key-items.ensures.ordered c.in-Ok.ensures
    ∙ ap (answer_map map_value) left)

pub read_payload-returns-clause-told : goal.read_payload-returns-clause-told
read_payload-returns-clause-told t c =
    let S = c.args.reading.now.schema.now in
    let A = c.args.reading.now.allow in
    let left : walk_payload c.args.skips (Message c.args.place) (parts S A (members_view c.in-Ok.members.now.entries)) None ≡ Ok (option_map content_of c.loop-key.found) = search rules in
    told_by content_of _ _ c.payload_found.result
    (told_both content_of _ c.payload_found.result c.payload_found.ensures.ok c.payload_found.ensures.err)
    (payload_walk S A c.args.skips (Message c.args.place) (view c.args.tree.now) c.in-Ok.members.now.entries c.iter-key-items.ensures.ordered c.in-Ok.ensures
    ∙ ap (λ a. and_then a payload_found) left)

pub read_payload-returns-in-Err-read_payload_member-clause-told : goal.read_payload-returns-in-Err-read_payload_member-clause-told
read_payload-returns-in-Err-read_payload_member-clause-told t c =
    let S = c.args.reading.now.schema.now in
    let A = c.args.reading.now.allow in
    let k = Message c.args.place in
    fault_from (at_step (to_key c.as_str.result.now) (payload_turn c.args.skips (Message c.args.place) c.as_str.result.now (answers S A (view c.in-Some.member.now)) (option_map content_of c.loop-key.found))) (payload_object c.args.skips (Message c.args.place) (view c.args.tree.now) (parts_in S A (view c.args.tree.now))) c.in-Err-read_payload_member.error c.in-Err-read_payload_member.ensures.told (λ at.
    let begun : walk_payload c.args.skips k (parts S A (members_view c.in-Ok.members.now.entries)) None
    ≡ walk_payload c.args.skips k (parts S A (members_view c.loop-key.key-iterator)) (option_map content_of c.loop-key.found) = search rules in
    let rest : parts S A (members_view c.loop-key.key-iterator)
    ≡ (record { key = c.as_str.result.now; answers = answers S A (view c.in-Some.member.now) }) ∷ parts S A (members_view c.next.new.self) = search rules in
    payload_walk S A c.args.skips k (view c.args.tree.now) c.in-Ok.members.now.entries c.iter-key-items.ensures.ordered c.in-Ok.ensures
    ∙ ap (λ a. and_then a payload_found) (begun ∙ ap (λ ps. walk_payload c.args.skips k ps (option_map content_of c.loop-key.found)) rest
    ∙ ap (λ a. and_then a (walk_payload c.args.skips k (parts S A (members_view c.next.new.self)))) at))

pub read_entry-returns-in-Ok-clause-told : goal.read_entry-returns-in-Ok-clause-told
read_entry-returns-in-Ok-clause-told t c =
    let S = c.args.reading.now.schema.now in
    let A = c.args.reading.now.allow in
    let d = view c.args.tree.now in
    told_by _ _ _ c.add_pair.result (c.add_pair.ensures (answers S A d (one c.args.kind)) c.read_value-read.ensures.told)
    (ap (λ r. at_step (to_key c.args.key.now) (and_then (or_here r) (value_turn c.args.kind (answers S A d) (entries_of c.args.entries.now)))) c.in-Ok.ensures.ok)

pub read_item-returns-clause-told : goal.read_item-returns-clause-told
read_item-returns-clause-told t c =
    let S = c.args.reading.now.schema.now in
    let A = c.args.reading.now.allow in
    let d = view c.args.tree.now in
    c.add_item.ensures (answers S A d (one c.args.kind)) c.read_value-read.ensures.told

pub read_field-returns-clause-told : goal.read_field-returns-clause-told
read_field-returns-clause-told t c =
    let S = c.args.reading.now.schema.now in
    let A = c.args.reading.now.allow in
    let d = view c.args.tree.now in
    let f = c.args.field.now in
    told_by (option_map val_of) _ _ c.shown_read.result (c.shown_read.ensures (target_answer S A (target_by f f.cardinality) d (elements_in S A d) (parts_in S A d)) c.read_values-read.ensures.told)
    (field_answer S A d f ∙ ap (λ g. answer_map (shown S (has_presence f) f.kind) (target_answer S A g d (elements_in S A d) (parts_in S A d))) (c.is_left_out.ensures.no c.if-is_left_out.false))

pub read_member-returns-in-Ok-Some-clause-told : goal.read_member-returns-in-Ok-Some-clause-told
read_member-returns-in-Ok-Some-clause-told t c =
    let S = c.args.reading.now.schema.now in
    let A = c.args.reading.now.allow in
    let d = view c.args.tree.now in
    let f = c.in-Ok-Some.field.now in
    let named : key_judged c.args.skips (field_named c.args.key.now (declared_of S c.args.place)) (state_of c.args.state.now) ≡ Ok (Some f) = search rules in
    told_by _ _ _ c.note_read.result (c.note_read.ensures (answers S A d (field f)) c.read_field-read.ensures.told)
    (member_read c.args.beside c.args.skips (declared_of S c.args.place) c.args.key.now (answers S A d) (state_of c.args.state.now) f (sym c.is_passed.ensures ∙ c.if-is_passed.false) named)

pub read_parts-returns-in-Elements-clause-told : goal.read_parts-returns-in-Elements-clause-told
read_parts-returns-in-Elements-clause-told t c =
    let S = c.args.reading.now.schema.now in
    let A = c.args.reading.now.allow in
    let d = view c.args.tree.now in
    told_by content_of _ _ c.held_by.result (c.held_by.ensures (list_answer c.kind_at-kind.result d (elements_in S A d)) c.read_list-read.ensures.told) (search rules)

pub read_parts-returns-in-Members-clause-told : goal.read_parts-returns-in-Members-clause-told
read_parts-returns-in-Members-clause-told t c =
    let S = c.args.reading.now.schema.now in
    let A = c.args.reading.now.allow in
    let d = view c.args.tree.now in
    told_by content_of _ _ c.held_by-in-Members.result (c.held_by-in-Members.ensures (map_answer a_text c.kind_at-kind-in-Members.result d (parts_in S A d)) c.read_map-read.ensures.told) (search rules)

pub read_parts-returns-in-Beside-clause-told : goal.read_parts-returns-in-Beside-clause-told
read_parts-returns-in-Beside-clause-told t c =
    let S = c.args.reading.now.schema.now in
    let A = c.args.reading.now.allow in
    let d = view c.args.tree.now in
    let p = c.in-Beside.packing in
    told_by content_of _ _ c.packed.result (c.packed.ensures (fields_object true p.skips (declared_of S p.payload) d (parts_in S A d)) c.read_object-read.ensures.told) (search rules)

pub read_parts-returns-in-Under-clause-told : goal.read_parts-returns-in-Under-clause-told
read_parts-returns-in-Under-clause-told t c =
    let S = c.args.reading.now.schema.now in
    let A = c.args.reading.now.allow in
    let d = view c.args.tree.now in
    let p = c.in-Under.packing in
    told_by content_of _ _ c.packed-in-Under.result (c.packed-in-Under.ensures (payload_object p.skips (Message p.payload) d (parts_in S A d)) c.read_payload-read.ensures.told) (search rules)

pub read_payload_member-returns-then-is_value_key-clause-told : goal.read_payload_member-returns-then-is_value_key-clause-told
read_payload_member-returns-then-is_value_key-clause-told t c =
    let S = c.args.reading.now.schema.now in
    let A = c.args.reading.now.allow in
    let d = view c.args.tree.now in
    told_by _ _ _ c.note_payload.result (c.note_payload.ensures (message_answer S A c.args.place d (elements_in S A d) (parts_in S A d)) c.read_message-read.ensures.told)
    (ap (at_step (to_key c.args.key.now)) (payload_value c.args.skips (Message c.args.place) c.args.key.now (answers S A d) (option_map content_of c.args.found.now) (sym c.is_type_key.ensures ∙ c.if-is_type_key.false) (sym c.is_value_key.ensures ∙ c.if-is_value_key.true)
    ∙ ap (answer_map message_found) (one_answer S A d (Message c.args.place))))

pub read_payload_member-returns-clause-told : goal.read_payload_member-returns-clause-told
read_payload_member-returns-clause-told t c =
    let S = c.args.reading.now.schema.now in
    let A = c.args.reading.now.allow in
    let d = view c.args.tree.now in
    told_by _ _ _ c.skip_or_refuse.result (c.skip_or_refuse.ensures (option_map content_of c.args.found.now))
    (ap (at_step (to_key c.args.key.now)) (payload_other c.args.skips (Message c.args.place) c.args.key.now (answers S A d) (option_map content_of c.args.found.now) (sym c.is_type_key.ensures ∙ c.if-is_type_key.false) (sym c.is_value_key.ensures ∙ c.if-is_value_key.false)))

pub read_value-returns-in-Message-clause-told : goal.read_value-returns-in-Message-clause-told
read_value-returns-in-Message-clause-told t c =
    let S = c.args.reading.now.schema.now in
    let A = c.args.reading.now.allow in
    let d = view c.args.tree.now in
    told_by (option_map val_of) _ _ c.as_held.result (c.as_held.ensures (message_answer S A c.in-Message.place d (elements_in S A d) (parts_in S A d)) c.read_message.ensures.told)
    (one_answer S A d c.args.kind ∙ search rules)

pub read_value-returns-in_default : goal.read_value-returns-in_default
read_value-returns-in_default t c =
    let S = c.args.reading.now.schema.now in
    let A = c.args.reading.now.allow in
    let d = view c.args.tree.now in
    record {
      told = told_by (option_map val_of) _ _ c.read_plain.result c.read_plain.ensures.told (one_answer S A d c.args.kind ∙ plain_answer S A d c.args.kind c.in_default.not-Message);
      names = c.read_plain.ensures.names;
    }

pub read_values-returns-in-Singular-clause-told : goal.read_values-returns-in-Singular-clause-told
read_values-returns-in-Singular-clause-told t c =
    let S = c.args.reading.now.schema.now in
    let A = c.args.reading.now.allow in
    let d = view c.args.tree.now in
    let f = c.args.field.now in
    told_by (option_map val_of) _ _ c.read_value.result c.read_value.ensures.told
    (ap (λ g. target_answer S A (target_by f g) d (elements_in S A d) (parts_in S A d)) c.in-Singular.is ∙ sym (one_answer S A d f.kind))

pub read_field-returns-then-is_left_out-clause-told : goal.read_field-returns-then-is_left_out-clause-told
read_field-returns-then-is_left_out-clause-told t c =
    let S = c.args.reading.now.schema.now in
    let A = c.args.reading.now.allow in
    let d = view c.args.tree.now in
    let f = c.args.field.now in
    field_answer S A d f ∙ ap (λ g. answer_map (shown S (has_presence f) f.kind) (target_answer S A g d (elements_in S A d) (parts_in S A d))) (c.is_left_out.ensures.yes c.if-is_left_out.true)
