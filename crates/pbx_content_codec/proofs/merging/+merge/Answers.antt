use Rattle.std.proofs.Common.{◌≡◌, ◌-◌, true, false, Some, Option, option_map, refl, sym, ap, ◌∙◌, inl, arith, rules}
use Rattle.pbx_wire.specs.View.{rec_of}
use Rattle.pbx_content.specs.Content.{Content, Val}
use Rattle.pbx_content.specs.Onto.{message_held}
use Rattle.pbx_content_codec.proofs.Keyed.{on_ok_more, pair_found, pair_reads, pair_inside}
use Rattle.pbx_content.specs.Shape.{fields_of, entry_fields, is_float}
use Rattle.pbx_content.specs.Laws.{takes_key}
use Rattle.pbx_content.proofs.OntoSplits.{is_plain}
use Rattle.pbx_content.proofs.OntoLaw.{onto_at}
use Rattle.pbx_content_codec.specs.Fields.{fields_at}
use Rattle.pbx_content_codec.specs.Merging.{onto_with}
use Rattle.pbx_content_codec.specs.View.{content_of, val_of}
use Rattle.pbx_content_codec.proofs.Packs.{nil_of}
use Rattle.pbx_content_codec.proofs.Likeness.{fields_are}
use Rattle.pbx_content_codec.proofs.Decoded.{start_ready}
use Rattle.pbx_content_codec.proofs.Ready.{ready_unless, onto_unless, has_stable, has_ordered, field_merges, unread_merges, float_merges, rec_told}
use Rattle.pbx_content_codec.proofs.Reading.{gone_none, gone_more, gone_all, told_behind, told_key, told_front, told_rec}
use Rattle.pbx_content_codec.proofs.Single.{single_found, list_found, joined_found, added_found, alone_breaks, spread_breaks, joined_reads, added_reads, joined_inside, added_inside, payload_breaks, payload_told, err_more}
use Rattle.pbx_content_codec.proofs.merging.+merge.Goals as goal

-- ---- payloads

pub merge_payload-merge_bytes-requires : goal.merge_payload-merge_bytes-requires
merge_payload-merge_bytes-requires t c = (
  omega (arith, c.decreases),
  (
    c.requires.proper,
    (
      (λ e. e, λ e. e),
      (c.requires.ends c.in-Some.bytes.now (sym c.in-Some.ensures), c.requires.ready (c.args.messages - 1) (omega arith)),
    ),
  ),
)

pub merge_payload-returns : goal.merge_payload-returns
merge_payload-returns t c = record {
  found = on_ok_more c.merge_bytes.result (λ means. (c.args.messages - 1, c.in-Some.bytes.now, omega arith, sym c.in-Some.ensures, means))
      c.merge_bytes.ensures.found;
  fault = err_more c.merge_bytes.result (λ e told. payload_told c.args.schema.now c.args.messages (c.args.messages - 1) c.args.at c.args.end
      (rec_of c.args.rec.now) (fields_at c.args.schema.now c.args.owner) c.in-Some.bytes.now e (omega arith) (sym c.in-Some.ensures) told)
      c.merge_bytes.ensures.fault;
}

-- ---- messages

pub join_message-merge_payload-requires : goal.join_message-merge_payload-requires
join_message-merge_payload-requires t c = (
  omega (arith, c.decreases),
  (
    c.requires.proper,
    (
      c.requires.ends,
      λ deeper deep. (ready_unless c.args.stable c.args.schema.now deeper (fields_of c.args.schema.now c.args.type_at) (message_held
          (option_map val_of c.args.held.now)) (content_of c.in-Ok.inner)
          c.requires.proper (inl (c.args.type_at, refl))
          (c.requires.stable c.args.type_at deeper c.requires.once c.requires.kind deep) c.in-Ok.ensures).0,
    ),
  ),
)

pub join_message-returns-in-Ok-merge_payload-clause-found : goal.join_message-returns-in-Ok-merge_payload-clause-found
join_message-returns-in-Ok-merge_payload-clause-found t c =
    let means = c.in-Ok-merge_payload.ensures.found in
    joined_found c.args.schema.now c.args.messages means.0 c.args.type_at c.args.view (option_map val_of c.args.held.now)
    (rec_of c.args.rec.now) means.1
    (content_of c.merge_payload.new.into) c.requires.kind c.requires.once means.2 means.3
    (onto_unless c.args.stable c.args.schema.now means.0 means.0 (fields_of c.args.schema.now c.args.type_at) (message_held
    (option_map val_of c.args.held.now)) (content_of c.in-Ok.inner) means.1
    c.requires.proper (inl (c.args.type_at, refl))
    (c.requires.stable c.args.type_at means.0 c.requires.once c.requires.kind means.2) c.in-Ok.ensures
    ∙ means.4)
    ∙ ap (λ (x : Option Val). Some x) (sym c.set_message.ensures)

pub join_message-returns-in-Err-clause-fault : goal.join_message-returns-in-Err-clause-fault
join_message-returns-in-Err-clause-fault t c =
    payload_breaks c.args.schema.now c.args.groups c.args.messages c.args.view c.args.at c.args.end (rec_of c.args.rec.now)
    (fields_of c.args.schema.now c.args.type_at) c.in-Err.fault c.requires.left
    (joined_reads c.args.type_at c.args.view.cardinality c.args.view.kind c.requires.kind c.requires.once)
    (joined_inside c.args.schema.now c.args.type_at c.args.view.cardinality c.args.view.kind c.requires.kind c.requires.once) c.in-Err.ensures.fault

pub push_message-merge_payload-requires : goal.push_message-merge_payload-requires
push_message-merge_payload-requires t c = (
  omega (arith, c.decreases),
  (
    c.requires.proper,
    (
      c.requires.ends,
      λ deeper deep. start_ready true c.args.schema.now deeper (fields_of c.args.schema.now c.args.type_at) (content_of c.new-inner.result) c.new-inner.ensures,
    ),
  ),
)

pub push_message-returns-in-Ok : goal.push_message-returns-in-Ok
push_message-returns-in-Ok t c =
    let means = c.in-Ok.ensures.found in
    record {
      found = on_ok_more c.add_message.result (λ added. added_found c.args.schema.now c.args.messages means.0 c.args.type_at c.args.view
          (option_map val_of c.args.held.now) (rec_of c.args.rec.now) means.1
          (content_of c.merge_payload.new.into) c.requires.kind c.requires.list means.2 means.3
          (ap (λ (x : Content). onto_with c.args.schema.now means.0 means.0 (fields_of c.args.schema.now c.args.type_at) x means.1) (sym c.new-inner.ensures)
          ∙ means.4)
          ∙ ap (λ (x : Option Val). Some x) (sym added)) c.add_message.ensures.added;
      fault = err_more c.add_message.result (λ e none. inl none) c.add_message.ensures.fault;
    }

pub push_message-returns-in-Err-clause-fault : goal.push_message-returns-in-Err-clause-fault
push_message-returns-in-Err-clause-fault t c =
    payload_breaks c.args.schema.now c.args.groups c.args.messages c.args.view c.args.at c.args.end (rec_of c.args.rec.now)
    (fields_of c.args.schema.now c.args.type_at) c.in-Err.fault c.requires.left
    (added_reads c.args.type_at c.args.view.cardinality c.args.view.kind c.requires.kind c.requires.list)
    (added_inside c.args.schema.now c.args.type_at c.args.view.cardinality c.args.view.kind c.requires.kind c.requires.list) c.in-Err.ensures.fault

-- ---- map entries

pub put_entry-merge_payload-requires : goal.put_entry-merge_payload-requires
put_entry-merge_payload-requires t c = (
  omega (arith, c.decreases),
  (
    c.requires.proper,
    (
      c.requires.ends,
      λ deeper deep. start_ready true c.args.schema.now deeper (entry_fields c.args.key c.args.view.kind) (content_of c.new-entry.result) c.new-entry.ensures,
    ),
  ),
)

pub put_entry-add_pair-requires : goal.put_entry-add_pair-requires
put_entry-add_pair-requires t c = c.requires.ordered c.args.key c.requires.map

pub put_entry-returns-in-Ok : goal.put_entry-returns-in-Ok
put_entry-returns-in-Ok t c =
    let means = c.in-Ok.ensures.found in
    record {
      found = on_ok_more c.add_pair.result (λ added. pair_found c.args.schema.now c.args.messages means.0 c.args.key c.args.view
          (option_map val_of c.args.held.now) (rec_of c.args.rec.now) means.1
          (content_of c.merge_payload.new.into) c.requires.read c.requires.map means.2 means.3
          (ap (λ (x : Content). onto_with c.args.schema.now means.0 means.0 (entry_fields c.args.key c.args.view.kind) x means.1) (sym c.new-entry.ensures)
          ∙ means.4)
          ∙ ap (λ (x : Option Val). Some x) (sym added)) c.add_pair.ensures.added;
      fault = err_more c.add_pair.result (λ e none. inl none) c.add_pair.ensures.fault;
    }

pub put_entry-returns-in-Err-clause-fault : goal.put_entry-returns-in-Err-clause-fault
put_entry-returns-in-Err-clause-fault t c =
    payload_breaks c.args.schema.now c.args.groups c.args.messages c.args.view c.args.at c.args.end (rec_of c.args.rec.now)
    (entry_fields c.args.key c.args.view.kind) c.in-Err.fault c.requires.left
    (pair_reads c.args.key c.args.view.cardinality c.args.view.kind c.requires.map)
    (pair_inside c.args.schema.now c.args.key c.args.view.cardinality c.args.view.kind c.requires.map) c.in-Err.ensures.fault

-- ---- one record

pub merge_rec-returns-in_default : goal.merge_rec-returns-in_default
merge_rec-returns-in_default t c = record {
  found = on_ok_more c.keep.result (λ kept. unread_merges c.args.stable c.args.schema.now c.args.messages c.args.owner (content_of c.args.into.now)
      (content_of c.keep.new.into) (rec_of c.args.rec) c.requires.proper
      (rw c.number.ensures at c.in_default.ensures) c.requires.ready kept) c.keep.ensures.kept;
  fault = err_more c.keep.result (λ e none. inl none) c.keep.ensures.fault;
}

pub merge_rec-returns-then-is_float : goal.merge_rec-returns-then-is_float
merge_rec-returns-then-is_float t c = record {
  found = on_ok_more c.keep-then-is_float.result (λ kept. float_merges c.args.stable c.args.schema.now c.args.messages c.args.owner
      (content_of c.args.into.now) (content_of c.keep-then-is_float.new.into)
      (rec_of c.args.rec) c.in-Some.view c.requires.proper
      (rw c.number.ensures at c.in-Some.ensures) (sym c.is_float.ensures ∙ c.if-is_float.true) c.requires.ready kept) c.keep-then-is_float.ensures.kept;
  fault = err_more c.keep-then-is_float.result (λ e none. inl none) c.keep-then-is_float.ensures.fault;
}

pub merge_rec-merge_value-requires : goal.merge_rec-merge_value-requires
merge_rec-merge_value-requires t c =
    let plain : is_float c.in-Some.view.kind ≡ false = sym c.is_float.ensures ∙ c.if-is_float.false in (
      omega (arith, c.decreases),
      (
        c.requires.proper,
        (
          c.requires.left,
          (
            plain,
            (
              c.requires.ends,
              (
                has_stable c.args.stable c.args.schema.now c.args.messages c.args.owner (content_of c.args.into.now) (rec_of c.args.rec) c.in-Some.view
                    (option_map val_of c.take_value-held.result) c.requires.proper
                    (rw c.number.ensures at c.in-Some.ensures) plain c.requires.ready c.take_value-held.ensures.value,
                has_ordered c.args.stable c.args.schema.now c.args.messages c.args.owner (content_of c.args.into.now) (rec_of c.args.rec) c.in-Some.view
                    (option_map val_of c.take_value-held.result) c.requires.proper
                    (rw c.number.ensures at c.in-Some.ensures) plain c.requires.ready c.take_value-held.ensures.value,
              ),
            ),
          ),
        ),
      ),
    )

pub merge_rec-returns-in-Ok : goal.merge_rec-returns-in-Ok
merge_rec-returns-in-Ok t c =
    let plain : is_float c.in-Some.view.kind ≡ false = sym c.is_float.ensures ∙ c.if-is_float.false in
    record {
      found = on_ok_more c.put_value.result (λ put. field_merges c.args.stable c.args.schema.now c.args.messages c.args.owner
          (content_of c.args.into.now) (content_of c.take_value-held.new.into)
          (content_of c.put_value.new.into) (rec_of c.args.rec) c.in-Some.view
          (option_map val_of c.take_value-held.result) (option_map val_of c.merge_value.new.held) c.requires.proper
          (rw c.number.ensures at c.in-Some.ensures) plain c.requires.ready c.take_value-held.ensures.value c.take_value-held.ensures.rest
          c.in-Ok.ensures.found put) c.put_value.ensures.put;
      fault = err_more c.put_value.result (λ e none. inl none) c.put_value.ensures.fault;
    }

pub merge_rec-returns-clause-fault : goal.merge_rec-returns-clause-fault
merge_rec-returns-clause-fault t c =
    let plain : is_float c.in-Some.view.kind ≡ false = sym c.is_float.ensures ∙ c.if-is_float.false in
    rec_told c.args.schema.now c.args.groups c.args.messages c.args.owner c.args.at c.args.end
    (rec_of c.args.rec) c.in-Some.view c.in-Err.fault c.requires.proper
    (rw c.number.ensures at c.in-Some.ensures) plain c.in-Err.ensures.fault

-- ---- the record at the front

pub merge_next-returns-then-not-takes_key-clause-fault : goal.merge_next-returns-then-not-takes_key-clause-fault
merge_next-returns-then-not-takes_key-clause-fault t c =
    let wrong : takes_key (fields_at c.args.schema.now c.args.owner) c.front_key.result ≡ false = search rules in
    told_key c.args.schema.now c.args.groups c.args.messages
    (fields_at c.args.schema.now c.args.owner) c.args.bytes.now c.front_key.result _ c.requires.proper c.requires.left
    (fields_are c.args.schema.now c.args.owner) c.front_key.ensures wrong

pub merge_next-returns-in-Err-clause-fault : goal.merge_next-returns-in-Err-clause-fault
merge_next-returns-in-Err-clause-fault t c =
    let right : takes_key (fields_at c.args.schema.now c.args.owner) c.front_key.result ≡ true = search rules in
    told_front c.args.schema.now c.args.groups c.args.messages
    (fields_at c.args.schema.now c.args.owner) c.args.bytes.now c.front_key.result _ c.in-Err.fault c.requires.proper c.requires.left
    (fields_are c.args.schema.now c.args.owner) c.front_key.ensures right c.in-Err.ensures.fault

-- ---- the loop

pub merge_bytes-loop-rest-init : goal.merge_bytes-loop-rest-init
merge_bytes-loop-rest-init t c =
    gone_none c.args.stable c.args.schema.now c.args.groups c.args.messages (fields_at c.args.schema.now c.args.owner)
    (content_of c.args.into.now) c.args.bytes.now c.requires.proper
    (fields_are c.args.schema.now c.args.owner) c.requires.ready

pub merge_bytes-loop-rest-preserved : goal.merge_bytes-loop-rest-preserved
merge_bytes-loop-rest-preserved t c =
    gone_more c.args.stable c.args.schema.now c.args.groups c.args.messages (fields_at c.args.schema.now c.args.owner) (content_of c.args.into.now)
    (content_of c.loop-rest.into) (content_of c.merge_next.new.into)
    c.args.bytes.now c.loop-rest.rest.now c.in-Ok.after.now c.requires.proper
    (fields_are c.args.schema.now c.args.owner) c.loop-rest.invariant c.in-Ok.ensures.found

pub merge_bytes-returns-in-Err-clause-fault : goal.merge_bytes-returns-in-Err-clause-fault
merge_bytes-returns-in-Err-clause-fault t c =
    told_behind c.args.stable c.args.schema.now c.args.groups c.args.messages (fields_at c.args.schema.now c.args.owner) (content_of c.args.into.now)
    (content_of c.loop-rest.into) c.args.bytes.now c.loop-rest.rest.now
    c.args.end c.in-Err.fault c.requires.proper c.requires.left
    (fields_are c.args.schema.now c.args.owner) c.requires.ends c.loop-rest.invariant c.in-Err.ensures.fault

pub merge_bytes-returns-clause-found : goal.merge_bytes-returns-clause-found
merge_bytes-returns-clause-found t c =
    gone_all c.args.stable c.args.schema.now c.args.groups c.args.messages (fields_at c.args.schema.now c.args.owner) (content_of c.args.into.now)
    (content_of c.loop-rest.into) c.args.bytes.now c.loop-rest.rest.now
    (nil_of c.loop-rest.rest.now (omega arith)) c.loop-rest.invariant

pub merge_next-returns-in-Err-merge_rec-clause-fault : goal.merge_next-returns-in-Err-merge_rec-clause-fault
merge_next-returns-in-Err-merge_rec-clause-fault t c =
    let front = rw c.in-Ok-Some.field-0-is at c.in-Ok-Some.ensures.found in
    told_rec c.args.schema.now c.args.groups c.args.messages (fields_at c.args.schema.now c.args.owner) c.args.bytes.now front.0 c.in-Ok-Some.rest.now
    (rec_of c.in-Ok-Some.rec) c.args.end
    c.in-Err-merge_rec.fault c.requires.proper c.requires.left
    (fields_are c.args.schema.now c.args.owner) front.1 front.2 c.requires.ends c.in-Err-merge_rec.ensures.fault

-- ---- fields that are no messages

pub merge_value-returns-in_default : goal.merge_value-returns-in_default
merge_value-returns-in_default t c =
    let plain : is_plain c.args.view.kind ≡ true = search rules in
    record {
      found = on_ok_more c.set_value.result (λ e. single_found c.args.schema.now (onto_at c.args.schema.now c.args.messages) c.args.view
          (option_map val_of c.args.held.now) (option_map val_of c.set_value.new.held)
          (rec_of c.args.rec.now) plain c.requires.read c.in-Singular.is e) c.set_value.ensures.found;
      fault = err_more c.set_value.result (λ e h. alone_breaks c.args.schema.now c.args.groups c.args.messages c.args.view c.args.at c.args.end
          (rec_of c.args.rec.now) e c.in-Singular.is h)
          c.set_value.ensures.fault;
    }

pub merge_value-returns-in_default-kind : goal.merge_value-returns-in_default-kind
merge_value-returns-in_default-kind t c =
    let plain : is_plain c.args.view.kind ≡ true = search rules in
    record {
      found = on_ok_more c.add_values.result (λ e. list_found c.args.schema.now (onto_at c.args.schema.now c.args.messages) c.args.view
          (option_map val_of c.args.held.now) (option_map val_of c.add_values.new.held)
          (rec_of c.args.rec.now) plain c.requires.read c.in-Repeated.is e) c.add_values.ensures.found;
      fault = err_more c.add_values.result (λ e h. spread_breaks c.args.schema.now c.args.groups c.args.messages c.args.view c.args.at c.args.end
          (rec_of c.args.rec.now) e c.in-Repeated.is h)
          c.add_values.ensures.fault;
    }
