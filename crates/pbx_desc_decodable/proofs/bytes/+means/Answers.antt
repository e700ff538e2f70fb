use Rattle.std.proofs.Common.{inl, inr, ◌≡◌, ◌-◌, Bool, List, ℕ, true, false, Some, refl, sym, ap, ◌∙◌, length, arith, rules}
use Rattle.std.specs.Option.{is_some}
use Rattle.pbx_wire.specs.View.{rec_of}
use Rattle.pbx_desc_decodable.specs.Fields.{fields_at}
use Rattle.pbx_desc_decodable.proofs.Reading.{no_level, level_less, default_told, unread, unread_float, read_told, on_ok, broken, front_nothing, gone_none, gone_more, gone_stops, gone_all, nothing_left}
use Rattle.pbx_desc_decodable.proofs.bytes.+means.Goals as goal

pub payload_means-returns-then-messages-eq0 : goal.payload_means-returns-then-messages-eq0
payload_means-returns-then-messages-eq0 t c =
    no_level c.args.schema.now c.args.messages (fields_at c.args.schema.now c.args.owner) c.args.bytes.now c.if-messages-eq0.true

pub payload_means-returns : goal.payload_means-returns
payload_means-returns t c =
    on_ok c.bytes_mean.result (λ b told. told ∙ ap is_some (level_less c.args.schema.now c.args.messages (fields_at c.args.schema.now c.args.owner)
    c.args.bytes.now c.if-messages-eq0.false)) c.bytes_mean.ensures

pub field_means-returns-in_default-kind : goal.field_means-returns-in_default-kind
field_means-returns-in_default-kind t c =
    default_told c.args.schema.now c.args.messages c.args.view.cardinality c.args.view.kind (rec_of c.args.rec.now) c.in-Some.bytes.now c.are_numbers.result
    c.in_default-cardinality.not-Map c.in_default-kind.not-String c.in_default-kind.not-Bytes c.in_default-kind.not-Message
    (search rules) (sym c.in-Some.ensures) c.are_numbers.ensures

pub rec_means-returns-in_default : goal.rec_means-returns-in_default
rec_means-returns-in_default t c =
    unread c.args.schema.now c.args.messages c.args.owner (rec_of c.args.rec.now) c.requires.proper (rw c.number.ensures at c.in_default.ensures)

pub rec_means-returns-then-is_float : goal.rec_means-returns-then-is_float
rec_means-returns-then-is_float t c =
    unread_float c.args.schema.now c.args.messages c.args.owner (rec_of c.args.rec.now) c.in-Some.view c.requires.proper
    (rw c.number.ensures at c.in-Some.ensures) (sym c.is_float.ensures ∙ c.if-is_float.true)

pub rec_means-returns : goal.rec_means-returns
rec_means-returns t c =
    on_ok c.field_means.result (λ b told. read_told c.args.schema.now c.args.messages c.args.owner (rec_of c.args.rec.now) c.in-Some.view b c.requires.proper
    (rw c.number.ensures at c.in-Some.ensures) (sym c.is_float.ensures ∙ c.if-is_float.false) told) c.field_means.ensures

pub front_means-returns-in-Ok-Some : goal.front_means-returns-in-Ok-Some
front_means-returns-in-Ok-Some t c =
    let front = rw c.in-Ok-Some.field-0-is at c.in-Ok-Some.ensures.found in
    front_nothing c.args.schema.now c.args.groups c.args.messages (fields_at c.args.schema.now c.args.owner) c.args.bytes.now front.0 c.in-Ok-Some.rest.now
    (rec_of c.in-Ok-Some.rec) front.1 front.2 (sym c.in_ok-rec_means-in-Ok-Some.ensures ∙ c.if-branch.false)

pub front_means-returns : goal.front_means-returns
front_means-returns t c = elim c.in-Err.ensures.fault [
  | inl e ↦ absurd (c.in_default.not-NoMemory e)
  | inr h ↦ broken c.args.schema.now c.args.groups c.args.messages c.args.owner c.args.bytes.now 0 c.in-Err.fault c.requires.proper c.requires.left h
]

pub bytes_mean-loop-rest-init : goal.bytes_mean-loop-rest-init
bytes_mean-loop-rest-init t c = gone_none c.args.schema.now c.args.groups c.args.messages (fields_at c.args.schema.now c.args.owner) c.args.bytes.now

pub bytes_mean-loop-rest-preserved : goal.bytes_mean-loop-rest-preserved
bytes_mean-loop-rest-preserved t c =
    gone_more c.args.schema.now c.args.groups c.args.messages (fields_at c.args.schema.now c.args.owner) c.args.bytes.now c.loop-rest.rest.now
    c.in-Some.after.now c.loop-rest.invariant (rw c.in-Some.is at c.in_ok-after.ensures)

pub bytes_mean-returns-in-None : goal.bytes_mean-returns-in-None
bytes_mean-returns-in-None t c =
    gone_stops c.args.schema.now c.args.groups c.args.messages (fields_at c.args.schema.now c.args.owner) c.args.bytes.now c.loop-rest.rest.now
    c.loop-rest.invariant (rw c.in-None.is at c.in_ok-after.ensures)

pub bytes_mean-returns : goal.bytes_mean-returns
bytes_mean-returns t c =
    gone_all c.args.schema.now c.args.groups c.args.messages (fields_at c.args.schema.now c.args.owner) c.args.bytes.now c.loop-rest.rest.now
    (nothing_left c.loop-rest.rest.now (omega arith)) c.loop-rest.invariant
