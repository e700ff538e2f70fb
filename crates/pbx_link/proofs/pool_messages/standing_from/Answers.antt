use Rattle.std.proofs.Common.{◌≡◌, ◌∙◌, ℕ, ◌+◌, ◌-◌, length, ap, sym, arith}
use Rattle.pbx_desc_records.specs.declared.file.FileDescriptorProto.{FileDescriptorProto}
use Rattle.pbx_link_definitions.specs.Definitions.{messages}
use Rattle.pbx_link.specs.Tables.{no_message, messages_from}
use Rattle.pbx_link.proofs.Walk.{file_passed}
use Rattle.pbx_link.proofs.pool_messages.standing_from.Goals as goal

pub loop-place-preserved : goal.loop-place-preserved
loop-place-preserved c =
    let tables = c.args.tables.now in
    let f = c.index-tables-place.result in
    let count : c.message_count-count.result ≡ length (messages f) =
    c.message_count-count.ensures ∙ ap (λ (g : FileDescriptorProto). length (messages g)) c.as_ref.ensures in
    c.loop-place.invariant
    ∙ file_passed no_message messages tables c.loop-place.place c.loop-place.rest f c.loop-place-test.true c.index-tables-place.is
    (omega (arith, count, c.if-rest-count.false))
    ∙ ap (λ (n : ℕ). messages_from tables (c.loop-place.place + 1) (c.loop-place.rest - n)) (sym count)
