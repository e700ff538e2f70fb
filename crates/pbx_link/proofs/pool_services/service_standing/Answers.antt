use Rattle.std.proofs.Common.{◌≡◌, ◌∙◌, ℕ, ◌+◌, ◌-◌, length, ap, sym, arith}
use Rattle.pbx_desc_records.specs.declared.file.FileDescriptorProto.{FileDescriptorProto}
use Rattle.pbx_link_definitions.specs.Definitions.{services}
use Rattle.pbx_link.specs.Tables.{no_service, services_from}
use Rattle.pbx_link.proofs.Walk.{file_passed}
use Rattle.pbx_link.proofs.pool_services.service_standing.Goals as goal

pub loop-place-preserved : goal.loop-place-preserved
loop-place-preserved c =
    let tables = c.args.tables.now in
    let f = c.index-tables-place.result in
    let count : c.service_count-count.result ≡ length (services f) =
    c.service_count-count.ensures ∙ ap (λ (g : FileDescriptorProto). length (services g)) c.as_ref.ensures in
    c.loop-place.invariant
    ∙ file_passed no_service services tables c.loop-place.place c.loop-place.rest f c.loop-place-test.true c.index-tables-place.is
    (omega (arith, count, c.if-rest-count.false))
    ∙ ap (λ (n : ℕ). services_from tables (c.loop-place.place + 1) (c.loop-place.rest - n)) (sym count)
