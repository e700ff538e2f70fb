use Rattle.std.proofs.Common.{◌≡◌, rules}
use Rattle.pbx_json_walk.specs.Walk.{with_number, with_oneof}
use Rattle.pbx_content_codec.proofs.Keyed.{on_ok_more}
use Rattle.pbx_json_reading.proofs.Found.{state_more}
use Rattle.pbx_json_reading.proofs.state.ObjectState.put.Goals as goal

pub returns : goal.returns
returns c =
    let seen : c.add_number.new.numbers ≡ with_number c.args.field.now.number c.args.self.now.seen = search rules in
    let taken : c.add_oneof.new.taken ≡ with_oneof c.args.field.now.oneof c.args.self.now.taken = search rules in
    on_ok_more c.add.result
    (λ more. state_more c.args.self.now.seen c.args.self.now.taken c.args.self.now.values c.add.new.self c.args.field.now.number c.args.field.now.oneof c.args.held
    c.add_number.new.numbers c.add_oneof.new.taken seen taken more)
    c.add.ensures.ok
