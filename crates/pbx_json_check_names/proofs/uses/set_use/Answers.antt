use Rattle.std.proofs.Common.{◌≡◌, string_bytes}
use Rattle.std.proofs.lemmas.Map.Text.{btree_map_updates_text}
use Rattle.std.proofs.lemmas.Result.{IfOk-at_ok}
use Rattle.pbx_json_check_names.proofs.uses.set_use.Goals as goal

pub returns : goal.returns
returns c =
    let is_name = IfOk-at_ok (λ s. string_bytes s ≡ c.args.key.now) c.in_ok-owned.was c.from_str.ensures.ok in
    let sets = btree_map_updates_text (string_bytes c.in_ok-owned.owned) c.args.uses.now c.insert.new.self _ c.in_ok-insert.ensures.updates in
    rw is_name at sets
