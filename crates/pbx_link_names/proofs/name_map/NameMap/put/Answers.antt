use Rattle.std.proofs.Common.{◌≡◌, ◌∙◌, ap, string_bytes}
use Rattle.std.specs.BTreeMap.{is_at, get_by_text}
use Rattle.std.specs.Map.{lookup}
use Rattle.std.proofs.lemmas.Map.Text.{btree_map_updates_text, text_cmp}
use Rattle.std.proofs.lemmas.Result.{IfOk-at_ok}
use Rattle.pbx_link_names.specs.Names.{under}
use Rattle.pbx_link_names.proofs.Values.{on_any_err}
use Rattle.pbx_link_names.proofs.name_map.NameMap.put.Goals as goal

pub returns-in_err-insert-clause-err : goal.returns-in_err-insert-clause-err
unfolding under
returns-in_err-insert-clause-err g c = on_any_err c.from_residual-in_err-insert.result (λ q. ap (lookup (is_at (text_cmp q))) c.in_err-insert.ensures.err)

pub returns-clause-put : goal.returns-clause-put
unfolding under
returns-clause-put g c =
    let is_name = IfOk-at_ok (λ s. string_bytes s ≡ c.args.name.now) c.in_ok-key.was c.from_str.ensures.ok in
    let sets = btree_map_updates_text (string_bytes c.in_ok-key.key) c.args.self.now.values c.insert.new.self _ c.in_ok-insert.ensures.updates in
    rw is_name at sets

pub returns-clause-old : goal.returns-clause-old
unfolding under
returns-clause-old g c =
    let is_name = IfOk-at_ok (λ s. string_bytes s ≡ c.args.name.now) c.in_ok-key.was c.from_str.ensures.ok in
    c.in_ok-insert.ensures.old ∙ ap (get_by_text c.args.self.now.values) is_name
