use Rattle.std.proofs.Common.{Option, unwrap_or, ◌≡◌, ◌∙◌, ◌++◌, ◌∷◌, [], ℕ, Some, sym, ap, subst, string_bytes}
use Rattle.std.proofs.lemmas.Map.Text.{btree_map_updates_str}
use Rattle.pbx_parse_translation.specs.Synthetic.{name_with, fewest_x}
use Rattle.pbx_parse_translation.specs.Scope.{Holds, AreTaken, first_x}
use Rattle.pbx_parse_translation.proofs.Free.{begins_after}
use Rattle.pbx_parse_translation.proofs.synthetic.take_name.Goals as goal

pub returns : goal.returns
returns c = λ taken h begun.
    let field = c.args.field.now in
    let old = c.args.x_counts.now in
    let first : c.unwrap_or-first.result ≡ first_x old field = c.unwrap_or-first.ensures ∙ ap (λ (o : Option ℕ). unwrap_or o 0) (c.copied.ensures ∙ c.get.ensures.value) in
    let x_count : c.in_ok-x_count.x_count ≡ fewest_x taken field = c.in_ok-x_count.ensures taken h (subst (λ n. AreTaken taken field n) (sym first) (begun field)) in
    let same : c.as_str.result.now ≡ string_bytes c.in_ok-name.name = c.as_str.ensures.value in (
      c.in_ok-name.ensures ∙ ap (λ n. name_with n field) x_count,
      subst (λ t. Holds c.add.new.self (taken ++ t ∷ [])) same (c.in_ok-add.ensures taken h),
      begins_after old c.insert.new.self taken field (string_bytes c.in_ok-name.name) c.in_ok-x_count.x_count (btree_map_updates_str field old c.insert.new.self (Some c.in_ok-x_count.x_count) c.in_ok-insert.ensures.updates) x_count begun,
    )
