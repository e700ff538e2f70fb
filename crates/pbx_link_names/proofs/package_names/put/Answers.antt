use Rattle.std.proofs.Common.{◌≡◌, ◌∙◌, ℕ, ap, subst, refl, Option, Some, cond, string_bytes}
use Rattle.std.specs.BTreeMap.{get_by_text, is_at}
use Rattle.std.specs.Map.{lookup}
use Rattle.std.specs.Option.{IsSome}
use Rattle.std.specs.Ordering.{nat_cmp, is_eq}
use Rattle.std.proofs.lemmas.Map.Text.{btree_map_updates_text}
use Rattle.std.proofs.lemmas.Result.{IfOk-at_ok}
use Rattle.pbx_link_names.specs.Packages.{node_in}
use Rattle.pbx_link_names.proofs.Values.{on_any_err}
use Rattle.pbx_link_names.proofs.Added.{set_one, same_one}
use Rattle.pbx_link_names.proofs.package_names.put.Goals as goal

pub returns-in_err-insert-clause-unchanged : goal.returns-in_err-insert-clause-unchanged
returns-in_err-insert-clause-unchanged c = on_any_err c.from_residual.result (λ n p.
    let after = c.get_mut.follows.lender c.insert.new.self in
    let sets = btree_map_updates_text c.args.part.now c.args.nodes.now after (Some c.insert.new.self)
    ((c.get_mut.follows.holds c.insert.new.self).3 (subst IsSome c.in-Some.ensures.value refl)) in
    same_one (get_by_text c.args.nodes.now) (get_by_text after) c.args.part.now p n c.insert.new.self
    (ap (λ es. lookup (is_at (nat_cmp n)) es) c.in_err-insert.ensures.err ∙ ap (node_in n) c.in-Some.ensures.value) sets)

pub returns-in-Some-clause-put : goal.returns-in-Some-clause-put
returns-in-Some-clause-put c = λ n p.
    let after = c.get_mut.follows.lender c.insert.new.self in
    let sets = btree_map_updates_text c.args.part.now c.args.nodes.now after (Some c.insert.new.self)
    ((c.get_mut.follows.holds c.insert.new.self).3 (subst IsSome c.in-Some.ensures.value refl)) in
    set_one (get_by_text c.args.nodes.now) (get_by_text after) c.args.node c.args.part.now p n (Some c.args.child) c.insert.new.self
    (c.in_ok-insert.ensures.updates.0 n ∙ ap (λ (o : Option ℕ). cond (is_eq (nat_cmp c.args.node n)) (Some c.args.child) o) (ap (node_in n) c.in-Some.ensures.value)) sets

pub returns-clause-put : goal.returns-clause-put
returns-clause-put c = λ n p.
    let is_part = IfOk-at_ok (λ s. string_bytes s ≡ c.args.part.now) c.in_ok-key.was c.from_str.ensures.ok in
    let same = c.get_mut.follows.holds-at-none in
    let sets = btree_map_updates_text (string_bytes c.in_ok-key.key) c.get_mut.follows.lender-at-none c.insert-3.new.self _ c.in_ok-insert-3.ensures.updates in
    set_one (get_by_text c.args.nodes.now) (get_by_text c.insert-3.new.self) c.args.node c.args.part.now p n (Some c.args.child) c.insert-2.new.self
    (c.in_ok-insert-2.ensures.updates.0 n
    ∙ ap (λ (o : Option ℕ). cond (is_eq (nat_cmp c.args.node n)) (Some c.args.child) o) (ap (λ es. lookup (is_at (nat_cmp n)) es) c.new-below.ensures.empty ∙ ap (node_in n) c.in_default.ensures.value))
    (rw (is_part, same) at sets)
