use Rattle.std.proofs.Common.{◌∙◌, ℕ, List, ap, subst, refl, Option, Some, None, cond, if◌then◌else◌}
use Rattle.std.specs.BTreeMap.{get_by_text}
use Rattle.std.specs.Option.{IsSome}
use Rattle.std.specs.Ordering.{nat_cmp, is_eq}
use Rattle.std.proofs.lemmas.Map.Text.{btree_map_updates_text}
use Rattle.pbx_link_names.specs.Packages.{node_in, child_of, is_edge}
use Rattle.pbx_link_names.proofs.Added.{set_one, none_one}
use Rattle.pbx_link_names.proofs.package_names.PackageNames.forget.Goals as goal

pub returns-in-Some : goal.returns-in-Some
unfolding child_of
returns-in-Some c = (
  refl,
  λ n p.
      let nodes = c.args.self.now.nodes in
      let after = c.get_mut.follows.lender c.remove.new.self in
      let sets = btree_map_updates_text c.first_part-part.result.now nodes after (Some c.remove.new.self)
      ((c.get_mut.follows.holds c.remove.new.self).3 (subst IsSome c.in-Some.ensures.value refl)) in
      set_one (get_by_text nodes) (get_by_text after) c.args.missing.node c.first_part-part.result.now p n None c.remove.new.self
      (c.remove.ensures.updates.0 n ∙ ap (λ (o : Option ℕ). cond (is_eq (nat_cmp c.args.missing.node n)) None o) (ap (node_in n) c.in-Some.ensures.value)) sets
      ∙ ap (λ (part : List ℕ). if is_edge c.args.missing.node part n p then None else node_in n (get_by_text nodes p)) c.first_part-part.ensures,
)

pub returns-in_default : goal.returns-in_default
unfolding child_of
returns-in_default c = (
  refl,
  λ n p.
      let nodes = c.args.self.now.nodes in
      ap (λ m. node_in n (get_by_text m p)) c.get_mut.follows.holds-at-none
      ∙ none_one (get_by_text nodes) c.args.missing.node c.first_part-part.result.now p n c.in_default.ensures.value
      ∙ ap (λ (part : List ℕ). if is_edge c.args.missing.node part n p then None else node_in n (get_by_text nodes p)) c.first_part-part.ensures,
)
