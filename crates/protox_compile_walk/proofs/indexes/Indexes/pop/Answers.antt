use Rattle.std.proofs.Common.{◌≡◌, ◌∙◌, ap, sym, cond, None, Some, length, ◌++◌, ◌∷◌, []}
use Rattle.std.specs.Str.{bytes_eq}
use Rattle.std.proofs.lemmas.Map.Text.{btree_map_updates_text}
use Rattle.protox_compile_walk.specs.Indexes.{index_under, first_index}
use Rattle.protox_compile_walk.proofs.Indexed.{without_last, without_later, is_at, is_not_at}
use Rattle.protox_compile_walk.proofs.indexes.Indexes.pop.Goals as goal

pub returns-then-eq : goal.returns-then-eq
unfolding index_under
returns-then-eq c names long indexed q =
    let is : c.get.result ≡ Some c.args.index = is_at c.get.result c.args.index c.if-eq.ensures in
    let found : first_index c.args.name.now (names ++ c.args.name.now ∷ []) ≡ Some (length names) = sym (indexed c.args.name.now) ∙ sym c.get.ensures ∙ is ∙ ap Some (sym long) in
    btree_map_updates_text c.args.name.now c.args.self.now.values c.remove.new.self None c.remove.ensures.updates q
    ∙ ap (cond (bytes_eq c.args.name.now q) None) (indexed q) ∙ without_last q c.args.name.now names found

pub returns-else-eq : goal.returns-else-eq
returns-else-eq c names long indexed q =
    indexed q ∙ without_later q c.args.name.now names (λ e. is_not_at c.get.result c.args.index c.if-eq.ensures (c.get.ensures ∙ indexed c.args.name.now ∙ e ∙ ap Some long))
