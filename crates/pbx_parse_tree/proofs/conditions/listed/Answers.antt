use Rattle.std.proofs.Common.{◌≡◌, ◌∷◌, ◌++◌, ◌∙◌, [], List, map, take, ap}
use Rattle.std.proofs.lemmas.List.{take_all}
use Rattle.pbx_parse_token.specs.declared.token.Span.{Span}
use Rattle.pbx_parse_tree.specs.Tree.{all_of}
use Rattle.pbx_parse_tree.specs.View.{setting_of, separated_of}
use Rattle.pbx_parse_tree.specs.declared.tree.Setting.{Setting}
use Rattle.pbx_parse_tree.proofs.Seen.{next_seen}
use Rattle.pbx_parse_tree.proofs.conditions.listed.Goals as goal

pub returns : goal.returns
returns c =
    let set = c.as_ref-set.result.now in
    let first : c.push.new.self.items ≡ set.first ∷ [] = c.in_ok-push.ensures.items ∙ ap (λ (xs : List Setting). xs ++ set.first ∷ []) c.new-all.ensures.items in
    let rest : take c.each.setting-index c.deref-setting-items.result.now ≡ set.more.items = take_all c.each.setting-index c.deref-setting-items.result.now c.each-test.false ∙ c.deref-setting-items.ensures.value in
    let items : c.each.all.items ≡ set.first ∷ map (λ x. x.1) set.more.items =
    c.each.invariant ∙ ap (λ (xs : List Setting). xs ++ map (λ x. x.1) (take c.each.setting-index c.deref-setting-items.result.now)) first ∙ ap (λ (xs : List (Span × Setting)). set.first ∷ map (λ x. x.1) xs) rest in
    let all : map setting_of c.each.all.items ≡ all_of (separated_of setting_of set) = ap (map setting_of) items ∙ ap (λ ys. setting_of set.first ∷ ys) (next_seen setting_of set.more.items) in
    rw c.in-Some.is (all ∙ ap (λ s. all_of (separated_of setting_of s)) c.as_ref-set.ensures)
