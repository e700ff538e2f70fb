use Rattle.std.proofs.Common.{◌≡◌, ◌∙◌, ◌==◌, ℕ, List, [], ◌∷◌, cond, lit<, refl, ap, rules, tests}
use Rattle.std.specs.List.{list_all, slice_split, onto_first}
use Rattle.std.proofs.lemmas.Iterator.Search.{all_from_yields_List}
use Rattle.std.proofs.lemmas.Iterator.Splits.{YieldsList-from_str_split}
use Rattle.pbx_link_definitions.specs.Names.{is_ident, name_parts, with_front}
use Rattle.pbx_link_rules_record.proofs.file_rules.is_full_ident.Goals as goal

front_is : (b : ℕ) (ps : List (List ℕ)) → onto_first b ps ≡ with_front b ps
front_is b [] = refl
front_is b (p ∷ ps) = refl

parts_are : (name : List ℕ) → slice_split (λ b. b == 46) name ≡ name_parts name
unfolding name_parts
parts_are [] = refl
parts_are (b ∷ bs) =
    ap (λ (ps : List (List ℕ)). cond (b == 46) ([] ∷ ps) (onto_first b ps)) (parts_are bs) ∙ ap (λ (qs : List (List ℕ)). cond (b == 46) ([] ∷ name_parts bs) qs) (front_is b (name_parts bs))

pub returns : goal.returns
returns c =
    all_from_yields_List is_ident _ _ _ c.all.ensures.ran (YieldsList-from_str_split 46 c.args.text.now (lit< tt) c.split.ensures.text c.split.ensures.has_more c.split.ensures.pattern) (λ x b q k. search (rules, tests))
    ∙ ap (list_all is_ident) (parts_are c.args.text.now)
