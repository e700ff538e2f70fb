-- What a function gives of the items of a list, one item after the other.
use Rattle.std.proofs.Common.{◌≡◌, ℕ, ◌+◌, ◌<◌, List, [], ◌∷◌, ◌++◌, length, map, take, get_or, Option, Some, None, refl, sym, ap, ◌∙◌}
use Rattle.std.specs.List.{filter_map, cons_option}
use Rattle.std.proofs.lemmas.List.{map-append, take_more, append-nil}
use Rattle.std.proofs.lemmas.List.Elements.{filter_map-append}
use Rattle.pbx_parse_tree.specs.Tree.{end}
use Rattle.pbx_parse_tree.specs.Conditions.{body_settings, item_setting}
use Rattle.pbx_parse_tree.specs.View.{BodyItem, plain, nested, all_before, body_item_setting}

-- of the views
pub of_views : {A B C : Type 0} (f : B → Option C) (view : A → B) (xs : List A) → filter_map (λ x. f (view x)) xs ≡ filter_map f (map view xs)
of_views f view [] = refl
of_views f view (x ∷ xs) = ap (cons_option (f (view x))) (of_views f view xs)

-- the option statements of a body are those of its items
pub of_body_items : (ps : List BodyItem) → filter_map body_item_setting ps ≡ body_settings (all_before ps end)
unfolding body_settings
of_body_items [] = refl
of_body_items (plain i ∷ ps) = ap (cons_option (item_setting i)) (of_body_items ps)
of_body_items (nested h inner close ∷ ps) = of_body_items ps

module _ {X Y : Type 0} (f : X → Option Y) (xs : List X) (i : ℕ) (x : X) (below : i < length xs) (is : x ≡ get_or xs i x) where
  one_more : filter_map f (take (i + 1) xs) ≡ filter_map f (take i xs) ++ cons_option (f x) []
  one_more =
      ap (filter_map f) (take_more xs i x below)
      ∙ filter_map-append f (take i xs) (get_or xs i x ∷ [])
      ∙ ap (λ (y : X). filter_map f (take i xs) ++ cons_option (f y) []) (sym is)

  -- where it gives one
  pub some_more : {A : Type 0} (view : A → Y) (before after : List A) (a : A) → map view before ≡ filter_map f (take i xs) → after ≡ before ++ a ∷ [] → Some (view a) ≡ f x → map view after ≡ filter_map f (take (i + 1) xs)
  some_more view before after a e p q =
      ap (map view) p
      ∙ map-append view before (a ∷ [])
      ∙ ap (λ ys. ys ++ view a ∷ []) e
      ∙ ap (λ o. filter_map f (take i xs) ++ cons_option o []) q
      ∙ sym one_more

  -- where it gives none
  pub none_more : {A : Type 0} (view : A → Y) (before after : List A) → map view before ≡ filter_map f (take i xs) → after ≡ before → None ≡ f x → map view after ≡ filter_map f (take (i + 1) xs)
  none_more view before after e p q =
      ap (map view) p ∙ e ∙ sym (append-nil (filter_map f (take i xs))) ∙ ap (λ o. filter_map f (take i xs) ++ cons_option o []) q ∙ sym one_more
