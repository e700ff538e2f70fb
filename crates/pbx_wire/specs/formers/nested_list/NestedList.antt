-- `Rec` contains itself through `NestedList`: a group holds a `NestedList<Rec>`. What is proved of such a type goes from a list to its items, so the logic
-- is told here which items a list contains, and that lists are alike where their items are.
-- The check looks for the names that begin with `the_`; the others are this file's own.
use Rattle.std.specs.Prelude.{◌≡◌, ℕ, List, [], ◌∷◌, map}
use Rattle.std.specs.Int.{w32}
use Rattle.std.specs.Vec.Recursive as vec_lemmas
use Rattle.pbx_wire.specs.formers.list.List as list
use Rattle.pbx_wire.specs.contracts.nested_list.NestedList as list_type
use Rattle.pbx_wire.specs.contracts.nested_list.NestedList.TheInside as struct_type
use Rattle.pbx_wire.specs.declared.nested_list.NestedList.TheInside as struct
use Rattle.pbx_wire.specs.declared.nested_list.NestedList.TheView as shown
use denote.Plain.{UInt}
use denote.RattleType.{RattleType}
use denote.HoleLaws.{Alike}
use denote.HolePlaces as places
use denote.Hole.Carrier as parts
use denote.Param.Weighed as depth
use denote.Model.Placed as model
use mathlib.Core.Former as former
use mathlib.Core.Path.{refl}

-- Contracts see a `NestedList<T>` as the list of its items. So it contains these, in their order, and beside them nothing but their number.
abbrev pub the_former : former.Former {0} → former.Former {0}
the_former = former.list

abbrev pub the_items : (T : Type 0) → List T → List T
the_items T items = items

pub the_items_listed : (T : Type 0) (items : List T) → parts.listed _ (former.children (the_former former.this) T items) ≡ the_items T items
the_items_listed = parts.list-listed

-- Recursion into the items ends: a list measures as much as its largest item. And the empty list needs no item, so even a type that holds a list in each
-- case has a value.
abbrev pub the_weighed : {inner : former.Former {0}} → depth.Weighed inner → depth.Weighed (the_former inner)
the_weighed = depth.w_list

pub the_empty : List ⊥
the_empty = []

-- In memory it is a struct, which contains the items of its list, and beside them a number.
abbrev contained : former.Former {0}
contained = former.via (former.pair (list.the_former former.this) (former.const ℕ)) struct.Inside (λ T s. (s.items, s.levels))
    (λ T v. record { items = v.0; levels = v.1 }) (λ T s. refl) (λ T v. refl)

-- Let `h` take each value of `T` to a value of `U` that is laid out, owned and lent in the same way. Then `map h` does so with lists:
-- it holds of the list inside, hence of the struct, hence of what the view shows, which is these items, of whatever type, in the same order.
module _ (T U : RattleType) (h : T.Denot → U.Denot) where
  same_struct : Alike T U h → Alike (struct_type.the_row T) (struct_type.the_row U) (contained.map T.Denot U.Denot h)
  same_struct same = places.struct_places (struct_type.the_type T) (struct_type.the_type U) (map h, (λ n. n, tt)) _ (λ s. refl) refl
      (places.laid _ _ _ (list.the_places T U h same), (places.stays (UInt w32), tt))

  pub the_places : Alike T U h → Alike (list_type.the_row T) (list_type.the_row U) (map h)
  the_places same = model.view_places contained (the_former former.this) shown.view (λ X Y k s. refl) (λ X s. refl) T.Denot U.Denot h _ _ _ _
      (λ s p q. refl) (λ s p q. refl) (λ s _. tt) (λ s _. tt) _ _ (same_struct same)

  -- The same of a code, the tree of numbers as which ghost state keeps a value.
  pub the_codes_placed : places.Recodes T U h → places.Recodes (list_type.the_row T) (list_type.the_row U) (map h)
  the_codes_placed = vec_lemmas.codes_placed T.coded.code U.coded.code h
