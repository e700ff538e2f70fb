-- `Held` contains itself through `NumberMap`: a message holds a `NumberMap<Held>`. So the logic is told here which values a map contains, and that maps
-- are alike where their numbers are equal and their values are alike.
-- The check looks for the names that begin with `the_`; the others are this file's own.
use Rattle.std.specs.Prelude.{◌≡◌, ℕ, List, [], ◌∷◌, map, true, nat_lt}
use Rattle.std.specs.Int.{w32}
use Rattle.std.specs.formers.vec.Vec as vec
use Rattle.std.specs.declared.alloc.Global.{Global}
use Rattle.std.specs.contracts.alloc.Global as global
use Rattle.std.specs.contracts.impls.GlobalAllocator.TheImpl as global_allocator
use Rattle.std.specs.contracts.vec.Vec as vec_type
use Rattle.std.specs.Coded.{coded_bool, coded×}
use Rattle.pbx_content_map.specs.Entries.{IsBelow, IsAscending}
use Rattle.pbx_content_map.specs.contracts.map.NumberMap as map_type
use Rattle.pbx_content_map.specs.contracts.map.NumberMap.TheInside as struct_type
use Rattle.pbx_content_map.specs.declared.map.NumberMap.TheInside as struct
use Rattle.pbx_content_map.specs.declared.map.NumberMap.TheView as shown
use denote.Plain.{UInt}
use denote.RattleType.{RattleType}
use denote.HoleLaws.{Alike}
use denote.HolePlaces as places
use denote.Hole.Carrier as parts
use denote.Param.Weighed as depth
use denote.Model.Placed as model
use denote.Struct.Tuple as tuple
use base.Stored as stored
use mathlib.Core.Former as former
use mathlib.Core.HLevel.{×_prop}
use mathlib.Core.Path.{refl, sym, ap}

-- Contracts see a `NumberMap<T>` as the list of its pairs. So it contains the values, in their order, and beside them the numbers.
abbrev pub the_former : former.Former {0} → former.Former {0}
the_former inner = former.list (former.pair (former.const ℕ) inner)

abbrev pub the_items : (T : Type 0) → List (ℕ × T) → List T
the_items T pairs = map (λ p. p.1) pairs

pub the_items_listed : (T : Type 0) (pairs : List (ℕ × T)) → parts.listed _ (former.children (the_former former.this) T pairs) ≡ the_items T pairs
the_items_listed T [] = refl
the_items_listed T (p ∷ ps) = ap (λ l. p.1 ∷ l) (the_items_listed T ps)

abbrev pub the_weighed : {inner : former.Former {0}} → depth.Weighed inner → depth.Weighed (the_former inner)
the_weighed w = depth.w_list (depth.w_pair (depth.w_const ℕ) w)

pub the_empty : List (ℕ × ⊥)
the_empty = []

-- the pair with h applied to its value
abbrev on_value : {T U : Type 0} → (T → U) → ℕ × T → ℕ × U
on_value h p = (p.0, h p.1)

-- In memory a map is a struct, which contains the pairs of its one field, a vector.
abbrev contained : former.Former {0}
contained = former.via (vec.the_former (former.pair (former.const ℕ) former.this) Global) struct.Inside (λ T s. s.entries) (λ T v. record { entries = v }) (λ T s. refl) (λ T v. refl)

-- The order of numbers says nothing of values.
below_mapped : {T U : Type 0} (h : T → U) (n : ℕ) (ps : List (ℕ × T)) → IsBelow n ps → IsBelow n (map (on_value h) ps)
below_mapped h n [] b = tt
below_mapped h n (p ∷ ps) b = b

below_back : {T U : Type 0} (h : T → U) (n : ℕ) (ps : List (ℕ × T)) → IsBelow n (map (on_value h) ps) → IsBelow n ps
below_back h n [] b = tt
below_back h n (p ∷ ps) b = b

order_mapped : {T U : Type 0} (h : T → U) (ps : List (ℕ × T)) → IsAscending ps → IsAscending (map (on_value h) ps)
order_mapped h [] o = tt
order_mapped h (p ∷ ps) o = (below_mapped h p.0 ps o.0, order_mapped h ps o.1)

order_back : {T U : Type 0} (h : T → U) (ps : List (ℕ × T)) → IsAscending (map (on_value h) ps) → IsAscending ps
order_back h [] o = tt
order_back h (p ∷ ps) o = (below_back h p.0 ps o.0, order_back h ps o.1)

below-prop : {T : Type 0} (n : ℕ) (ps : List (ℕ × T)) → IsProp (IsBelow n ps)
below-prop n [] = hlevel
below-prop n (p ∷ ps) = stored.Coded-set coded_bool (nat_lt n p.0) true

order-prop : {T : Type 0} (ps : List (ℕ × T)) → IsProp (IsAscending ps)
order-prop [] = hlevel
order-prop (p ∷ ps) = ×_prop (below-prop p.0 ps) (order-prop ps)

-- Let `h` take each value of `T` to a value of `U` that is laid out, owned and lent in the same way. Then the map of pairs does so with maps.
module _ (T U : RattleType) (h : T.Denot → U.Denot) where
  abbrev pair_row : RattleType → RattleType
  pair_row R = tuple.Tuple (UInt w32 ∷ R ∷ [])

  same_pair : Alike T U h → Alike (pair_row T) (pair_row U) (on_value h)
  same_pair same = places.struct_places (tuple.tuple_type (UInt w32 ∷ T ∷ [])) (tuple.tuple_type (UInt w32 ∷ U ∷ [])) (λ k. k, (h, tt)) _ (λ p. refl) refl
      (places.stays (UInt w32), (places.laid _ _ _ same, tt))

  same_vec : Alike T U h → Alike (vec_type.the_row (pair_row T) global.the_row global_allocator.ghosts) (vec_type.the_row (pair_row U) global.the_row global_allocator.ghosts) (vec.mapped (on_value h))
  same_vec same = vec.the_places global.the_row global_allocator.ghosts (pair_row T) (pair_row U) (on_value h) (same_pair same)

  same_struct : Alike T U h → Alike (struct_type.the_row T) (struct_type.the_row U) (contained.map T.Denot U.Denot h)
  same_struct same = places.struct_places (struct_type.the_type T) (struct_type.the_type U) (vec.mapped (on_value h), tt) _ (λ s. refl) refl (places.laid _ _ _ (same_vec same), tt)

  pub the_places : Alike T U h → Alike (map_type.the_row T) (map_type.the_row U) (map (on_value h))
  the_places same = model.view_places contained (the_former former.this) shown.view (λ X Y k s. refl) (λ X s. refl) T.Denot U.Denot h _ _ _ _
      (λ s. order-prop s.entries.items) (λ s. order-prop s.entries.items) (λ s o. order_mapped h s.entries.items o) (λ s o. order_back h s.entries.items o) _ _ (same_struct same)

  -- The same of a code, the tree of numbers as which ghost state keeps a value.
  pub the_codes_placed : places.Recodes T U h → places.Recodes (map_type.the_row T) (map_type.the_row U) (map (on_value h))
  the_codes_placed e ps = sym (stored.code_map (coded× (UInt w32).coded T.coded).code (coded× (UInt w32).coded U.coded).code (on_value h) (λ p i. stored.gcons ((UInt w32).coded.code p.0) (sym (e p.1) i)) ps)
