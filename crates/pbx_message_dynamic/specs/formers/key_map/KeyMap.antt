-- `Value` contains itself through `KeyMap`: a map holds a `KeyMap<Value>`. So the logic is told here which values a map contains, and that maps
-- are alike where their keys are equal and their values are alike.
-- The check looks for the names that begin with `the_`; the others are this file's own.
use Rattle.std.specs.Prelude.{◌≡◌, List, [], ◌∷◌, map, true}
use Rattle.std.specs.formers.vec.Vec as vec
use Rattle.std.specs.declared.alloc.Global.{Global}
use Rattle.std.specs.contracts.alloc.Global as global
use Rattle.std.specs.contracts.impls.GlobalAllocator.TheImpl as global_allocator
use Rattle.std.specs.contracts.vec.Vec as vec_type
use Rattle.std.specs.Coded.{coded_bool, coded×}
use Rattle.pbx_content_codec.specs.declared.key.MapKey.{MapKey}
use Rattle.pbx_content_codec.specs.contracts.key.MapKey as key_type
use Rattle.pbx_message_dynamic.specs.Keys.{is_before, IsBeforeAll, IsInKeyOrder}
use Rattle.pbx_message_dynamic.specs.contracts.key_map.KeyMap as map_type
use Rattle.pbx_message_dynamic.specs.contracts.key_map.KeyMap.TheInside as struct_type
use Rattle.pbx_message_dynamic.specs.declared.key_map.KeyMap.TheInside as struct
use Rattle.pbx_message_dynamic.specs.declared.key_map.KeyMap.TheView as shown
use denote.RattleType.{RattleType}
use denote.HoleLaws.{Alike}
use denote.HolePlaces as places
use denote.Hole.Carrier as parts
use denote.Param.Weighed as depth
use denote.Model.Placed as model
use denote.Struct.Tuple as tuple
use base.Stored as stored
use mathlib.Core.Former as former
use mathlib.Core.HLevel.{×_prop}
use mathlib.Core.Path.{refl, sym, ap}

-- Contracts see a `KeyMap<T>` as the list of its pairs. So it contains the values, in their order, and beside them the keys.
abbrev pub the_former : former.Former {0} → former.Former {0}
the_former inner = former.list (former.pair (former.const MapKey) inner)

abbrev pub the_items : (T : Type 0) → List (MapKey × T) → List T
the_items T pairs = map (λ p. p.1) pairs

pub the_items_listed : (T : Type 0) (pairs : List (MapKey × T)) → parts.listed _ (former.children (the_former former.this) T pairs) ≡ the_items T pairs
the_items_listed T [] = refl
the_items_listed T (p ∷ ps) = ap (λ l. p.1 ∷ l) (the_items_listed T ps)

abbrev pub the_weighed : {inner : former.Former {0}} → depth.Weighed inner → depth.Weighed (the_former inner)
the_weighed w = depth.w_list (depth.w_pair (depth.w_const MapKey) w)

pub the_empty : List (MapKey × ⊥)
the_empty = []

-- the pair with h applied to its value
abbrev on_value : {T U : Type 0} → (T → U) → MapKey × T → MapKey × U
on_value h p = (p.0, h p.1)

-- In memory a map is a struct, which contains the pairs of its one field, a vector.
abbrev contained : former.Former {0}
contained = former.via (vec.the_former (former.pair (former.const MapKey) former.this) Global) struct.Inside (λ T s. s.entries) (λ T v. record { entries = v }) (λ T s. refl) (λ T v. refl)

-- The order of keys says nothing of values.
before_mapped : {T U : Type 0} (h : T → U) (k : MapKey) (ps : List (MapKey × T)) → IsBeforeAll k ps → IsBeforeAll k (map (on_value h) ps)
before_mapped h k [] b = tt
before_mapped h k (p ∷ ps) b = b

before_back : {T U : Type 0} (h : T → U) (k : MapKey) (ps : List (MapKey × T)) → IsBeforeAll k (map (on_value h) ps) → IsBeforeAll k ps
before_back h k [] b = tt
before_back h k (p ∷ ps) b = b

order_mapped : {T U : Type 0} (h : T → U) (ps : List (MapKey × T)) → IsInKeyOrder ps → IsInKeyOrder (map (on_value h) ps)
order_mapped h [] o = tt
order_mapped h (p ∷ ps) o = (before_mapped h p.0 ps o.0, order_mapped h ps o.1)

order_back : {T U : Type 0} (h : T → U) (ps : List (MapKey × T)) → IsInKeyOrder (map (on_value h) ps) → IsInKeyOrder ps
order_back h [] o = tt
order_back h (p ∷ ps) o = (before_back h p.0 ps o.0, order_back h ps o.1)

before-prop : {T : Type 0} (k : MapKey) (ps : List (MapKey × T)) → IsProp (IsBeforeAll k ps)
before-prop k [] = hlevel
before-prop k (p ∷ ps) = stored.Coded-set coded_bool (is_before k p.0) true

order-prop : {T : Type 0} (ps : List (MapKey × T)) → IsProp (IsInKeyOrder ps)
order-prop [] = hlevel
order-prop (p ∷ ps) = ×_prop (before-prop p.0 ps) (order-prop ps)

-- Let `h` take each value of `T` to a value of `U` that is laid out, owned and lent in the same way. Then the map of pairs does so with maps.
module _ (T U : RattleType) (h : T.Denot → U.Denot) where
  abbrev pair_row : RattleType → RattleType
  pair_row R = tuple.Tuple (key_type.the_row ∷ R ∷ [])

  same_pair : Alike T U h → Alike (pair_row T) (pair_row U) (on_value h)
  same_pair same = places.struct_places (tuple.tuple_type (key_type.the_row ∷ T ∷ [])) (tuple.tuple_type (key_type.the_row ∷ U ∷ [])) (λ k. k, (h, tt)) _ (λ p. refl) refl
      (places.stays key_type.the_row, (places.laid _ _ _ same, tt))

  same_vec : Alike T U h → Alike (vec_type.the_row (pair_row T) global.the_row global_allocator.ghosts) (vec_type.the_row (pair_row U) global.the_row global_allocator.ghosts) (vec.mapped (on_value h))
  same_vec same = vec.the_places global.the_row global_allocator.ghosts (pair_row T) (pair_row U) (on_value h) (same_pair same)

  same_struct : Alike T U h → Alike (struct_type.the_row T) (struct_type.the_row U) (contained.map T.Denot U.Denot h)
  same_struct same = places.struct_places (struct_type.the_type T) (struct_type.the_type U) (vec.mapped (on_value h), tt) _ (λ s. refl) refl (places.laid _ _ _ (same_vec same), tt)

  pub the_places : Alike T U h → Alike (map_type.the_row T) (map_type.the_row U) (map (on_value h))
  the_places same = model.view_places contained (the_former former.this) shown.view (λ X Y k s. refl) (λ X s. refl) T.Denot U.Denot h _ _ _ _
      (λ s. order-prop s.entries.items) (λ s. order-prop s.entries.items) (λ s o. order_mapped h s.entries.items o) (λ s o. order_back h s.entries.items o) _ _ (same_struct same)

  -- The same of a code, the tree of numbers as which ghost state keeps a value.
  pub the_codes_placed : places.Recodes T U h → places.Recodes (map_type.the_row T) (map_type.the_row U) (map (on_value h))
  the_codes_placed e ps = sym (stored.code_map (coded× key_type.the_row.coded T.coded).code (coded× key_type.the_row.coded U.coded).code (on_value h) (λ p i. stored.gcons (key_type.the_row.coded.code p.0) (sym (e p.1) i)) ps)
