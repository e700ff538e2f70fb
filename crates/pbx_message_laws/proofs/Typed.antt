-- Message types by the places that kinds name.
use Rattle.std.proofs.Common.{◌≡◌, ◌∙◌, ◌⊎◌, inl, inr, ℕ, zero, suc, ◌+◌, ◌<◌, ◌≤◌, ◌==◌, cond, if◌then◌else◌, get_or, length, List, [], ◌∷◌, map}
use Rattle.std.proofs.Common.{Bool, true, false, Option, Some, None, refl, ap, sym, subst, arith}
use Rattle.std.specs.Prelude.{ℤ, pos, negsuc, Contains, is_some, find, unwrap_or, option_and_then, slice_get}
use Rattle.std.specs.List.{flat_map, enumerate_from}
use Rattle.std.specs.Str.{bytes_eq}
use Rattle.std.proofs.lemmas.Slice.Eq.{bytes_eq-Decides}
use Rattle.pbx_content.specs.declared.shape.Kind.{Kind}
use Rattle.pbx_content.specs.declared.shape.Kind.TheVariants as kind
use Rattle.pbx_content.specs.declared.shape.FieldShape.{FieldShape}
use Rattle.pbx_desc_records.specs.declared.field.FieldDescriptorProto.{FieldDescriptorProto}
use Rattle.pbx_desc_records.specs.declared.file.FileDescriptorProto.{FileDescriptorProto}
use Rattle.pbx_desc_records.specs.declared.message.DescriptorProto.{DescriptorProto}
use Rattle.pbx_link_definitions.specs.Definitions.{Part, message_name, messages, fields_in, extensions}
use Rattle.pbx_link_definitions.specs.Says.{is_number, number_or_zero}
use Rattle.pbx_link_rules_field.specs.Rules.{all_fields}
use Rattle.pbx_link_rules.specs.Pool.{ArePooled}
use Rattle.pbx_link_rules.specs.PoolLaws.{undotted, message_with_file}
use Rattle.pbx_link_rules.proofs.Counted.{count}
use Rattle.pbx_link_rules.proofs.References.{types_are_there}
use Rattle.pbx_link_rules.proofs.Types.{source}
use Rattle.pbx_link_meaning.specs.Descriptors.{Described, described, all_messages, all_extensions, message_of_name, message_referred, referred, is_map}
use Rattle.pbx_link_meaning.specs.Descriptors.{fields_of_message, extensions_of_message, with_number}
use Rattle.pbx_link_meaning.specs.Shapes.{message_place, place_of_message, place_of_enum, scalar_kind, kind_by, kind_of, part_kind, entry_kind, type_of_field}
use Rattle.pbx_link_meaning.specs.Shapes.{value_kind}
use Rattle.pbx_link_meaning.specs.Shapes.{field_shape, extension_shape}
use Rattle.pbx_link_meaning.proofs.Lists.{told_of, is_told}
use Rattle.pbx_link_meaning.proofs.PoolParts.{found_there}
use Rattle.pbx_link_meaning.proofs.Types.{of_pool}
use Rattle.pbx_link_meaning.specs.Shapes.{place_of}
use Rattle.pbx_message_laws.specs.Pools.{IsPooled, IsShapeOf}
use Rattle.pbx_message_laws.specs.Types.{IsTypeAt, PlaceHasType, ReferredHasPlace, KindHasType}
use Rattle.pbx_message_laws.proofs.DefaultRules.{pool_names}
use Rattle.pbx_message_laws.proofs.DefaultSettable.{from_filter, own_there, extension_there}
use Rattle.pbx_message_laws.proofs.Listed.{split, mapped}
use Rattle.pbx_message_laws.proofs.Placed.{has_name, named_once, message_is_placed, listed_is_field}

-- ---- items of lists

item_is : {X : Type 0} (xs : List X) (n : ℕ) (x : X) → slice_get xs n ≡ Some x → (n < length xs) × (get_or xs n x ≡ x)
item_is [] n x e = absurd cc
item_is (y ∷ ys) zero x e = (omega arith, cc)
item_is (y ∷ ys) (suc n) x e = let more = item_is ys n x e in (omega (arith, more.0), more.1)

passes : {X : Type 0} (test : X → Bool) (xs : List X) (x : X) → find test xs ≡ Some x → test x ≡ true
passes test [] x e = absurd cc
passes {X} test (y ∷ ys) x e = at (test y) refl e (passes test ys x)
  where
    at : (b : Bool) → test y ≡ b → cond b (Some y) (find test ys) ≡ Some x → (find test ys ≡ Some x → test x ≡ true) → test x ≡ true
    at true d e ih = let same : y ≡ x = cc in ap test (sym same) ∙ d
    at false d e ih = ih e

abbrev at_one : Bool → ℕ
at_one b = if b then 1 else 0

module _ {X : Type 0} (test : X → Bool) (x : X) (is : test x ≡ true) where
  counted : (xs : List X) (i : ℕ) → i < length xs → get_or xs i x ≡ x → 1 ≤ count test xs
  counted [] i lt e = absurd (omega (arith, lt))
  counted (y ∷ ys) zero lt e = let one : at_one (test y) ≡ 1 = ap at_one (ap test e ∙ is) in omega (arith, one)
  counted (y ∷ ys) (suc i) lt e = let more = counted ys i (omega (arith, lt)) e in omega (arith, more)

  -- the one item that passes has one place
  one_place : (xs : List X) (i j : ℕ) → count test xs ≤ 1 → i < length xs → get_or xs i x ≡ x → j < length xs → get_or xs j x ≡ x → i ≡ j
  one_place [] i j once lt e less d = absurd (omega (arith, lt))
  one_place (y ∷ ys) zero zero once lt e less d = refl
  one_place (y ∷ ys) zero (suc j) once lt e less d =
      let one : at_one (test y) ≡ 1 = ap at_one (ap test e ∙ is) in
      let more = counted ys j (omega (arith, less)) d in
      absurd (omega (arith, one, more, once))
  one_place (y ∷ ys) (suc i) zero once lt e less d =
      let one : at_one (test y) ≡ 1 = ap at_one (ap test d ∙ is) in
      let more = counted ys i (omega (arith, lt)) e in
      absurd (omega (arith, one, more, once))
  one_place (y ∷ ys) (suc i) (suc j) once lt e less d =
      ap (λ (n : ℕ). suc n) (one_place ys i j (omega (arith, once)) (omega (arith, lt)) e (omega (arith, less)) d)

-- ---- messages at places

-- a message of the pool has the pool, and is one of it
record IsOf (files : List FileDescriptorProto) (m : Described DescriptorProto) : Type 0 where
  pool : m.pool ≡ files
  pooled : IsPooled m

is_of : (pool : List FileDescriptorProto) → ArePooled [] pool → (m : Described DescriptorProto) → Contains (all_messages pool) m → IsOf pool m
is_of pool pooled m c =
    let o = of_pool pool m c in
    let same : pool ≡ m.pool = ap (λ (e : Described DescriptorProto). e.pool) o.is in
    record {
      pool = sym same;
      pooled = record {
        pooled = subst (λ (fs : List FileDescriptorProto). ArePooled [] fs) same pooled;
        within = subst (λ (fs : List FileDescriptorProto). Contains (all_messages fs) m) same c;
      };
    }

pub place_has_type : PlaceHasType
place_has_type pool t m pooled e =
    let here = item_is (all_messages pool) t m e in
    let of = is_of pool pooled m (t, here.0, here.1) in
    let q : List ℕ = message_name m.part in
    let own : slice_get (all_messages pool) (place_of m) ≡ Some m =
    ap (λ (fs : List FileDescriptorProto). slice_get (all_messages fs) (place_of m)) (sym of.pool) ∙ (message_is_placed m of.pooled).at in
    let there = item_is (all_messages pool) (place_of m) m own in
    record {
      at = e;
      pooled = of.pooled;
      pool = of.pool;
      place =
          one_place (has_name q) m ((bytes_eq-Decides q q).1 refl) (all_messages pool) (place_of m) t (named_once pool pooled q) there.0 there.1 here.0 here.1;
    }

-- the message of a name stands at the place of the name
named_place : (pool : List FileDescriptorProto) (q : List ℕ) (m : Described DescriptorProto) → ArePooled [] pool → message_of_name pool q ≡ Some m
    → (message_place pool q ≡ Some (place_of m)) × IsTypeAt pool (place_of m) m
named_place pool q m pooled e =
    let of = is_of pool pooled m (found_there (has_name q) (all_messages pool) m e) in
    let name : message_name m.part ≡ q = (bytes_eq-Decides (message_name m.part) q).0 (passes (has_name q) (all_messages pool) m e) in
    let is = message_is_placed m of.pooled in (
      ap (message_place pool) (sym name) ∙ ap (λ (fs : List FileDescriptorProto). message_place fs (message_name m.part)) (sym of.pool) ∙ is.found,
      place_has_type pool (place_of m) m pooled
          (ap (λ (fs : List FileDescriptorProto). slice_get (all_messages fs) (place_of m)) (sym of.pool) ∙ is.at),
    )

pub referred_has_place : ReferredHasPlace
referred_has_place pool name m pooled e = at (referred name) e
  where
    at : (o : Option (List ℕ)) → option_and_then (message_of_name pool) o ≡ Some m
        → IsTypeAt pool (unwrap_or (option_and_then (message_place pool) o) (length (all_messages pool))) m
    at None e = absurd cc
    at (Some q) e =
        let is = named_place pool q m pooled e in
        subst (λ (o : Option ℕ). IsTypeAt pool (unwrap_or o (length (all_messages pool))) m) (sym is.0) is.1

-- ---- kinds

abbrev is_message_kind : Kind → Bool
is_message_kind (kind.Message t) = true
is_message_kind _ = false

no_message : (n : ℕ) → is_message_kind (scalar_kind n) ≡ false
no_message n =
    or (n == 1) _ _ refl (or (n == 2) _ _ refl (or (n == 3) _ _ refl (or (n == 4) _ _ refl (or (n == 5) _ _ refl (or (n == 6) _ _ refl
    (or (n == 7) _ _ refl (or (n == 8) _ _ refl (or (n == 9) _ _ refl (or (n == 12) _ _ refl (or (n == 13) _ _ refl (or (n == 15) _ _ refl
    (or (n == 16) _ _ refl (or (n == 17) _ _ refl refl)))))))))))))
  where
    or : (b : Bool) (j k : Kind) → is_message_kind j ≡ false → is_message_kind k ≡ false → is_message_kind (if b then j else k) ≡ false
    or true j k p q = p
    or false j k p q = q

by_message : (pool : List FileDescriptorProto) (n t : ℕ) (name : Option (List ℕ)) → kind_by pool n name ≡ kind.Message t
    → ((n == 11) ≡ true) × (place_of_message pool name ≡ t)
by_message pool n t name e = at (n == 11) (n == 14) (scalar_kind n) (no_message n) e
  where
    at : (a b : Bool) (k : Kind) → is_message_kind k ≡ false
        → (if a then kind.Message (place_of_message pool name) else (if b then kind.Enum (place_of_enum pool name) else k)) ≡ kind.Message t
        → (a ≡ true) × (place_of_message pool name ≡ t)
    at true b k none e = (refl, cc)
    at false true k none e = absurd cc
    at false false k none e = absurd (let bad : false ≡ true = sym none ∙ ap is_message_kind e in cc)

of_number : (o : Option ℤ) → (number_or_zero o == 11) ≡ true → is_number o 11 ≡ true
of_number None e = absurd cc
of_number (Some (pos n)) e = e
of_number (Some (negsuc n)) e = absurd cc

-- ---- references of fields

numbered_there : (k : ℕ) (fs : List FileDescriptorProto) (g : ℕ × FileDescriptorProto) → Contains (enumerate_from k fs) g → Contains fs g.1
numbered_there k [] g c = absurd (omega (arith, c.1))
numbered_there k (f ∷ fs) g c = at (split (k, f) (enumerate_from (k + 1) fs) g c) (numbered_there (k + 1) fs g)
  where
    at : ((k, f) ≡ g) ⊎ Contains (enumerate_from (k + 1) fs) g → (Contains (enumerate_from (k + 1) fs) g → Contains fs g.1) → Contains (f ∷ fs) g.1
    at (inl e) ih = (0, omega arith, ap (λ (p : ℕ × FileDescriptorProto). p.1) e)
    at (inr d) ih = let more = ih d in (suc more.0, omega (arith, more.1), more.2)

some_is : {X : Type 0} (o : Option X) → is_some o ≡ true → (x : X) × (o ≡ Some x)
some_is None e = absurd cc
some_is (Some x) e = (x, refl)

-- a message with this name is there
named_there : (pool : List FileDescriptorProto) (q : List ℕ) → is_some (message_with_file pool q) ≡ true
    → (m : Described DescriptorProto) × (message_of_name pool q ≡ Some m)
named_there pool q e =
    let test : ℕ × Part DescriptorProto → Bool = λ p. bytes_eq (message_name p.1) q in
    let p = some_is (message_with_file pool q) e in
    let c = found_there test _ p.0 p.1 in
    let t = told_of (λ (f : ℕ × FileDescriptorProto). map (λ (x : Part DescriptorProto). (f.0, x)) (messages f.1)) (enumerate_from 0 pool) p.0 c in
    let s = source (λ (x : Part DescriptorProto). (t.holder.0, x)) (messages t.holder.1) p.0 t.inside in
    let f : FileDescriptorProto = t.holder.1 in
    let there : Contains (all_messages pool) (described pool f s.item) =
    is_told (λ (g : FileDescriptorProto). map (described pool g) (messages g)) pool f (described pool f s.item)
    (numbered_there 0 pool t.holder t.within) (mapped (described pool f) (messages f) s.item s.within) in
    let named : has_name q (described pool f s.item) ≡ true = ap test s.made ∙ passes test _ p.0 p.1 in
    first (all_messages pool) (described pool f s.item) there named
  where
    first : (ds : List (Described DescriptorProto)) (m : Described DescriptorProto) → Contains ds m → has_name q m ≡ true
        → (n : Described DescriptorProto) × (find (has_name q) ds ≡ Some n)
    first [] m c e = absurd (omega (arith, c.1))
    first (d ∷ ds) m c e = at (has_name q d) refl (split d ds m c) (λ k. first ds m k e)
      where
        at : (b : Bool) → has_name q d ≡ b → (d ≡ m) ⊎ Contains ds m
            → (Contains ds m → (n : Described DescriptorProto) × (find (has_name q) ds ≡ Some n))
            → (n : Described DescriptorProto) × (cond b (Some d) (find (has_name q) ds) ≡ Some n)
        at true w o ih = (d, refl)
        at false w (inl same) ih = absurd (let bad : false ≡ true = sym w ∙ ap (has_name q) same ∙ e in cc)
        at false w (inr k) ih = ih k

-- ---- a field of the pool

module _ (pool : List FileDescriptorProto) (pooled : ArePooled [] pool) where
  kind_typed : (x : Described FieldDescriptorProto) (t : ℕ) → x.pool ≡ pool → Contains (flat_map all_fields pool) x.part → kind_of x ≡ kind.Message t
      → (m : Described DescriptorProto) × IsTypeAt pool t m
  kind_typed x t same c e =
      let name : Option (List ℕ) = x.part.item.type_name in
      let n : ℕ = number_or_zero x.part.item.kind in
      let by = by_message pool n t name (ap (λ (fs : List FileDescriptorProto). kind_by fs n name) (sym same) ∙ e) in
      let number = of_number x.part.item.kind by.0 in
      let q = pool_names pool pooled x.part c number in
      let there = (types_are_there pool x.part pooled c).message number in
      let m = named_there pool q.0 (ap (λ (o : Option (List ℕ)). is_some (message_with_file pool (undotted o))) (sym q.1) ∙ there) in
      let found : message_referred pool name ≡ Some m.0 = ap (message_referred pool) q.1 ∙ m.1 in
      (m.0, subst (λ (p : ℕ). IsTypeAt pool p m.0) by.1 (referred_has_place pool name m.0 pooled found))

  -- a field of a message of the pool, or a part of an entry
  value_typed : (x : Described FieldDescriptorProto) (t : ℕ) → x.pool ≡ pool → Contains (flat_map all_fields pool) x.part → value_kind x ≡ kind.Message t
      → (m : Described DescriptorProto) × IsTypeAt pool t m
  value_typed x t same c e = at (is_map x) e
    where
      of_part : (m : Described DescriptorProto) → message_referred pool x.part.item.type_name ≡ Some m → (o : Option (Described FieldDescriptorProto))
          → with_number (fields_of_message m) 2 ≡ o → part_kind o ≡ kind.Message t → (m : Described DescriptorProto) × IsTypeAt pool t m
      of_part m d None g e = absurd cc
      of_part m d (Some y) g e =
          let at = referred_has_place pool x.part.item.type_name m pooled d in
          let there = found_there (λ (z : Described FieldDescriptorProto). is_number z.part.item.number 2) (fields_of_message m) y g in
          let s = source (described m.pool m.file) (fields_in m.part) y there in
          let pools : y.pool ≡ pool = ap (λ (z : Described FieldDescriptorProto). z.pool) (sym s.made) ∙ at.pool in
          kind_typed y t pools
          (subst (λ (fs : List FileDescriptorProto). Contains (flat_map all_fields fs) y.part) at.pool (own_there m y at.pooled there)) e

      of_entry : (o : Option (Described DescriptorProto)) → message_referred x.pool x.part.item.type_name ≡ o → entry_kind 2 o ≡ kind.Message t
          → (m : Described DescriptorProto) × IsTypeAt pool t m
      of_entry None d e = absurd cc
      of_entry (Some m) d e =
          of_part m (ap (λ (fs : List FileDescriptorProto). message_referred fs x.part.item.type_name) (sym same) ∙ d)
          (with_number (fields_of_message m) 2) refl e

      at : (b : Bool) → (if b then entry_kind 2 (type_of_field x) else kind_of x) ≡ kind.Message t → (m : Described DescriptorProto) × IsTypeAt pool t m
      at true e = of_entry (type_of_field x) refl e
      at false e = kind_typed x t same c e

pub kind_has_type : KindHasType
kind_has_type d n t f of e k = at (listed_is_field d n f of e)
  where
    at : IsShapeOf field_shape (fields_of_message d) n f ⊎ IsShapeOf extension_shape (extensions_of_message d) n f
        → (m : Described DescriptorProto) × IsTypeAt d.pool t m
    at (inl s) =
        let x : Described FieldDescriptorProto = s.descriptor in
        let own = source (described d.pool d.file) (fields_in d.part) x s.within in
        value_typed d.pool of.pooled x t (ap (λ (z : Described FieldDescriptorProto). z.pool) (sym own.made)) (own_there d x of s.within)
        (ap (λ (g : FieldShape). g.kind) s.shape ∙ k)
    at (inr s) =
        let x : Described FieldDescriptorProto = s.descriptor in
        let told = told_of (λ (g : FileDescriptorProto). map (described d.pool g) (extensions g)) d.pool x (from_filter _ (all_extensions d.pool) x s.within) in
        let own = source (described d.pool told.holder) (extensions told.holder) x told.inside in
        value_typed d.pool of.pooled x t (ap (λ (z : Described FieldDescriptorProto). z.pool) (sym own.made)) (extension_there d x s.within)
        (ap (λ (g : FieldShape). g.kind) s.shape ∙ k)
