-- Values that are taken out, and lists of them, one by one.
use Rattle.std.proofs.Common.{◌≡◌, ℕ, Bool, true, false, List, [], ◌∷◌, ◌++◌, map, Option, Some, None, option_map, refl, sym, ap, ◌∙◌, subst}
use Rattle.std.proofs.lemmas.List.{map-append}
use Rattle.pbx_wire.specs.Text.{all_true}
use Rattle.pbx_wire.proofs.Written.{all_true-append}
use Rattle.pbx_content.specs.declared.shape.Cardinality.TheVariants.{Repeated, Map}
use Rattle.pbx_content.specs.declared.shape.Kind.{Kind}
use Rattle.pbx_content.specs.declared.shape.Kind.TheVariants as kind
use Rattle.pbx_content.specs.Content.{Content, fields, get, without, with_fields, Key, Val, message, many, keyed, vals_of, pairs_of}
use Rattle.pbx_content.specs.Sound.{IsSound, IsSoundAt, ArePairs}
use Rattle.pbx_content_codec.specs.declared.contents.Held.{Held}
use Rattle.pbx_content_codec.specs.declared.contents.Contents.{Contents}
use Rattle.pbx_content_codec.specs.declared.contents.Held as held
use Rattle.pbx_content_codec.specs.declared.contents.Pair.{Pair}
use Rattle.pbx_content_codec.specs.View.{content_of, val_of, pair_of}
use Rattle.pbx_content_codec.proofs.Tree.{val_of-Many, val_of-Pairs}
use Rattle.pbx_desc.specs.Exact.{are_exact}
use Rattle.pbx_desc_shapes.specs.TypesShape.{types_shape}
use Rattle.pbx_types.specs.Sound.{IsOf, AreOf, some_field}
use Rattle.pbx_types.specs.Taking.{IsAt, IsList, IsMap, TakesList, TakesPairs}

-- the record of a message that is taken out
pub message_is : {R : Type 0} (t : ℕ) (f : R → Content) (x : R → Bool) (h : Held) (c : Contents) (r : R) → (IsOf (kind.Message t) (val_of h) → val_of h ≡ message (content_of c))
    → (IsSound types_shape t (content_of c) → (f r ≡ content_of c) × (x r ≡ true)) → IsOf (kind.Message t) (val_of h) → (message (f r) ≡ val_of h) × (x r ≡ true)
message_is t f x h c r is made own =
    let e = is own in
    let both = made (subst (IsOf (kind.Message t)) e own) in
    (ap message both.0 ∙ sym e, both.1)

-- one exact record more
pub exact_more : {R : Type 0} (x : R → Bool) (rs : List R) (r : R) → are_exact x rs ≡ true → x r ≡ true → are_exact x (rs ++ r ∷ []) ≡ true
exact_more x rs r old new =
    let last : all_true (x r ∷ []) ≡ true = rw new refl in
    ap all_true (map-append x rs (r ∷ [])) ∙ all_true-append (map x rs) (x r ∷ []) old last

are_split : (k : Kind) (vs : List Val) (v : Val) → AreOf k (vs ++ v ∷ []) → AreOf k vs × IsOf k v
are_split k [] v h = (tt, h.0)
are_split k (w ∷ vs) v h = let rest = are_split k vs v h.1 in ((h.0, rest.0), rest.1)

-- these are the values of the trees, where those are of the kind
abbrev pub AreValues : {X : Type 0} → Kind → (X → Val) → List Held → List X → Type 0
AreValues k g hs xs = AreOf k (map val_of hs) → map g xs ≡ map val_of hs

pub value_more : {X : Type 0} (k : Kind) (g : X → Val) (hs : List Held) (h : Held) (xs : List X) (x : X) → AreValues k g hs xs → (IsOf k (val_of h) → g x ≡ val_of h)
    → AreValues k g (hs ++ h ∷ []) (xs ++ x ∷ [])
value_more k g hs h xs x before here all =
    let parts = are_split k (map val_of hs) (val_of h) (subst (AreOf k) (map-append val_of hs (h ∷ [])) all) in
    map-append g xs (x ∷ []) ∙ rw (before parts.0, here parts.1) (sym (map-append val_of hs (h ∷ [])))

-- these are the records of the trees, and exact, where those are of the kind
abbrev pub AreRecords : {R : Type 0} → Kind → (R → Content) → (R → Bool) → List Held → List R → Type 0
AreRecords k f x hs rs = AreOf k (map val_of hs) → (map (λ r. message (f r)) rs ≡ map val_of hs) × (are_exact x rs ≡ true)

pub record_more : {R : Type 0} (k : Kind) (f : R → Content) (x : R → Bool) (hs : List Held) (h : Held) (rs : List R) (r : R) → AreRecords k f x hs rs → (IsOf k (val_of h) → (message (f r) ≡ val_of h) × (x r ≡ true))
    → AreRecords k f x (hs ++ h ∷ []) (rs ++ r ∷ [])
record_more k f x hs h rs r before here all =
    let parts = are_split k (map val_of hs) (val_of h) (subst (AreOf k) (map-append val_of hs (h ∷ [])) all) in
    let old = before parts.0 in
    let new = here parts.1 in
    (map-append (λ r. message (f r)) rs (r ∷ []) ∙ rw (old.0, new.0) (sym (map-append val_of hs (h ∷ []))), exact_more x rs r old.1 new.1)

some_same : (v w : Val) → Some v ≡ Some w → v ≡ w
some_same v w e = cc

pub option_more : {X : Type 0} (k : Kind) (g : X → Val) (hs : List Held) (h : Held) (xs : List X) (x : X) → AreValues k g hs xs → (IsOf k (val_of h) → option_map g (Some x) ≡ Some (val_of h))
    → AreValues k g (hs ++ h ∷ []) (xs ++ x ∷ [])
option_more k g hs h xs x before here = value_more k g hs h xs x before (λ own. some_same (g x) (val_of h) (here own))

pub nothing_more : {X : Type 0} (k : Kind) (g : X → Val) (hs : List Held) (h : Held) (xs : List X) (o : Option X) → o ≡ None → (IsOf k (val_of h) → option_map g o ≡ Some (val_of h)) → AreValues k g (hs ++ h ∷ []) xs
nothing_more k g hs h xs o none here all =
    let parts = are_split k (map val_of hs) (val_of h) (subst (AreOf k) (map-append val_of hs (h ∷ [])) all) in
    absurd (let bad : option_map g o ≡ Some (val_of h) = here parts.1 in let same : option_map g o ≡ None = ap (option_map g) none in cc)

-- ---- lists and maps

key_same : (a b : Kind) → Map a ≡ Map b → a ≡ b
key_same a b e = cc

list_held : (k : Kind) (w : Val) (vs : List Val) → w ≡ many (vals_of vs) → IsAt (some_field Repeated false k) (Some w) → IsList k vs (Some w)
list_held k w vs e at =
    let own : IsSoundAt types_shape (Some (some_field Repeated false k)) (many (vals_of vs)) = subst (λ (v : Val). IsSoundAt types_shape (Some (some_field Repeated false k)) v) e at in
    record { same = rw own.1 (ap Some (sym e)); each = own.2 }

map_held : (key k : Kind) (w : Val) (ps : List (Key × Val)) → w ≡ keyed (pairs_of ps) → IsAt (some_field (Map key) false k) (Some w) → IsMap key k ps (Some w)
map_held key k w ps e at =
    let own : IsSoundAt types_shape (Some (some_field (Map key) false k)) (keyed (pairs_of ps)) = subst (λ (v : Val). IsSoundAt types_shape (Some (some_field (Map key) false k)) v) e at in
    record { same = rw own.0 (ap Some (sym e)); each = subst (λ (l : Kind). ArePairs types_shape l k (pairs_of ps)) (sym (key_same key own.1.0 own.1.1)) own.1.2 }

pub list_in : (k : Kind) (h : Held) (hs : List Held) → h ≡ held.Many hs → IsAt (some_field Repeated false k) (Some (val_of h)) → IsList k (map val_of hs) (Some (val_of h))
list_in k h hs is at = list_held k (val_of h) (map val_of hs) (ap val_of is ∙ val_of-Many hs) at

pub map_in : (key k : Kind) (h : Held) (ps : List Pair) → h ≡ held.Pairs ps → IsAt (some_field (Map key) false k) (Some (val_of h)) → IsMap key k (map pair_of ps) (Some (val_of h))
map_in key k h ps is at = map_held key k (val_of h) (map pair_of ps) (ap val_of is ∙ val_of-Pairs ps) at

-- what is taken out
pub took_values : (k : Kind) (n : ℕ) (h : Held) (vs : List Val) (old new : Content) → Some (val_of h) ≡ get n (fields old) → (IsAt (some_field Repeated false k) (Some (val_of h)) → IsList k vs (Some (val_of h)))
    → new ≡ with_fields old (without n (fields old)) → TakesList k n vs old new
took_values k n h vs old new e is rest = record {
  value = λ at. subst (λ (o : Option Val). IsList k vs o) e (is (subst (λ (o : Option Val). IsAt (some_field Repeated false k) o) (sym e) at));
  rest = rest;
}

pub took_pairs : (key k : Kind) (n : ℕ) (h : Held) (ps : List (Key × Val)) (old new : Content) → Some (val_of h) ≡ get n (fields old)
    → (IsAt (some_field (Map key) false k) (Some (val_of h)) → IsMap key k ps (Some (val_of h))) → new ≡ with_fields old (without n (fields old)) → TakesPairs key k n ps old new
took_pairs key k n h ps old new e is rest = record {
  value = λ at. subst (λ (o : Option Val). IsMap key k ps o) e (is (subst (λ (o : Option Val). IsAt (some_field (Map key) false k) o) (sym e) at));
  rest = rest;
}

pub took_no_list : (k : Kind) (n : ℕ) (old new : Content) → None ≡ get n (fields old) → new ≡ with_fields old (without n (fields old)) → TakesList k n [] old new
took_no_list k n old new e rest = record { value = λ at. record { same = e; each = tt }; rest = rest }

pub took_no_map : (key k : Kind) (n : ℕ) (old new : Content) → None ≡ get n (fields old) → new ≡ with_fields old (without n (fields old)) → TakesPairs key k n [] old new
took_no_map key k n old new e rest = record { value = λ at. record { same = e; each = tt }; rest = rest }
