-- Values that are taken out one after another.
use Rattle.std.proofs.Common.{◌≡◌, ℕ, Bool, true, false, if◌then◌else◌, List, [], ◌∷◌, map, Option, Some, None, refl, sym, ap, ◌∙◌, subst, arith}
use Rattle.std.specs.Prelude.{◌==◌, ℤ}
use Rattle.std.proofs.lemmas.Bool.Decides.{nat_tests}
use Rattle.pbx_wire.specs.declared.rec.Rec.{Rec}
use Rattle.pbx_content.specs.declared.shape.Cardinality.TheVariants.{Singular, Repeated, Map}
use Rattle.pbx_content.specs.declared.shape.FieldShape.{FieldShape}
use Rattle.pbx_content.specs.declared.shape.Kind.{Kind}
use Rattle.pbx_content.specs.declared.shape.Kind.TheVariants as kind
use Rattle.pbx_content.specs.Content.{Content, content, fields, kept, Fields, no_fields, field, Key, Val, number, truth, text, octets, message, many, keyed, vals_of, pairs_of, get, without, with_fields}
use Rattle.pbx_content.specs.Shape.{fields_of}
use Rattle.pbx_content.specs.Meaning.{shown}
use Rattle.pbx_content.specs.Sound.{IsSound, IsElement, AreElements, ArePairs, IsNumber}
use Rattle.pbx_desc_shapes.specs.TypesShape.{types_shape}
use Rattle.pbx_types.specs.FieldContent.{record_content}
use Rattle.pbx_types.specs.Sound.{IsOf, MayBe, AreOf, some_field}
use Rattle.pbx_types.specs.Taking.{IsAt, Takes, TakesList, TakesPairs}
use Rattle.pbx_types.specs.Exact.{is_shown, is_exact_with}
use Rattle.pbx_types.proofs.Sound.{shown_again, value_shown, written, sound_at, whole}

-- ---- what is left

get_other : (n m : ℕ) (fs : Fields) → (n == m) ≡ false → get n (without m fs) ≡ get n fs
get_other n m no_fields e = refl
get_other n m (field k v fs) e = at (m == k) (n == k) refl refl (get_other n m fs e)
  where
    at : (a b : Bool) → (m == k) ≡ a → (n == k) ≡ b → get n (without m fs) ≡ get n fs
        → get n (if a then fs else field k v (without m fs)) ≡ (if b then Some v else get n fs)
    at true true d f ih = absurd (let bad : (n == m) ≡ true = grind (arith, nat_tests) in let worse : true ≡ false = sym bad ∙ e in cc)
    at true false d f ih = refl
    at false true d f ih = rw f refl
    at false false d f ih = rw f ih

pub get_left : (n m : ℕ) (old new : Content) → new ≡ with_fields old (without m (fields old)) → (n == m) ≡ false → get n (fields new) ≡ get n (fields old)
get_left n m (content fs ks) new e apart = ap (λ (c : Content). get n (fields c)) e ∙ get_other n m fs apart

pub kept_left : (m : ℕ) (old new : Content) → new ≡ with_fields old (without m (fields old)) → kept new ≡ kept old
kept_left m (content fs ks) new e = ap kept e

-- ---- single values

-- the kinds of the fields of the records
abbrev pub is_simple : Kind → Bool
is_simple kind.Int32 = true
is_simple kind.Int64 = true
is_simple kind.Bool = true
is_simple kind.String = true
is_simple kind.Bytes = true
is_simple (kind.Message t) = true
is_simple _ = false

number_is : (k : Kind) (z : ℤ) → is_simple k ≡ true → IsNumber k z → IsOf k (number z)
number_is kind.Int32 z s h = h
number_is kind.Int64 z s h = h
number_is kind.Bool z s h = absurd h
number_is kind.String z s h = absurd h
number_is kind.Bytes z s h = absurd h
number_is (kind.Message t) z s h = absurd h
number_is _ z s h = absurd cc

single_not_many : (g : FieldShape) → g.cardinality ≡ Singular → g.cardinality ≡ Repeated → ⊥
single_not_many g one several = let bad : Singular ≡ Repeated = sym one ∙ several in absurd cc

single_not_map : (g : FieldShape) (key : Kind) → g.cardinality ≡ Singular → g.cardinality ≡ Map key → ⊥
single_not_map g key one pairs = let bad : Singular ≡ Map key = sym one ∙ pairs in absurd cc

may_be : (g : FieldShape) (v : Option Val) → g.cardinality ≡ Singular → is_simple g.kind ≡ true → IsAt g v → MayBe g.kind v
may_be g None one s h = tt
may_be g (Some (number z)) one s h = number_is g.kind z s h.2
may_be g (Some (truth b)) one s h = rw h.2 tt
may_be g (Some (text t)) one s h = rw h.2 h.3
may_be g (Some (octets b)) one s h = rw h.2 tt
may_be g (Some (message c)) one s h = rw h.1.1 h.1.2
may_be g (Some (many vs)) one s h = absurd (single_not_many g one h.0)
may_be g (Some (keyed ps)) one s h = absurd (single_not_map g h.1.0 one h.1.1)

-- a field of at most one value, of a kind that is read here
pub record IsPlain (g : FieldShape) (n : ℕ) (k : Kind) : Type 0 where
  pub number_is : g.number ≡ n
  pub single : g.cardinality ≡ Singular
  pub kind_is : g.kind ≡ k
  pub simple : is_simple k ≡ true

-- what was taken out is the value, where that was still there
pub value_is : {k : Kind} {n : ℕ} {v : Option Val} {mid new : Content} (g : FieldShape) (c : Content) → IsPlain g n k → Takes k n v mid new → get n (fields mid) ≡ get n (fields c)
    → IsAt g (get g.number (fields c)) → v ≡ get g.number (fields c)
value_is {k} {n} {v} {mid} {new} g c plain takes there at =
    let same : get g.number (fields c) ≡ get n (fields c) = ap (λ m. get m (fields c)) plain.number_is in
    let may : MayBe k (get n (fields c)) = rw (← plain.kind_is, ← plain.number_is) (may_be g (get g.number (fields c)) plain.single (rw plain.kind_is plain.simple) at) in
    takes.value (subst (MayBe k) (sym there) may) ∙ there ∙ sym same

-- and so it is shown
pub taken_is : {k : Kind} {n : ℕ} {v : Option Val} {mid new : Content} (g : FieldShape) (c : Content) → IsPlain g n k → Takes k n v mid new → get n (fields mid) ≡ get n (fields c)
    → IsAt g (get g.number (fields c)) → shown types_shape g.presence g.kind v ≡ get g.number (fields c)
taken_is g c plain takes there at = ap (shown types_shape g.presence g.kind) (value_is g c plain takes there at) ∙ shown_again g (get g.number (fields c)) at

-- a message that was taken out is one of its type, where it was still there
pub message_may : {t : ℕ} {n : ℕ} (g : FieldShape) (mid c : Content) → IsPlain g n (kind.Message t) → get n (fields mid) ≡ get n (fields c) → IsAt g (get g.number (fields c)) → MayBe (kind.Message t) (get n (fields mid))
message_may {t} {n} g mid c plain there at =
    subst (MayBe (kind.Message t)) (sym there)
    (rw (← plain.kind_is, ← plain.number_is) (may_be g (get g.number (fields c)) plain.single (rw plain.kind_is plain.simple) at))

-- the record of two fields holds the content, and nothing beside it
abbrev pub IsWhole : List FieldShape → List (Option Val) → List Rec → Content → Type 0
IsWhole gs vs rs c = (record_content gs vs rs ≡ c) × (is_exact_with gs vs rs ≡ true)

pub two_whole : {k l : Kind} {u v : Option Val} {c mid last : Content} {rs : List Rec} (t : ℕ) (g h : FieldShape) → fields_of types_shape t ≡ g ∷ h ∷ [] → IsPlain g 1 k → IsPlain h 2 l
    → Takes k 1 u c mid → Takes l 2 v mid last → rs ≡ kept last → IsSound types_shape t c → IsWhole (g ∷ h ∷ []) (u ∷ v ∷ []) rs c
two_whole {k} {l} {u} {v} {c} {mid} {last} {rs} t g h type first second takes more same sound =
    let behind = get_left 2 1 c mid takes.rest refl in
    let kept_same = same ∙ kept_left 2 mid last more.rest ∙ kept_left 1 c mid takes.rest in
    let each = sound_at t (g ∷ h ∷ []) c type sound in
    let one : is_shown g u ≡ true = ap (is_shown g) (value_is g c first takes refl each.0) ∙ value_shown g (get g.number (fields c)) each.0 in
    let two : is_shown h v ≡ true = ap (is_shown h) (value_is h c second more behind each.1.0) ∙ value_shown h (get h.number (fields c)) each.1.0 in
    (whole t (g ∷ h ∷ []) (u ∷ v ∷ []) rs c type (taken_is g c first takes refl, (taken_is h c second more behind, tt)) kept_same sound, rw (one, two) (written t (g ∷ h ∷ []) rs c type kept_same sound))

-- ---- lists and maps

some_at : (g : FieldShape) (v : Option Val) → IsAt g v → IsAt (some_field g.cardinality g.presence g.kind) v
some_at g None h = tt
some_at g (Some (number z)) h = h
some_at g (Some (truth b)) h = h
some_at g (Some (text s)) h = h
some_at g (Some (octets b)) h = h
some_at g (Some (message c)) h = h
some_at g (Some (many vs)) h = h
some_at g (Some (keyed ps)) h = h

element_is : (k : Kind) (v : Val) → is_simple k ≡ true → IsElement types_shape k v → IsOf k v
element_is k (number z) s h = number_is k z s h
element_is k (truth b) s h = rw h tt
element_is k (text t) s h = rw h.0 h.1
element_is k (octets b) s h = rw h tt
element_is k (message c) s h = rw h.1 h.2
element_is k (many vs) s h = absurd h
element_is k (keyed ps) s h = absurd h

elements_are : (k : Kind) (vs : List Val) → is_simple k ≡ true → AreElements types_shape k (vals_of vs) → AreOf k vs
elements_are k [] s h = tt
elements_are k (v ∷ vs) s h = (element_is k v s h.0, elements_are k vs s h.1)

-- a list that is taken out of a sound content has values of the kind
pub list_are : {k : Kind} {vs : List Val} {c last : Content} (t : ℕ) (g : FieldShape) → fields_of types_shape t ≡ g ∷ [] → g.cardinality ≡ Repeated → g.presence ≡ false → g.kind ≡ k → is_simple k ≡ true
    → TakesList k g.number vs c last → IsSound types_shape t c → AreOf k vs
list_are {k} {vs} {c} {last} t g type several without kind_is simple takes sound =
    let at = (sound_at t (g ∷ []) c type sound).0 in
    elements_are k vs simple (takes.value (rw (several, without, kind_is) at (some_at g (get g.number (fields c)) at))).each

-- and a map has pairs of the kinds
pub map_are : {key k : Kind} {ps : List (Key × Val)} {c last : Content} (t : ℕ) (g : FieldShape) → fields_of types_shape t ≡ g ∷ [] → g.cardinality ≡ Map key → g.presence ≡ false → g.kind ≡ k
    → TakesPairs key k g.number ps c last → IsSound types_shape t c → ArePairs types_shape key k (pairs_of ps)
map_are {key} {k} {ps} {c} {last} t g type pairs without kind_is takes sound =
    let at = (sound_at t (g ∷ []) c type sound).0 in
    (takes.value (rw (pairs, without, kind_is) at (some_at g (get g.number (fields c)) at))).each

-- the values of the one field, a list, are these
pub list_whole : {X : Type 0} {k : Kind} {vs : List Val} {c last : Content} {rs : List Rec} (t : ℕ) (g : FieldShape) (f : X → Val) (xs : List X) → fields_of types_shape t ≡ g ∷ []
    → g.cardinality ≡ Repeated → g.presence ≡ false → g.kind ≡ k → is_simple k ≡ true → TakesList k g.number vs c last → (AreOf k vs → map f xs ≡ vs) → rs ≡ kept last → IsSound types_shape t c
    → record_content (g ∷ []) (Some (many (vals_of (map f xs))) ∷ []) rs ≡ c
list_whole {X} {k} {vs} {c} {last} {rs} t g f xs type several without kind_is simple takes are same sound =
    whole t (g ∷ []) (Some (many (vals_of (map f xs))) ∷ []) rs c type (at_list, tt) (same ∙ kept_left g.number c last takes.rest) sound
  where
    at_list : IsAt g (get g.number (fields c)) → shown types_shape g.presence g.kind (Some (many (vals_of (map f xs)))) ≡ get g.number (fields c)
    at_list at =
        let own = takes.value (rw (several, without, kind_is) at (some_at g (get g.number (fields c)) at)) in
        rw (without, kind_is, are (elements_are k vs simple own.each)) own.same

-- the pairs of the one field, a map, are these
pub map_whole : {X : Type 0} {key k : Kind} {ps : List (Key × Val)} {c last : Content} {rs : List Rec} (t : ℕ) (g : FieldShape) (f : X → Key × Val) (xs : List X) → fields_of types_shape t ≡ g ∷ []
    → g.cardinality ≡ Map key → g.presence ≡ false → g.kind ≡ k → TakesPairs key k g.number ps c last → (ArePairs types_shape key k (pairs_of ps) → map f xs ≡ ps) → rs ≡ kept last → IsSound types_shape t c
    → record_content (g ∷ []) (Some (keyed (pairs_of (map f xs))) ∷ []) rs ≡ c
map_whole {X} {key} {k} {ps} {c} {last} {rs} t g f xs type pairs without kind_is takes are same sound =
    whole t (g ∷ []) (Some (keyed (pairs_of (map f xs))) ∷ []) rs c type (at_map, tt) (same ∙ kept_left g.number c last takes.rest) sound
  where
    at_map : IsAt g (get g.number (fields c)) → shown types_shape g.presence g.kind (Some (keyed (pairs_of (map f xs)))) ≡ get g.number (fields c)
    at_map at =
        let own = takes.value (rw (pairs, without, kind_is) at (some_at g (get g.number (fields c)) at)) in
        rw (without, kind_is, are own.each) own.same
