-- Contents that are made field by field.
use Rattle.std.proofs.Common.{◌≡◌, ℕ, true, Bool, false, if◌then◌else◌, List, [], ◌∷◌, map, Option, Some, None, refl, sym, ap, ◌∙◌, subst}
use Rattle.std.specs.Prelude.{Result, Ok, Err, IfOk, OnOk}
use Rattle.std.specs.List.{filter}
use Rattle.pbx_wire.specs.Text.{are_fit}
use Rattle.pbx_wire.specs.declared.rec.Rec.{Rec}
use Rattle.pbx_content.specs.declared.shape.FieldShape.{FieldShape}
use Rattle.pbx_content.specs.declared.shape.Kind.{Kind}
use Rattle.pbx_content.specs.Content.{Key, Content, content, no_fields, fields, with_fields, with_value, Val, number, truth, text, octets, message, many, keyed, vals_of, pairs_of}
use Rattle.pbx_content.specs.Meaning.{with_field, shown, is_default}
use Rattle.pbx_content.specs.Sound.{has_one_member, AreElements, ArePairs}
use Rattle.pbx_content.specs.Shape.{fields_of}
use Rattle.pbx_content_codec.specs.declared.contents.Contents.{Contents}
use Rattle.pbx_content_codec.specs.declared.contents.Held.{Held}
use Rattle.pbx_content_codec.specs.declared.contents.Held as held
use Rattle.pbx_content_codec.specs.declared.contents.Pair.{Pair}
use Rattle.pbx_content_codec.specs.View.{content_of, val_of, pair_of}
use Rattle.pbx_content_codec.proofs.Tree.{val_of-Many, val_of-Pairs}
use Rattle.pbx_content.specs.declared.shape.Cardinality.{Cardinality}
use Rattle.pbx_content.specs.declared.shape.Cardinality.TheVariants.{Repeated, Map}
use Rattle.pbx_desc_shapes.specs.TypesShape.{types_shape}
use Rattle.pbx_types.specs.Building.{put_in, Puts, Holds}
use Rattle.pbx_types.specs.FieldContent.{fields_from, record_content}
use Rattle.pbx_types.specs.Sound.{Fits, MayHave, AreValues, some_field}
use Rattle.pbx_wire.specs.Number.{is_writable_beside}
use Rattle.pbx_types.proofs.Fields.{numbers, AreRead, kept_is, content_sound}

-- number and names of a field are no part of what it may have
pub renamed : (g : FieldShape) (v : Option Val) → MayHave (some_field g.cardinality g.presence g.kind) v → MayHave g v
renamed g None h = tt
renamed g (Some (number z)) h = h
renamed g (Some (truth b)) h = h
renamed g (Some (text s)) h = h
renamed g (Some (octets b)) h = h
renamed g (Some (message c)) h = h
renamed g (Some (many vs)) h = h
renamed g (Some (keyed ps)) h = h

-- ---- one value

same_fields : (c : Content) → c ≡ with_fields c (fields c)
same_fields (content fs ks) = refl

pub put_none : (c : Cardinality) (b : Bool) (k : Kind) (n : ℕ) (x : Content) → Puts c b k n None x x
put_none c b k n x = record { put = same_fields x; value = tt }

-- a default without presence
pub put_default : (c : Cardinality) (k : Kind) (n : ℕ) (v : Val) (x : Content) → is_default types_shape k v ≡ true → Fits (some_field c false k) v → Puts c false k n (Some v) x x
put_default c k n v x zero fit = record { put = rw zero (same_fields x); value = fit }

-- a value that is no default
pub put_value : (c : Cardinality) (b : Bool) (k : Kind) (n : ℕ) (v w : Val) (old new : Content) → is_default types_shape k v ≡ false → Fits (some_field c b k) v → w ≡ v
    → new ≡ with_fields old (with_value n w (fields old)) → Puts c b k n (Some v) old new
put_value c b k n v w old new shows fit is e = record { put = e ∙ rw (is, shows) (at b); value = fit }
  where
    at : (b : Bool) → with_fields old (with_value n v (fields old)) ≡ with_fields old (put_in n (if b then Some v else Some v) (fields old))
    at true = refl
    at false = refl

-- the values of a list, and the pairs of a map
pub put_many : (k : Kind) (n : ℕ) (hs : List Held) (old new : Content) → (hs ≡ [] → ⊥) → new ≡ with_fields old (with_value n (val_of (held.Many hs)) (fields old))
    → AreElements types_shape k (vals_of (map val_of hs)) → Puts Repeated false k n (Some (many (vals_of (map val_of hs)))) old new
put_many k n [] old new some e all = absurd (some refl)
put_many k n (h ∷ hs) old new some e all =
    put_value Repeated false k n (many (vals_of (map val_of (h ∷ hs)))) (val_of (held.Many (h ∷ hs))) old new refl (refl, refl, all) (val_of-Many (h ∷ hs)) e

pub put_keyed : (key k : Kind) (n : ℕ) (ps : List Pair) (old new : Content) → (ps ≡ [] → ⊥) → new ≡ with_fields old (with_value n (val_of (held.Pairs ps)) (fields old))
    → ArePairs types_shape key k (pairs_of (map pair_of ps)) → Puts (Map key) false k n (Some (keyed (pairs_of (map pair_of ps)))) old new
put_keyed key k n [] old new some e all = absurd (some refl)
put_keyed key k n (p ∷ ps) old new some e all =
    put_value (Map key) false k n (keyed (pairs_of (map pair_of (p ∷ ps)))) (val_of (held.Pairs (p ∷ ps))) old new refl (refl, (key, refl, all)) (val_of-Pairs (p ∷ ps)) e

-- ---- all values

pub put_first : {c : Cardinality} {b : Bool} {k : Kind} {v : Option Val} {old new : Content} {ks : List Rec} → old ≡ content no_fields ks → Puts c b k 1 v old new
    → new ≡ content (with_field 1 (shown types_shape b k v) no_fields) ks
put_first {c} {b} {k} {v} {old} {new} {ks} is puts = puts.put ∙ rw is (at (shown types_shape b k v))
  where
    at : (o : Option Val) → content (put_in 1 o no_fields) ks ≡ content (with_field 1 o no_fields) ks
    at None = refl
    at (Some w) = refl

pub put_second : {c : Cardinality} {b : Bool} {k : Kind} {v : Option Val} {old new : Content} {ks : List Rec} (u : Option Val) → old ≡ content (with_field 1 u no_fields) ks → Puts c b k 2 v old new
    → new ≡ content (with_field 1 u (with_field 2 (shown types_shape b k v) no_fields)) ks
put_second {c} {b} {k} {v} {old} {new} {ks} u is puts = puts.put ∙ rw is (at u (shown types_shape b k v))
  where
    at : (u o : Option Val) → content (put_in 2 o (with_field 1 u no_fields)) ks ≡ content (with_field 1 u (with_field 2 o no_fields)) ks
    at None None = refl
    at None (Some w) = refl
    at (Some x) None = refl
    at (Some x) (Some w) = refl

-- all values are put in, and the kept records stand beside them
pub made : (t : ℕ) (gs : List FieldShape) (vs : List (Option Val)) (rs : List Rec) (contents : Contents) → fields_of types_shape t ≡ gs → AreRead gs → AreValues gs vs
    → has_one_member gs (fields_from gs vs) ≡ true → content_of contents ≡ content (fields_from gs vs) (filter (is_writable_beside (numbers gs)) rs)
    → are_fit (filter (is_writable_beside (numbers gs)) rs) ≡ true → Holds t (record_content gs vs rs) contents
made t gs vs rs contents type read values one is fit =
    let kept = kept_is gs rs read in
    record { content = is ∙ ap (content (fields_from gs vs)) (sym kept); sound = content_sound t gs vs rs type values one (rw kept fit) }

pub made_all : {E : Type 0} (t : ℕ) (gs : List FieldShape) (vs : List (Option Val)) (rs : List Rec) (r : Result Contents E) → fields_of types_shape t ≡ gs → AreRead gs → AreValues gs vs
    → has_one_member gs (fields_from gs vs) ≡ true → IfOk r (λ contents. content_of contents ≡ content (fields_from gs vs) (filter (is_writable_beside (numbers gs)) rs))
    → OnOk r (are_fit (filter (is_writable_beside (numbers gs)) rs) ≡ true) → IfOk r (Holds t (record_content gs vs rs))
made_all t gs vs rs (Ok contents) type read values one is fit = made t gs vs rs contents type read values one is fit
made_all t gs vs rs (Err e) type read values one is fit = tt

-- the values of a list as others than trees
pub puts_some : {n : ℕ} {old new : Content} (k : Kind) (hs : List Held) (vs : List Val) → map val_of hs ≡ vs → AreElements types_shape k (vals_of vs)
    → ((j : Kind) → AreElements types_shape j (vals_of (map val_of hs)) → Puts Repeated false j n (Some (many (vals_of (map val_of hs)))) old new) → Puts Repeated false k n (Some (many (vals_of vs))) old new
puts_some {n} {old} {new} k hs vs e all h =
    subst (λ (ws : List Val). Puts Repeated false k n (Some (many (vals_of ws))) old new) e (h k (subst (λ (ws : List Val). AreElements types_shape k (vals_of ws)) (sym e) all))

pub puts_pairs : {n : ℕ} {old new : Content} (key k : Kind) (ps : List Pair) (qs : List (Key × Val)) → map pair_of ps ≡ qs → ArePairs types_shape key k (pairs_of qs)
    → (ArePairs types_shape key k (pairs_of (map pair_of ps)) → Puts (Map key) false k n (Some (keyed (pairs_of (map pair_of ps)))) old new) → Puts (Map key) false k n (Some (keyed (pairs_of qs))) old new
puts_pairs {n} {old} {new} key k ps qs e all h =
    subst (λ (ws : List (Key × Val)). Puts (Map key) false k n (Some (keyed (pairs_of ws))) old new) e (h (subst (λ (ws : List (Key × Val)). ArePairs types_shape key k (pairs_of ws)) (sym e) all))

-- a type of one field, and one of two
pub one_made : {v : Option Val} {start : Content} (t : ℕ) (g : FieldShape) (rs : List Rec) (contents : Contents) → fields_of types_shape t ≡ g ∷ [] → AreRead (g ∷ []) → g.number ≡ 1
    → has_one_member (g ∷ []) (fields_from (g ∷ []) (v ∷ [])) ≡ true → start ≡ content no_fields (filter (is_writable_beside (1 ∷ [])) rs) → Puts g.cardinality g.presence g.kind 1 v start (content_of contents)
    → are_fit (filter (is_writable_beside (1 ∷ [])) rs) ≡ true → Holds t (record_content (g ∷ []) (v ∷ []) rs) contents
one_made {v} {start} t g rs contents type read first one is puts fit =
    made t (g ∷ []) (v ∷ []) rs contents type read (renamed g v puts.value, tt) one (rw first (put_first is puts)) (rw first fit)

pub two_made : {u v : Option Val} {start mid : Content} (t : ℕ) (g h : FieldShape) (rs : List Rec) (contents : Contents) → fields_of types_shape t ≡ g ∷ h ∷ [] → AreRead (g ∷ h ∷ [])
    → g.number ≡ 1 → h.number ≡ 2 → has_one_member (g ∷ h ∷ []) (fields_from (g ∷ h ∷ []) (u ∷ v ∷ [])) ≡ true → start ≡ content no_fields (filter (is_writable_beside (1 ∷ 2 ∷ [])) rs)
    → Puts g.cardinality g.presence g.kind 1 u start mid → Puts h.cardinality h.presence h.kind 2 v mid (content_of contents) → are_fit (filter (is_writable_beside (1 ∷ 2 ∷ [])) rs) ≡ true
    → Holds t (record_content (g ∷ h ∷ []) (u ∷ v ∷ []) rs) contents
two_made {u} {v} {start} {mid} t g h rs contents type read first second one is puts more fit =
    made t (g ∷ h ∷ []) (u ∷ v ∷ []) rs contents type read (renamed g u puts.value, (renamed h v more.value, tt)) one
    (rw (first, second) (put_second (shown types_shape g.presence g.kind u) (put_first is puts) more)) (rw (first, second) fit)
