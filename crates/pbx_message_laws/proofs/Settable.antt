-- Values that a field may be set to, and those that it may have.
use Rattle.std.proofs.Common.{◌≡◌, inl, inr, Bool, true, false, if◌then◌else◌, Option, Some, None, refl, sym, subst}
use Rattle.pbx_content.specs.declared.shape.Kind.{Kind}
use Rattle.pbx_content.specs.declared.shape.Cardinality.{Cardinality}
use Rattle.pbx_content.specs.declared.shape.Cardinality.TheVariants.{Singular, Repeated, Map}
use Rattle.pbx_content.specs.declared.shape.Shape.{Shape}
use Rattle.pbx_content.specs.declared.shape.FieldShape.{FieldShape}
use Rattle.pbx_content.specs.Content.{content, Val, number, truth, text, octets, message, many, keyed, Vals, no_vals, val, Pairs, no_pairs, pair}
use Rattle.pbx_content.specs.Shape.{fields_of, field_of, is_float}
use Rattle.pbx_content.specs.Meaning.{is_default, shown}
use Rattle.pbx_content.specs.Sound.{IsShown, IsSoundAt, IsElement, AreElements, ArePairs}
use Rattle.pbx_content.proofs.WrittenNumbers.{number_numeral}
use Rattle.pbx_content.proofs.SoundValues.{get_sound}
use Rattle.pbx_message_laws.specs.Fields.{keeps_default, value_kept}
use Rattle.pbx_message_laws.specs.Settable.{IsListOf, IsMapOf, IsSettableBy, IsSettable}
use Rattle.pbx_message_laws.specs.Laws.{SoundIsSettable}

-- ---- what is kept of a value that may be set

of_element : (shape : Shape) (f : FieldShape) (v : Val) → f.cardinality ≡ Singular → IsShown shape f v → IsElement shape f.kind v
    → IsSoundAt shape (Some f) v
of_element shape f (number z) c s h = (c, s, h)
of_element shape f (truth b) c s h = (c, s, h)
of_element shape f (text t) c s h = (c, s, h.0, h.1)
of_element shape f (octets b) c s h = (c, s, h)
of_element shape f (message d) c s h = (c, h)
of_element shape f (many vs) c s h = absurd h
of_element shape f (keyed ps) c s h = absurd h

-- without presence a default is not kept
of_shown : (shape : Shape) (k : Kind) (v w : Val) → shown shape false k (Some v) ≡ Some w → (v ≡ w) × (is_default shape k v ≡ false)
of_shown shape k v w e = at (is_default shape k v) e
  where
    at : (b : Bool) → (if b then None else Some v) ≡ Some w → (v ≡ w) × (b ≡ false)
    at true e = absurd cc
    at false e = (cc, refl)

single_kept : (shape : Shape) (f : FieldShape) (v w : Val) → f.cardinality ≡ Singular → shown shape f.presence f.kind (Some v) ≡ Some w
    → IsElement shape f.kind v → IsSoundAt shape (Some f) w
single_kept shape f v w c e h = at f.presence refl e
  where
    at : (b : Bool) → f.presence ≡ b → shown shape b f.kind (Some v) ≡ Some w → IsSoundAt shape (Some f) w
    at true p e = let is : v ≡ w = cc in subst (IsSoundAt shape (Some f)) is (of_element shape f v c (inl p) h)
    at false p e = let is = of_shown shape f.kind v w e in subst (IsSoundAt shape (Some f)) is.0 (of_element shape f v c (inr is.1) h)

list_kept : (shape : Shape) (f : FieldShape) (v w : Val) → f.cardinality ≡ Repeated → shown shape false f.kind (Some v) ≡ Some w
    → IsListOf shape f.kind v → IsSoundAt shape (Some f) w
list_kept shape f (many vs) w c e h = let is = of_shown shape f.kind (many vs) w e in subst (IsSoundAt shape (Some f)) is.0 (c, is.1, h)
list_kept shape f (number z) w c e h = absurd h
list_kept shape f (truth b) w c e h = absurd h
list_kept shape f (text t) w c e h = absurd h
list_kept shape f (octets b) w c e h = absurd h
list_kept shape f (message d) w c e h = absurd h
list_kept shape f (keyed ps) w c e h = absurd h

map_kept : (shape : Shape) (f : FieldShape) (key : Kind) (v w : Val) → f.cardinality ≡ Map key → shown shape false f.kind (Some v) ≡ Some w
    → IsMapOf shape key f.kind v → IsSoundAt shape (Some f) w
map_kept shape f key (keyed ps) w c e h = let is = of_shown shape f.kind (keyed ps) w e in subst (IsSoundAt shape (Some f)) is.0 (is.1, (key, c, h))
map_kept shape f key (number z) w c e h = absurd h
map_kept shape f key (truth b) w c e h = absurd h
map_kept shape f key (text t) w c e h = absurd h
map_kept shape f key (octets b) w c e h = absurd h
map_kept shape f key (message d) w c e h = absurd h
map_kept shape f key (many vs) w c e h = absurd h

pub kept_sound : (shape : Shape) (f : FieldShape) (v w : Val) → IsSettable shape f v → value_kept shape f v ≡ Some w → IsSoundAt shape (Some f) w
kept_sound shape f v w h e = at f.cardinality refl h e
  where
    at : (c : Cardinality) → f.cardinality ≡ c → IsSettableBy shape c f.kind v → shown shape (keeps_default f.presence c) f.kind (Some v) ≡ Some w
        → IsSoundAt shape (Some f) w
    at Singular c h e = single_kept shape f v w c e h
    at Repeated c h e = list_kept shape f v w c e h
    at (Map key) c h e = map_kept shape f key v w c e h

-- ---- what may be set of what is there

element_read : (shape : Shape) (k : Kind) (v : Val) → IsElement shape k v → is_float k ≡ false
element_read shape k (number z) h = (number_numeral k z h).read
element_read shape k (truth b) h = rw h refl
element_read shape k (text s) h = rw h.0 refl
element_read shape k (octets b) h = rw h refl
element_read shape k (message c) h = rw h.1 refl
element_read shape k (many vs) h = absurd h
element_read shape k (keyed ps) h = absurd h

-- the field is of no float kind, and may be set to the value
abbrev IsRead : Shape → FieldShape → Val → Type 0
IsRead shape f v = (is_float f.kind ≡ false) × IsSettable shape f v

of_cardinality : (shape : Shape) (f : FieldShape) (c : Cardinality) (v : Val) → f.cardinality ≡ c → is_float f.kind ≡ false → IsSettableBy shape c f.kind v
    → IsRead shape f v
of_cardinality shape f c v is plain h = (plain, subst (λ (d : Cardinality). IsSettableBy shape d f.kind v) (sym is) h)

many_read : (shape : Shape) (k : Kind) (vs : Vals) → is_default shape k (many vs) ≡ false → AreElements shape k vs → is_float k ≡ false
many_read shape k no_vals e h = absurd cc
many_read shape k (val v vs) e h = element_read shape k v h.0

keyed_read : (shape : Shape) (key k : Kind) (ps : Pairs) → is_default shape k (keyed ps) ≡ false → ArePairs shape key k ps → is_float k ≡ false
keyed_read shape key k no_pairs e h = absurd cc
keyed_read shape key k (pair l v ps) e h = element_read shape k v h.1

single_read : (shape : Shape) (f : FieldShape) (v : Val) → f.cardinality ≡ Singular → IsElement shape f.kind v → IsRead shape f v
single_read shape f v c h = of_cardinality shape f Singular v c (element_read shape f.kind v h) h

settable_at : (shape : Shape) (f : FieldShape) (v : Val) → IsSoundAt shape (Some f) v → IsRead shape f v
settable_at shape f (number z) h = single_read shape f (number z) h.0 h.2
settable_at shape f (truth b) h = single_read shape f (truth b) h.0 h.2
settable_at shape f (text s) h = single_read shape f (text s) h.0 (h.2, h.3)
settable_at shape f (octets b) h = single_read shape f (octets b) h.0 h.2
settable_at shape f (message c) h = single_read shape f (message c) h.0 h.1
settable_at shape f (many vs) h = of_cardinality shape f Repeated (many vs) h.0 (many_read shape f.kind vs h.1 h.2) h.2
settable_at shape f (keyed ps) h = of_cardinality shape f (Map h.1.0) (keyed ps) h.1.1 (keyed_read shape h.1.0 f.kind ps h.0 h.1.2) h.1.2

pub sound_is_settable : SoundIsSettable
sound_is_settable shape t n (content fs ks) v h e = at (field_of n (fields_of shape t)) refl (get_sound shape (fields_of shape t) n fs v h.1 e).0
  where
    at : (o : Option FieldShape) → field_of n (fields_of shape t) ≡ o → IsSoundAt shape o v
        → (f : FieldShape) × (field_of n (fields_of shape t) ≡ Some f) × (is_float f.kind ≡ false) × IsSettable shape f v
    at None d s = absurd s
    at (Some f) d s = let is = settable_at shape f v s in (f, d, is.0, is.1)
