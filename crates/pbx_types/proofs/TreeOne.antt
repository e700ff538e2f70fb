-- No two exact Values, Structs and ListValues hold the same content.
use Rattle.std.proofs.Common.{◌≡◌, ℕ, ℤ, Bool, true, false, List, [], ◌∷◌, map, Option, Some, None, option_map, refl, sym, ap, ◌∙◌, subst, if◌then◌else◌}
use Rattle.std.specs.Prelude.{◌&&◌, is_some}
use Rattle.pbx_wire.specs.Text.{all_true}
use Rattle.pbx_wire.proofs.Written.{both}
use Rattle.pbx_wire.specs.declared.rec.Rec.{Rec}
use Rattle.pbx_content.specs.declared.shape.FieldShape.{FieldShape}
use Rattle.pbx_content.specs.declared.shape.Kind.{Kind}
use Rattle.pbx_content.specs.declared.shape.Kind.TheVariants as kind
use Rattle.pbx_content.specs.Content.{Content, fields, Fields, no_fields, Key, text_key, Val, number, truth, text, message, many, keyed, vals_of, pairs_of}
use Rattle.pbx_content.specs.Meaning.{shown}
use Rattle.pbx_content.specs.Shape.{fields_of}
use Rattle.pbx_content.proofs.WrittenOrder.{AreAbove, fields_above}
use Rattle.pbx_desc.specs.Exact.{are_writable, are_exact, is_exact_if}
use Rattle.pbx_desc_shapes.specs.TypesShape.{types_shape, struct_fields, value_fields, list_fields}
use Rattle.pbx_desc_shapes.proofs.WellKnownProper.{types_shape_proper}
use Rattle.pbx_types.specs.Content.{are_absent, last_member, struct_content, list_content, value_content}
use Rattle.pbx_types.specs.Exact.{are_false, has_at_most_one, is_exact_list_step, is_exact_struct_step, is_exact_value_step, is_exact_struct, is_exact_list, is_exact_value}
use Rattle.pbx_types.specs.FieldContent.{fields_from, record_content}
use Rattle.pbx_types.specs.Layers.{exact_under, value_message, value_pair}
use Rattle.pbx_types.specs.declared.tree.ListValue.{ListValue, out-ListValue, roll-ListValue, roll-out-ListValue, fold-roll-ListValue}
use Rattle.pbx_types.specs.declared.tree.ListValue.TheOpen.{ListValue-F, Struct-F, Value-F}
use Rattle.pbx_types.specs.declared.tree.Struct.{Struct, out-Struct, roll-Struct, roll-out-Struct, fold-roll-Struct}
use Rattle.pbx_types.specs.declared.tree.Value.{Value, out-Value, roll-Value, roll-out-Value, fold-roll-Value, map-Value, ind-Value}
use Rattle.pbx_types.specs.declared.tree.Struct.{ind-Struct}
use Rattle.pbx_types.specs.declared.tree.ListValue.{ind-ListValue}
use Rattle.pbx_types.proofs.Fields.{ascend_from}
use Rattle.pbx_types.proofs.One.{first_same, unknown_one}
use Rattle.pbx_types.proofs.Reading.{struct_made, list_made, value_rolled, members, under_map, told_is}
use Rattle.pbx_types.proofs.Types.{value_type}

-- ---- values of fields

vals_same : (vs ws : List Val) → vals_of vs ≡ vals_of ws → vs ≡ ws
vals_same [] [] e = refl
vals_same [] (w ∷ ws) e = absurd cc
vals_same (v ∷ vs) [] e = absurd cc
vals_same (v ∷ vs) (w ∷ ws) e =
    let first : v ≡ w = cc in
    let rest = vals_same vs ws (let same : vals_of vs ≡ vals_of ws = cc in same) in
    λ i. first i ∷ rest i

list_same : (k : Kind) (vs ws : List Val) → shown types_shape false k (Some (many (vals_of vs))) ≡ shown types_shape false k (Some (many (vals_of ws))) → vs ≡ ws
list_same k [] [] e = refl
list_same k [] (w ∷ ws) e = absurd cc
list_same k (v ∷ vs) [] e = absurd cc
list_same k (v ∷ vs) (w ∷ ws) e = vals_same (v ∷ vs) (w ∷ ws) (let same : vals_of (v ∷ vs) ≡ vals_of (w ∷ ws) = cc in same)

pairs_same : (ps qs : List (Key × Val)) → pairs_of ps ≡ pairs_of qs → ps ≡ qs
pairs_same [] [] e = refl
pairs_same [] (q ∷ qs) e = absurd cc
pairs_same (p ∷ ps) [] e = absurd cc
pairs_same (p ∷ ps) (q ∷ qs) e =
    let key : p.0 ≡ q.0 = cc in
    let held : p.1 ≡ q.1 = cc in
    let rest = pairs_same ps qs (let same : pairs_of ps ≡ pairs_of qs = cc in same) in
    λ i. (key i, held i) ∷ rest i

map_same : (k : Kind) (ps qs : List (Key × Val)) → shown types_shape false k (Some (keyed (pairs_of ps))) ≡ shown types_shape false k (Some (keyed (pairs_of qs))) → ps ≡ qs
map_same k [] [] e = refl
map_same k [] (q ∷ qs) e = absurd cc
map_same k (p ∷ ps) [] e = absurd cc
map_same k (p ∷ ps) (q ∷ qs) e = pairs_same (p ∷ ps) (q ∷ qs) (let same : pairs_of (p ∷ ps) ≡ pairs_of (q ∷ qs) = cc in same)

-- the fields show the same of both rows
abbrev AreAlike : List FieldShape → List (Option Val) → List (Option Val) → Type 0
AreAlike [] vs ws = Unit {0}
AreAlike (g ∷ gs) [] ws = Unit {0}
AreAlike (g ∷ gs) (v ∷ vs) [] = Unit {0}
AreAlike (g ∷ gs) (v ∷ vs) (w ∷ ws) = (shown types_shape g.presence g.kind v ≡ shown types_shape g.presence g.kind w) × AreAlike gs vs ws

all_alike : (n : ℕ) (gs : List FieldShape) (vs ws : List (Option Val)) → AreAbove n gs → fields_from gs vs ≡ fields_from gs ws → AreAlike gs vs ws
all_alike n [] vs ws a e = tt
all_alike n (g ∷ gs) [] ws a e = tt
all_alike n (g ∷ gs) (v ∷ vs) [] a e = tt
all_alike n (g ∷ gs) (v ∷ vs) (w ∷ ws) a e =
    let same =
    first_same g.number (shown types_shape g.presence g.kind v) (shown types_shape g.presence g.kind w) (fields_from gs vs) (fields_from gs ws) (ascend_from g.number gs vs a.2) (ascend_from g.number gs ws a.2) e
    in
    (same.0, all_alike g.number gs vs ws a.2 same.1)

-- ---- members

shows : (k : Kind) (v : Option Val) → shown types_shape true k v ≡ v
shows k None = refl
shows k (Some v) = refl

member_same : (k : Kind) (v w : Option Val) → shown types_shape true k v ≡ shown types_shape true k w → v ≡ w
member_same k v w e = sym (shows k v) ∙ e ∙ shows k w

none_there : (vs : List (Option Val)) → are_false (map is_some vs) ≡ true → (are_absent vs ≡ true) × (last_member vs ≡ vs)
none_there [] h = (refl, refl)
none_there (None ∷ vs) h = let rest = none_there vs h in (rw rest.0 refl, rw (rest.0, rest.1) refl)
none_there (Some v ∷ vs) h = absurd cc

last_again : (vs : List (Option Val)) → has_at_most_one (map is_some vs) ≡ true → last_member vs ≡ vs
last_again [] h = refl
last_again (None ∷ vs) h = rw (last_again vs h) (at (are_absent vs))
  where
    at : (b : Bool) → ◌≡◌ {A = List (Option Val)} ((if b then None else None) ∷ vs) (None ∷ vs)
    at true = refl
    at false = refl
last_again (Some v ∷ vs) h = let none = none_there vs h in rw (none.0, none.1) refl

some_map : {X : Type 0} (f : X → Val) (o : Option X) → is_some (option_map f o) ≡ is_some o
some_map f None = refl
some_map f (Some x) = refl

some_told : {X : Type 0} (f : X → Bool) (o : Option X) → is_some (option_map f o) ≡ is_some o
some_told f None = refl
some_told f (Some x) = refl

some_held : {X : Type 0} (f : X → Content) (o : Option X) → is_some (option_map message (option_map f o)) ≡ is_some o
some_held f None = refl
some_held f (Some x) = refl

told_if : {X : Type 0} (f : X → Bool) (o : Option X) → is_exact_if (λ (b : Bool). b) (option_map f o) ≡ is_exact_if f o
told_if f None = refl
told_if f (Some x) = refl

numbers_same : (a b : Option ℤ) → option_map number a ≡ option_map number b → a ≡ b
numbers_same None None e = refl
numbers_same None (Some b) e = absurd cc
numbers_same (Some a) None e = absurd cc
numbers_same (Some a) (Some b) e = let here : a ≡ b = cc in ap Some here

texts_same : (a b : Option (List ℕ)) → option_map text a ≡ option_map text b → a ≡ b
texts_same None None e = refl
texts_same None (Some b) e = absurd cc
texts_same (Some a) None e = absurd cc
texts_same (Some a) (Some b) e = let here : a ≡ b = cc in ap Some here

truths_same : (a b : Option Bool) → option_map truth a ≡ option_map truth b → a ≡ b
truths_same None None e = refl
truths_same None (Some b) e = absurd cc
truths_same (Some a) None e = absurd cc
truths_same (Some a) (Some b) e = let here : a ≡ b = cc in ap Some here

-- ---- records that hold one another

-- an exact record that holds what this one does is this one
abbrev IsOne : {R : Type 0} → (R → Content) → (R → Bool) → R → Type 0
IsOne {R} f x a = (b : R) → x a ≡ true → x b ≡ true → f a ≡ f b → a ≡ b

-- the same of a record, if there is one
abbrev IsOneIf : {R : Type 0} → (R → Content) → (R → Bool) → Option R → Type 0
IsOneIf {R} f x a = (b : Option R) → is_exact_if x a ≡ true → is_exact_if x b ≡ true → option_map message (option_map f a) ≡ option_map message (option_map f b) → a ≡ b

none_one : {R : Type 0} (f : R → Content) (x : R → Bool) → IsOneIf f x None
none_one f x None p q e = refl
none_one f x (Some b) p q e = absurd cc

some_one : {R : Type 0} (f : R → Content) (x : R → Bool) (a : R) → IsOne f x a → IsOneIf f x (Some a)
some_one f x a one None p q e = absurd cc
some_one f x a one (Some b) p q e = let same : f a ≡ f b = cc in ap Some (one b p q same)

-- the same of Values in a row
abbrev AreOne : List Value → Type 0
AreOne vs = (ws : List Value) → are_exact is_exact_value vs ≡ true → are_exact is_exact_value ws ≡ true → map value_message vs ≡ map value_message ws → vs ≡ ws

values_one : {S : Type 0} (v : S → Value) → ((s : S) → IsOne value_content is_exact_value (v s)) → (ss : List S) → AreOne (map v ss)
values_one v one [] [] p q e = refl
values_one v one [] (w ∷ ws) p q e = absurd cc
values_one v one (s ∷ ss) [] p q e = absurd cc
values_one v one (s ∷ ss) (w ∷ ws) p q e =
    let ps = both (is_exact_value (v s)) (are_exact is_exact_value (map v ss)) p in
    let qs = both (is_exact_value w) (are_exact is_exact_value ws) q in
    let first : value_content (v s) ≡ value_content w = cc in
    let rest : map value_message (map v ss) ≡ map value_message ws = cc in
    let head = one s w ps.0 qs.0 first in
    let tail = values_one v one ss ws ps.1 qs.1 rest in
    λ i. head i ∷ tail i

-- the same of Values under names
abbrev AreOneUnder : List (List ℕ × Value) → Type 0
AreOneUnder fs = (gs : List (List ℕ × Value)) → are_exact exact_under fs ≡ true → are_exact exact_under gs ≡ true → map value_pair fs ≡ map value_pair gs → fs ≡ gs

fields_one : {S : Type 0} (v : S → Value) → ((s : S) → IsOne value_content is_exact_value (v s)) → (ss : List (List ℕ × S)) → AreOneUnder (map (λ (f : List ℕ × S). (f.0, v f.1)) ss)
fields_one v one [] [] p q e = refl
fields_one v one [] (g ∷ gs) p q e = absurd cc
fields_one v one (s ∷ ss) [] p q e = absurd cc
fields_one {S} v one (s ∷ ss) (g ∷ gs) p q e =
    let rest_of : List (List ℕ × Value) = map (λ (f : List ℕ × S). (f.0, v f.1)) ss in
    let ps = both (is_exact_value (v s.1)) (are_exact exact_under rest_of) p in
    let qs = both (exact_under g) (are_exact exact_under gs) q in
    let pair : ◌≡◌ {A = Key × Val} (value_pair (s.0, v s.1)) (value_pair g) = cc in
    let rest : map value_pair rest_of ≡ map value_pair gs = cc in
    let key : text_key s.0 ≡ text_key g.0 = ap (λ (p : Key × Val). p.0) pair in
    let held : message (value_content (v s.1)) ≡ message (value_content g.1) = ap (λ (p : Key × Val). p.1) pair in
    let name : s.0 ≡ g.0 = cc in
    let first : value_content (v s.1) ≡ value_content g.1 = cc in
    let head = one s.1 g.1 ps.0 qs.0 first in
    let tail = fields_one v one ss gs ps.1 qs.1 rest in
    λ i. (name i, head i) ∷ tail i

-- ---- one layer

rolled_list : (o p : ListValue-F ListValue Struct Value) → AreOne o.values → is_exact_list (roll-ListValue o) ≡ true → is_exact_list (roll-ListValue p) ≡ true → list_content (roll-ListValue o) ≡ list_content (roll-ListValue p)
    → roll-ListValue o ≡ roll-ListValue p
rolled_list o p inner x y e =
    let xs = both (are_exact is_exact_value o.values) (are_writable list_fields o.unknown) (sym (fold-roll-ListValue Bool Bool Bool is_exact_list_step is_exact_struct_step is_exact_value_step o) ∙ x) in
    let ys = both (are_exact is_exact_value p.values) (are_writable list_fields p.unknown) (sym (fold-roll-ListValue Bool Bool Bool is_exact_list_step is_exact_struct_step is_exact_value_step p) ∙ y) in
    let vs : List (Option Val) = Some (many (vals_of (map value_message o.values))) ∷ [] in
    let ws : List (Option Val) = Some (many (vals_of (map value_message p.values))) ∷ [] in
    let same : record_content list_fields vs o.unknown ≡ record_content list_fields ws p.unknown = sym (list_made o.values o.unknown) ∙ e ∙ list_made p.values p.unknown in
    let alike = first_same 1 (shown types_shape false (kind.Message 6) (Some (many (vals_of (map value_message o.values))))) (shown types_shape false (kind.Message 6) (Some (many (vals_of (map value_message p.values))))) no_fields no_fields tt tt (ap fields same) in
    let values = inner p.values xs.0 ys.0 (list_same (kind.Message 6) (map value_message o.values) (map value_message p.values) alike.0) in
    let unknown = unknown_one list_fields vs ws o.unknown p.unknown xs.1 ys.1 same in
    λ i. roll-ListValue (record { values = values i; unknown = unknown i })

struct_told : (o : Struct-F ListValue Struct Value) → is_exact_struct (roll-Struct o) ≡ (are_exact exact_under o.fields && are_writable struct_fields o.unknown)
struct_told o =
    fold-roll-Struct Bool Bool Bool is_exact_list_step is_exact_struct_step is_exact_value_step o
    ∙ ap (λ (bs : List Bool). all_true bs && are_writable struct_fields o.unknown) (under_map o.fields)

rolled_struct : (o p : Struct-F ListValue Struct Value) → AreOneUnder o.fields → is_exact_struct (roll-Struct o) ≡ true → is_exact_struct (roll-Struct p) ≡ true → struct_content (roll-Struct o) ≡ struct_content (roll-Struct p)
    → roll-Struct o ≡ roll-Struct p
rolled_struct o p inner x y e =
    let xs = both (are_exact exact_under o.fields) (are_writable struct_fields o.unknown) (sym (struct_told o) ∙ x) in
    let ys = both (are_exact exact_under p.fields) (are_writable struct_fields p.unknown) (sym (struct_told p) ∙ y) in
    let vs : List (Option Val) = Some (keyed (pairs_of (map value_pair o.fields))) ∷ [] in
    let ws : List (Option Val) = Some (keyed (pairs_of (map value_pair p.fields))) ∷ [] in
    let same : record_content struct_fields vs o.unknown ≡ record_content struct_fields ws p.unknown = sym (struct_made o.fields o.unknown) ∙ e ∙ struct_made p.fields p.unknown in
    let alike = first_same 1 (shown types_shape false (kind.Message 6) (Some (keyed (pairs_of (map value_pair o.fields))))) (shown types_shape false (kind.Message 6) (Some (keyed (pairs_of (map value_pair p.fields))))) no_fields no_fields tt tt (ap fields same) in
    let under = inner p.fields xs.0 ys.0 (map_same (kind.Message 6) (map value_pair o.fields) (map value_pair p.fields) alike.0) in
    let unknown = unknown_one struct_fields vs ws o.unknown p.unknown xs.1 ys.1 same in
    λ i. roll-Struct (record { fields = under i; unknown = unknown i })

-- what an exact Value says of its parts
record IsToldValue (o : Value-F ListValue Struct Value) : Type 0 where
  one : has_at_most_one (map is_some (members o.null_value o.string_value o.bool_value o.struct_value o.list_value)) ≡ true
  struct_value : is_exact_if is_exact_struct o.struct_value ≡ true
  list_value : is_exact_if is_exact_list o.list_value ≡ true
  written : are_writable value_fields o.unknown ≡ true

value_told : (o : Value-F ListValue Struct Value) → is_exact_value (roll-Value o) ≡ true → IsToldValue o
value_told o x =
    let z = o.null_value in
    let t = o.string_value in
    let b = o.bool_value in
    let s = o.struct_value in
    let l = o.list_value in
    let told : is_exact_value_step (record { null_value = z; string_value = t; bool_value = b; struct_value = option_map is_exact_struct s; list_value = option_map is_exact_list l; unknown = o.unknown }) ≡ true =
    sym (ap is_exact_value_step (told_is z t b s l o.unknown)) ∙ sym (fold-roll-Value Bool Bool Bool is_exact_list_step is_exact_struct_step is_exact_value_step o) ∙ x
    in
    let first = both (has_at_most_one (is_some z ∷ is_some t ∷ is_some b ∷ is_some (option_map is_exact_struct s) ∷ is_some (option_map is_exact_list l) ∷ [])) _ told in
    let second = both (is_exact_if (λ (b : Bool). b) (option_map is_exact_struct s)) _ first.1 in
    let third = both (is_exact_if (λ (b : Bool). b) (option_map is_exact_list l)) (are_writable value_fields o.unknown) second.1 in
    record {
      one = rw (some_map number z, some_map text t, some_map truth b, some_held struct_content s, some_held list_content l) (rw (some_told is_exact_struct s, some_told is_exact_list l) at first.0);
      struct_value = sym (told_if is_exact_struct s) ∙ second.0;
      list_value = sym (told_if is_exact_list l) ∙ third.0;
      written = third.1;
    }

-- the records in a Value are such
record AreInner (o : Value-F ListValue Struct Value) : Type 0 where
  struct_value : IsOneIf struct_content is_exact_struct o.struct_value
  list_value : IsOneIf list_content is_exact_list o.list_value

rolled_value : (o p : Value-F ListValue Struct Value) → AreInner o → is_exact_value (roll-Value o) ≡ true → is_exact_value (roll-Value p) ≡ true → value_content (roll-Value o) ≡ value_content (roll-Value p) → roll-Value o ≡ roll-Value p
rolled_value o p inner x y e =
    let a = value_told o x in
    let b = value_told p y in
    let ms = members o.null_value o.string_value o.bool_value o.struct_value o.list_value in
    let ns = members p.null_value p.string_value p.bool_value p.struct_value p.list_value in
    let made : value_content (roll-Value o) ≡ record_content value_fields ms o.unknown =
    value_rolled o.null_value o.string_value o.bool_value o.struct_value o.list_value o.unknown ∙ ap (λ (vs : List (Option Val)). record_content value_fields vs o.unknown) (last_again ms a.one)
    in
    let other : value_content (roll-Value p) ≡ record_content value_fields ns p.unknown =
    value_rolled p.null_value p.string_value p.bool_value p.struct_value p.list_value p.unknown ∙ ap (λ (vs : List (Option Val)). record_content value_fields vs p.unknown) (last_again ns b.one)
    in
    let same : record_content value_fields ms o.unknown ≡ record_content value_fields ns p.unknown = sym made ∙ e ∙ other in
    let alike = all_alike 0 value_fields ms ns (subst (AreAbove 0) value_type (fields_above types_shape 6 types_shape_proper)) (ap fields same) in
    let null_value = numbers_same o.null_value p.null_value (member_same kind.Int32 _ _ alike.0) in
    let string_value = texts_same o.string_value p.string_value (member_same kind.String _ _ alike.1.0) in
    let bool_value = truths_same o.bool_value p.bool_value (member_same kind.Bool _ _ alike.1.1.0) in
    let struct_value = inner.struct_value p.struct_value a.struct_value b.struct_value (member_same (kind.Message 4) _ _ alike.1.1.1.0) in
    let list_value = inner.list_value p.list_value a.list_value b.list_value (member_same (kind.Message 7) _ _ alike.1.1.1.1.0) in
    let unknown = unknown_one value_fields ms ns o.unknown p.unknown a.written b.written same in
    λ i. roll-Value (record { null_value = null_value i; string_value = string_value i; bool_value = bool_value i; struct_value = struct_value i; list_value = list_value i; unknown = unknown i })

-- ---- any record

list_case : (o : ListValue-F ListValue Struct Value) → AreOne o.values → IsOne list_content is_exact_list (roll-ListValue o)
list_case o inner b =
    subst (λ (m : ListValue). is_exact_list (roll-ListValue o) ≡ true → is_exact_list m ≡ true → list_content (roll-ListValue o) ≡ list_content m → roll-ListValue o ≡ m) (roll-out-ListValue b)
    (rolled_list o (out-ListValue b) inner)

struct_case : (o : Struct-F ListValue Struct Value) → AreOneUnder o.fields → IsOne struct_content is_exact_struct (roll-Struct o)
struct_case o inner b =
    subst (λ (m : Struct). is_exact_struct (roll-Struct o) ≡ true → is_exact_struct m ≡ true → struct_content (roll-Struct o) ≡ struct_content m → roll-Struct o ≡ m) (roll-out-Struct b)
    (rolled_struct o (out-Struct b) inner)

value_case : (o : Value-F ListValue Struct Value) → AreInner o → IsOne value_content is_exact_value (roll-Value o)
value_case o inner b =
    subst (λ (m : Value). is_exact_value (roll-Value o) ≡ true → is_exact_value m ≡ true → value_content (roll-Value o) ≡ value_content m → roll-Value o ≡ m) (roll-out-Value b)
    (rolled_value o (out-Value b) inner)

inner_of : {L S V : Type 0} (list : L → ListValue) (struct' : S → Struct) (value : V → Value) → ((s : L) → IsOne list_content is_exact_list (list s)) → ((s : S) → IsOne struct_content is_exact_struct (struct' s))
    → (z : Option ℤ) (t : Option (List ℕ)) (b : Option Bool) (s : Option S) (l : Option L) (rs : List Rec)
    → AreInner (map-Value L S V ListValue Struct Value list struct' value (record { null_value = z; string_value = t; bool_value = b; struct_value = s; list_value = l; unknown = rs }))
inner_of list struct' value ones others z t b None None rs = record { struct_value = none_one struct_content is_exact_struct; list_value = none_one list_content is_exact_list }
inner_of list struct' value ones others z t b None (Some l) rs = record { struct_value = none_one struct_content is_exact_struct; list_value = some_one list_content is_exact_list (list l) (ones l) }
inner_of list struct' value ones others z t b (Some s) None rs = record { struct_value = some_one struct_content is_exact_struct (struct' s) (others s); list_value = none_one list_content is_exact_list }
inner_of list struct' value ones others z t b (Some s) (Some l) rs = record { struct_value = some_one struct_content is_exact_struct (struct' s) (others s); list_value = some_one list_content is_exact_list (list l) (ones l) }

inner_all : {L S V : Type 0} (y : Value-F L S V) (list : L → ListValue) (struct' : S → Struct) (value : V → Value) → ((s : L) → IsOne list_content is_exact_list (list s)) → ((s : S) → IsOne struct_content is_exact_struct (struct' s))
    → AreInner (map-Value L S V ListValue Struct Value list struct' value y)
inner_all y list struct' value ones others = inner_of list struct' value ones others y.null_value y.string_value y.bool_value y.struct_value y.list_value y.unknown

pub value_one : (a b : Value) → is_exact_value a ≡ true → is_exact_value b ≡ true → value_content a ≡ value_content b → a ≡ b
value_one =
    ind-Value (IsOne list_content is_exact_list) (IsOne struct_content is_exact_struct) (IsOne value_content is_exact_value)
    (λ o inside e. list_case o (subst (λ (p : ListValue-F ListValue Struct Value). AreOne p.values) e (values_one (λ s. s.0) (λ s. s.1) inside.values)))
    (λ o inside e. struct_case o (subst (λ (p : Struct-F ListValue Struct Value). AreOneUnder p.fields) e (fields_one (λ s. s.0) (λ s. s.1) inside.fields)))
    (λ o inside e.
    value_case o
    (subst AreInner e (inner_all inside (λ s. s.0) (λ s. s.0) (λ s. s.0) (λ s. s.1) (λ s. s.1))))

pub struct_one : (a b : Struct) → is_exact_struct a ≡ true → is_exact_struct b ≡ true → struct_content a ≡ struct_content b → a ≡ b
struct_one =
    ind-Struct (IsOne list_content is_exact_list) (IsOne struct_content is_exact_struct) (IsOne value_content is_exact_value)
    (λ o inside e. list_case o (subst (λ (p : ListValue-F ListValue Struct Value). AreOne p.values) e (values_one (λ s. s.0) (λ s. s.1) inside.values)))
    (λ o inside e. struct_case o (subst (λ (p : Struct-F ListValue Struct Value). AreOneUnder p.fields) e (fields_one (λ s. s.0) (λ s. s.1) inside.fields)))
    (λ o inside e.
    value_case o
    (subst AreInner e (inner_all inside (λ s. s.0) (λ s. s.0) (λ s. s.0) (λ s. s.1) (λ s. s.1))))

pub list_one : (a b : ListValue) → is_exact_list a ≡ true → is_exact_list b ≡ true → list_content a ≡ list_content b → a ≡ b
list_one =
    ind-ListValue (IsOne list_content is_exact_list) (IsOne struct_content is_exact_struct) (IsOne value_content is_exact_value)
    (λ o inside e. list_case o (subst (λ (p : ListValue-F ListValue Struct Value). AreOne p.values) e (values_one (λ s. s.0) (λ s. s.1) inside.values)))
    (λ o inside e. struct_case o (subst (λ (p : Struct-F ListValue Struct Value). AreOneUnder p.fields) e (fields_one (λ s. s.0) (λ s. s.1) inside.fields)))
    (λ o inside e.
    value_case o
    (subst AreInner e (inner_all inside (λ s. s.0) (λ s. s.0) (λ s. s.0) (λ s. s.1) (λ s. s.1))))
