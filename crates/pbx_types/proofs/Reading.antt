-- Values that are taken out of a content, and lists and maps of them.
use Rattle.std.proofs.Common.{◌≡◌, ℕ, true, List, [], ◌∷◌, ◌++◌, map, Option, Some, None, option_map, refl, sym, ap, ◌∙◌, subst, rules}
use Rattle.std.specs.Prelude.{ℤ, Bool, ◌&&◌, is_some}
use Rattle.std.proofs.lemmas.List.{map-append}
use Rattle.pbx_wire.specs.Text.{all_true}
use Rattle.pbx_wire.specs.declared.rec.Rec.{Rec}
use Rattle.pbx_content.specs.declared.shape.FieldShape.{FieldShape}
use Rattle.pbx_content.specs.declared.shape.Kind.{Kind}
use Rattle.pbx_content.specs.declared.shape.Kind.TheVariants as kind
use Rattle.pbx_content.specs.Content.{Content, fields, kept, without, with_fields, get, Key, text_key, Val, number, truth, text, octets, message, many, keyed, vals_of, pairs_of}
use Rattle.pbx_content.specs.Meaning.{shown}
use Rattle.pbx_content.specs.Sound.{IsSound, IsElement, IsKeyOf}
use Rattle.pbx_content_codec.specs.declared.contents.Held.{Held}
use Rattle.pbx_content_codec.specs.declared.contents.Pair.{Pair}
use Rattle.pbx_content_codec.specs.declared.contents.Contents.{Contents}
use Rattle.pbx_content_codec.specs.View.{content_of, val_of, pair_of}
use Rattle.pbx_types.specs.Texts.{IsInOrder, with_entry}
use Rattle.pbx_types.proofs.TextPlaces.{with_last}
use Rattle.pbx_desc_shapes.specs.TypesShape.{types_shape, value_fields, struct_fields, list_fields}
use Rattle.pbx_types.specs.FieldContent.{record_content}
use Rattle.pbx_types.specs.Sound.{IsOf, MayBe}
use Rattle.pbx_types.specs.Taking.{IsAt, Takes}
use Rattle.pbx_desc.specs.Exact.{are_exact, are_writable, is_exact_if}
use Rattle.pbx_types.specs.Exact.{has_at_most_one, is_exact_list_step, is_exact_struct_step, is_exact_value_step, is_exact_struct, is_exact_list, is_exact_value}
use Rattle.pbx_types.proofs.Lists.{message_is, exact_more}
use Rattle.pbx_types.proofs.Sound.{AreAt, sound_at}
use Rattle.pbx_types.proofs.Types.{value_type}
use Rattle.pbx_types.proofs.Walk.{IsPlain, taken_is, message_may, get_left, kept_left}
use Rattle.pbx_types.specs.declared.tree.ListValue.{ListValue, roll-ListValue, fold-roll-ListValue}
use Rattle.pbx_types.specs.declared.tree.Struct.{Struct, roll-Struct, fold-roll-Struct}
use Rattle.pbx_types.specs.declared.tree.Value.{Value, roll-Value, fold-roll-Value, map-Value}
use Rattle.pbx_types.specs.Content.{last_member, list_step, struct_step, value_step, struct_content, list_content, value_content}
use Rattle.pbx_types.specs.Layers.{exact_under, value_message, value_pair, held_pair}
use Rattle.pbx_types.proofs.Members.{members_at, IsValue, value_whole}
use Rattle.pbx_types.proofs.Pairs.{AreNamed, order_from, named_front, named_last}
use Rattle.pbx_types.proofs.Trees.{mapped_is, pairs_map, values_map}

-- ---- records that are made

pub struct_made : (fs : List (List ℕ × Value)) (rs : List Rec) → struct_content (roll-Struct (record { fields = fs; unknown = rs })) ≡ record_content struct_fields (Some (keyed (pairs_of (map value_pair fs))) ∷ []) rs
struct_made fs rs =
    fold-roll-Struct Content Content Content list_step struct_step value_step (record { fields = fs; unknown = rs })
    ∙ ap (λ (ps : List (Key × Val)). record_content struct_fields (Some (keyed (pairs_of ps)) ∷ []) rs) (pairs_map fs)

pub list_made : (vs : List Value) (rs : List Rec) → list_content (roll-ListValue (record { values = vs; unknown = rs })) ≡ record_content list_fields (Some (many (vals_of (map value_message vs))) ∷ []) rs
list_made vs rs =
    fold-roll-ListValue Content Content Content list_step struct_step value_step (record { values = vs; unknown = rs })
    ∙ ap (λ (ws : List Val). record_content list_fields (Some (many (vals_of ws)) ∷ []) rs) (values_map vs)

abbrev pub members : Option ℤ → Option (List ℕ) → Option Bool → Option Struct → Option ListValue → List (Option Val)
members z t b s l = option_map number z ∷ option_map text t ∷ option_map truth b ∷ option_map message (option_map struct_content s) ∷ option_map message (option_map list_content l) ∷ []

pub value_rolled : (z : Option ℤ) (t : Option (List ℕ)) (b : Option Bool) (s : Option Struct) (l : Option ListValue) (rs : List Rec)
    → value_content (roll-Value (record { null_value = z; string_value = t; bool_value = b; struct_value = s; list_value = l; unknown = rs })) ≡ record_content value_fields (last_member (members z t b s l)) rs
value_rolled z t b s l rs =
    fold-roll-Value Content Content Content list_step struct_step value_step (record { null_value = z; string_value = t; bool_value = b; struct_value = s; list_value = l; unknown = rs })
    ∙ ap value_step (mapped_is z t b s l rs)

-- ---- what stands beside their contents

pub under_map : (fs : List (List ℕ × Value)) → map (λ (f : List ℕ × Bool). f.1) (map (λ (f : List ℕ × Value). (f.0, is_exact_value f.1)) fs) ≡ map exact_under fs
under_map [] = refl
under_map (f ∷ fs) = ap (λ (bs : List Bool). is_exact_value f.1 ∷ bs) (under_map fs)

pub struct_exact : (fs : List (List ℕ × Value)) (rs : List Rec) → are_exact exact_under fs ≡ true → are_writable struct_fields rs ≡ true → is_exact_struct (roll-Struct (record { fields = fs; unknown = rs })) ≡ true
struct_exact fs rs each own =
    fold-roll-Struct Bool Bool Bool is_exact_list_step is_exact_struct_step is_exact_value_step (record { fields = fs; unknown = rs })
    ∙ ap (λ (bs : List Bool). all_true bs && are_writable struct_fields rs) (under_map fs)
    ∙ rw (each, own) refl

pub list_exact : (vs : List Value) (rs : List Rec) → are_exact is_exact_value vs ≡ true → are_writable list_fields rs ≡ true → is_exact_list (roll-ListValue (record { values = vs; unknown = rs })) ≡ true
list_exact vs rs each own = fold-roll-ListValue Bool Bool Bool is_exact_list_step is_exact_struct_step is_exact_value_step (record { values = vs; unknown = rs }) ∙ rw (each, own) refl

pub told_is : (z : Option ℤ) (t : Option (List ℕ)) (b : Option Bool) (s : Option Struct) (l : Option ListValue) (rs : List Rec)
    → map-Value ListValue Struct Value Bool Bool Bool is_exact_list is_exact_struct is_exact_value (record { null_value = z; string_value = t; bool_value = b; struct_value = s; list_value = l; unknown = rs })
    ≡ record { null_value = z; string_value = t; bool_value = b; struct_value = option_map is_exact_struct s; list_value = option_map is_exact_list l; unknown = rs }
told_is z t b None None rs = refl
told_is z t b None (Some l) rs = refl
told_is z t b (Some s) None rs = refl
told_is z t b (Some s) (Some l) rs = refl

some_map : {X : Type 0} (f : X → Val) (o : Option X) → is_some (option_map f o) ≡ is_some o
some_map f None = refl
some_map f (Some x) = refl

layer_exact : (z : Option ℤ) (t : Option (List ℕ)) (b : Option Bool) (s : Option Struct) (l : Option ListValue) (rs : List Rec) → has_at_most_one (map is_some (members z t b s l)) ≡ true → is_exact_if is_exact_struct s ≡ true
    → is_exact_if is_exact_list l ≡ true → are_writable value_fields rs ≡ true
    → is_exact_value_step (record { null_value = z; string_value = t; bool_value = b; struct_value = option_map is_exact_struct s; list_value = option_map is_exact_list l; unknown = rs }) ≡ true
layer_exact z t b None None rs one p q own = let alone = rw (some_map number z, some_map text t, some_map truth b) at one in rw (alone, own) refl
layer_exact z t b None (Some l) rs one p q own = let alone = rw (some_map number z, some_map text t, some_map truth b) at one in rw (alone, q, own) refl
layer_exact z t b (Some s) None rs one p q own = let alone = rw (some_map number z, some_map text t, some_map truth b) at one in rw (alone, p, own) refl
layer_exact z t b (Some s) (Some l) rs one p q own = let alone = rw (some_map number z, some_map text t, some_map truth b) at one in rw (alone, p, q, own) refl

pub value_exact : (z : Option ℤ) (t : Option (List ℕ)) (b : Option Bool) (s : Option Struct) (l : Option ListValue) (rs : List Rec) → has_at_most_one (map is_some (members z t b s l)) ≡ true → is_exact_if is_exact_struct s ≡ true
    → is_exact_if is_exact_list l ≡ true → are_writable value_fields rs ≡ true
    → is_exact_value (roll-Value (record { null_value = z; string_value = t; bool_value = b; struct_value = s; list_value = l; unknown = rs })) ≡ true
value_exact z t b s l rs one p q own =
    fold-roll-Value Bool Bool Bool is_exact_list_step is_exact_struct_step is_exact_value_step (record { null_value = z; string_value = t; bool_value = b; struct_value = s; list_value = l; unknown = rs })
    ∙ ap is_exact_value_step (told_is z t b s l rs) ∙ layer_exact z t b s l rs one p q own

-- a record that is taken out, exact where it was one of the type
pub took_record : {R : Type 0} (t n : ℕ) (f : R → Content) (x : R → Bool) (h : Held) (c : Contents) (r : R) (old new : Content) → Some (val_of h) ≡ get n (fields old) → (IsOf (kind.Message t) (val_of h) → val_of h ≡ message (content_of c))
    → (IsSound types_shape t (content_of c) → (f r ≡ content_of c) × (x r ≡ true)) → new ≡ with_fields old (without n (fields old))
    → Takes (kind.Message t) n (Some (message (f r))) old new × (MayBe (kind.Message t) (get n (fields old)) → x r ≡ true)
took_record t n f x h c r old new e is made rest =
    let both : MayBe (kind.Message t) (get n (fields old)) → (message (f r) ≡ val_of h) × (x r ≡ true) = λ may. message_is t f x h c r is made (subst (MayBe (kind.Message t)) (sym e) may) in
    (record { value = λ may. ap Some (both may).0 ∙ e; rest = rest }, λ may. (both may).1)

-- ---- members

shows : (k : Kind) (v : Option Val) → shown types_shape true k v ≡ v
shows k None = refl
shows k (Some v) = refl

read_member : {k : Kind} {n : ℕ} {v : Option Val} {mid new : Content} (g : FieldShape) (c : Content) → IsPlain g n k → g.presence ≡ true → Takes k n v mid new → get n (fields mid) ≡ get n (fields c)
    → IsAt g (get g.number (fields c)) → v ≡ get n (fields c)
read_member {k} {n} {v} {mid} {new} g c plain presence takes there sound =
    let is : shown types_shape true g.kind v ≡ get g.number (fields c) = rw presence at (taken_is g c plain takes there sound) in
    sym (shows g.kind v) ∙ is ∙ ap (λ m. get m (fields c)) plain.number_is

-- what is read of a Value: its members and kept records, and what the records in it are read from
pub record AreMembers (ms : List (Option Val)) (rs : List Rec) (c c1 : Content) : Type 0 where
  pub value : IsValue ms rs c
  pub struct_may : MayBe (kind.Message 4) (get 5 (fields c))
  pub list_may : MayBe (kind.Message 7) (get 6 (fields c1))

-- the members that are taken out, in the order in which they are
pub members_read : {u v w x y : Option Val} {c c1 c2 c3 c4 c5 : Content} {rs : List Rec} (e f g h i : FieldShape) → value_fields ≡ e ∷ f ∷ g ∷ h ∷ i ∷ []
    → IsPlain e 1 kind.Int32 → IsPlain f 3 kind.String → IsPlain g 4 kind.Bool → IsPlain h 5 (kind.Message 4) → IsPlain i 6 (kind.Message 7)
    → e.presence ≡ true → f.presence ≡ true → g.presence ≡ true → h.presence ≡ true → i.presence ≡ true
    → Takes (kind.Message 4) 5 x c c1 → Takes (kind.Message 7) 6 y c1 c2 → Takes kind.Int32 1 u c2 c3 → Takes kind.String 3 v c3 c4 → Takes kind.Bool 4 w c4 c5
    → rs ≡ kept c5 → IsSound types_shape 6 c → AreMembers (u ∷ v ∷ w ∷ x ∷ y ∷ []) rs c c1
members_read {u} {v} {w} {x} {y} {c} {c1} {c2} {c3} {c4} {c5} {rs} e f g h i all pe pf pg ph pi qe qf qg qh qi t5 t6 t1 t3 t4 same sound =
    let each = subst (λ (gs : List FieldShape). AreAt gs (fields c)) all (sound_at 6 value_fields c value_type sound) in
    record {
      value = value_whole (u ∷ v ∷ w ∷ x ∷ y ∷ []) rs c
          (λ at. are (subst (λ (gs : List FieldShape). AreAt gs (fields c)) all at))
          (same ∙ kept_left 4 c4 c5 t4.rest ∙ kept_left 3 c3 c4 t3.rest ∙ kept_left 1 c2 c3 t1.rest ∙ kept_left 6 c1 c2 t6.rest ∙ kept_left 5 c c1 t5.rest)
          sound;
      struct_may = message_may h c c ph refl each.1.1.1.0;
      list_may = message_may i c1 c pi (get_left 6 5 c c1 t5.rest refl) each.1.1.1.1.0;
    }
  where
    are : AreAt (e ∷ f ∷ g ∷ h ∷ i ∷ []) (fields c) → u ∷ v ∷ w ∷ x ∷ y ∷ [] ≡ members_at (fields c)
    are each =
        let one = get_left 1 6 c1 c2 t6.rest refl ∙ get_left 1 5 c c1 t5.rest refl in
        let three = get_left 3 1 c2 c3 t1.rest refl ∙ get_left 3 6 c1 c2 t6.rest refl ∙ get_left 3 5 c c1 t5.rest refl in
        let four = get_left 4 3 c3 c4 t3.rest refl ∙ get_left 4 1 c2 c3 t1.rest refl ∙ get_left 4 6 c1 c2 t6.rest refl ∙ get_left 4 5 c c1 t5.rest refl in
        let six = get_left 6 5 c c1 t5.rest refl in
        let at_one = read_member e c pe qe t1 one each.0 in
        let at_three = read_member f c pf qf t3 three each.1.0 in
        let at_four = read_member g c pg qg t4 four each.1.1.0 in
        let at_five = read_member h c ph qh t5 refl each.1.1.1.0 in
        let at_six = read_member i c pi qi t6 six each.1.1.1.1.0 in
        rw (at_one, at_three, at_four, at_five, at_six) refl

-- ---- fields of a Struct, one by one

element_message : (w : Val) → IsElement types_shape (kind.Message 6) w → IsOf (kind.Message 6) w
element_message (number z) h = absurd h
element_message (truth b) h = absurd cc
element_message (text s) h = absurd (let bad : kind.Message 6 ≡ kind.String = h.0 in cc)
element_message (octets b) h = absurd cc
element_message (message c) h = let same : h.0 ≡ 6 = (let e : kind.Message 6 ≡ kind.Message h.0 = h.1 in cc) in subst (λ (t : ℕ). IsSound types_shape t c) same h.2
element_message (many vs) h = absurd h
element_message (keyed ps) h = absurd h

some_same : (p q : Key × Val) → Some p ≡ Some q → ◌≡◌ {A = Key × Val} p q
some_same p q e = cc

-- these are the values of the pairs, and exact, where those are of a map of texts and Values
abbrev pub AreFields : List Pair → List (List ℕ × Value) → Type 0
AreFields ps fs = AreNamed (map pair_of ps) → (map value_pair fs ≡ map pair_of ps) × (are_exact exact_under fs ≡ true)

pub field_more : (ps : List Pair) (p : Pair) (fs new : List (List ℕ × Value)) (name : List ℕ) (h : Held) (v : Value) → AreFields ps fs
    → (IsKeyOf kind.String (pair_of p).0 → Some (held_pair (name, h)) ≡ Some (pair_of p)) → (IsOf (kind.Message 6) (val_of h) → (value_message v ≡ val_of h) × (is_exact_value v ≡ true))
    → new ≡ with_entry name v fs → AreFields (ps ++ p ∷ []) new
field_more ps p fs new name h v before found value made all =
    let own = subst AreNamed (map-append pair_of ps (p ∷ [])) all in
    let last = named_last (map pair_of ps) (pair_of p) own in
    let there : ◌≡◌ {A = Key × Val} (text_key name, val_of h) (pair_of p) = some_same (text_key name, val_of h) (pair_of p) (found last.0) in
    let element : IsElement types_shape (kind.Message 6) (val_of h) = subst (λ (q : Key × Val). IsElement types_shape (kind.Message 6) q.1) (sym there) last.1 in
    let here = value (element_message (val_of h) element) in
    let old = before (named_front (map pair_of ps) (pair_of p ∷ []) own) in
    let pair : ◌≡◌ {A = Key × Val} (value_pair (name, v)) (pair_of p) = ap (λ (w : Val). (text_key name, w)) here.0 ∙ there in
    let whole : map value_pair (fs ++ (name, v) ∷ []) ≡ map pair_of ps ++ pair_of p ∷ [] =
    map-append value_pair fs ((name, v) ∷ []) ∙ ap (λ (qs : List (Key × Val)). qs ++ value_pair (name, v) ∷ []) old.0
    ∙ ap (λ (q : Key × Val). map pair_of ps ++ q ∷ []) pair in
    let order : IsInOrder (fs ++ (name, v) ∷ []) = order_from (fs ++ (name, v) ∷ []) (subst AreNamed (sym whole) own) in
    let last_is = made ∙ with_last name v fs order in
    (ap (map value_pair) last_is ∙ whole ∙ sym (map-append pair_of ps (p ∷ [])), ap (are_exact exact_under) last_is ∙ exact_more exact_under fs (name, v) old.1 here.1)

pub field_lost : (ps : List Pair) (p : Pair) (fs : List (List ℕ × Value)) → (IsKeyOf kind.String (pair_of p).0 → None ≡ Some (pair_of p)) → AreFields (ps ++ p ∷ []) fs
field_lost ps p fs key all =
    let own = subst AreNamed (map-append pair_of ps (p ∷ [])) all in
    absurd (let bad = key (named_last (map pair_of ps) (pair_of p) own).0 in cc)
