-- Messages of a pool at their places, and their fields there.
use Rattle.std.proofs.Common.{◌≡◌, ◌∙◌, ◌⊎◌, inl, inr, ℕ, zero, suc, ◌<◌, ◌≤◌, cond, get_or, length, Bool, true, false, not, nat_lt, ◌+◌, List, [], ◌∷◌, map}
use Rattle.std.proofs.Common.{Option, Some, None, refl, sym, ap, subst, arith}
use Rattle.std.specs.Prelude.{Contains, position, unwrap_or, slice_get}
use Rattle.std.specs.List.{flat_map, position_or_len}
use Rattle.std.proofs.lemmas.Bool.Decides.{nat_tests}
use Rattle.std.specs.Str.{bytes_eq}
use Rattle.std.proofs.lemmas.List.Elements.{Contains-append_left, Contains-append_right, Contains-append_cases}
use Rattle.std.proofs.lemmas.List.Quantifiers.{position-Some}
use Rattle.pbx_content.specs.Shape.{declared_at, declared_of, fields_of, field_of}
use Rattle.pbx_content.specs.declared.shape.FieldShape.{FieldShape}
use Rattle.pbx_desc_records.specs.declared.file.FileDescriptorProto.{FileDescriptorProto}
use Rattle.pbx_desc_records.specs.declared.message.DescriptorProto.{DescriptorProto}
use Rattle.pbx_link_definitions.specs.Definitions.{Part, message_name, messages}
use Rattle.pbx_link_rules.specs.Pool.{ArePooled}
use Rattle.pbx_link_rules.proofs.Counted.{count, count_map, message_once}
use Rattle.pbx_link_rules.proofs.Distinct.{pooled_are_distinct}
use Rattle.pbx_link_rules.proofs.Named.{same_name}
use Rattle.pbx_link_rules.proofs.Types.{source}
use Rattle.pbx_link_meaning.specs.Descriptors.{Described, all_messages, fields_of_message, extensions_of_message}
use Rattle.pbx_link_meaning.specs.Shapes.{message_place, field_shape, extension_shape, message_shape, shape_of}
use Rattle.pbx_link_meaning.proofs.DescribedLists.{parts_back}
use Rattle.pbx_link_meaning.proofs.Lists.{one_item}
use Rattle.pbx_link_meaning.proofs.Proper.{types_are_proper}
use Rattle.pbx_link_meaning.specs.Shapes.{place_of}
use Rattle.pbx_message_laws.specs.Pools.{IsPooled, IsShapeOf, MessageIsPlaced, SameIsEqual, PlaceIsOwn, FieldIsListed, ExtensionIsListed, ListedIsField}
use Rattle.pbx_message_laws.specs.Pools.{SameHasField, SameHasExtension}
use Rattle.pbx_message_laws.proofs.Listed.{split, mapped, declared_is_listed, listed_is_declared}

-- ---- places

-- an item that passes the test has a place
pub record IsAt {X : Type 0} (test : X → Bool) (xs : List X) (x : X) : Type 0 where
  pub place : ℕ
  pub first : position test xs ≡ Some place
  pub below : place < length xs
  pub item : get_or xs place x ≡ x

first_below : {X : Type 0} (test : X → Bool) (xs : List X) (x : X) → Contains xs x → test x ≡ true → position_or_len test xs < length xs
first_below test [] x c e = absurd (omega (arith, c.1))
first_below {X} test (y ∷ ys) x c e = at (test y) refl (split y ys x c) (λ d. first_below test ys x d e)
  where
    at : (b : Bool) → test y ≡ b → (y ≡ x) ⊎ Contains ys x → (Contains ys x → position_or_len test ys < length ys)
        → cond (not b) (1 + position_or_len test ys) 0 < suc (length ys)
    at true d o ih = omega arith
    at false d (inl same) ih = let bad : false ≡ true = sym d ∙ ap test same ∙ e in absurd cc
    at false d (inr c) ih = let more = ih c in omega (arith, more)

first_there : {X : Type 0} (test : X → Bool) (xs : List X) (x : X) → Contains xs x → test x ≡ true → (n : ℕ) × (position test xs ≡ Some n)
first_there test xs x c e =
    let below = first_below test xs x c e in
    let is : nat_lt (position_or_len test xs) (length xs) ≡ true = grind (arith, nat_tests, below) in
    (position_or_len test xs, ap (λ (b : Bool). cond b (Some (position_or_len test xs)) None) is)

-- of the one item that passes the test
pub only_at : {X : Type 0} (test : X → Bool) (xs : List X) (x : X) → Contains xs x → test x ≡ true → count test xs ≤ 1 → IsAt test xs x
only_at test xs x c e once =
    let n = first_there test xs x c e in
    let is = position-Some test xs n.0 x n.1 in
    record {
      place = n.0;
      first = n.1;
      below = is.0;
      item = one_item test xs (get_or xs n.0 x) x once (n.0, is.0, same xs n.0 (get_or xs n.0 x) x is.0) is.1 c e;
    }
  where
    same : {X : Type 0} (xs : List X) (n : ℕ) (a b : X) → n < length xs → get_or xs n a ≡ get_or xs n b
    same [] n a b lt = absurd (omega (arith, lt))
    same (y ∷ ys) zero a b lt = refl
    same (y ∷ ys) (suc n) a b lt = same ys n a b (omega (arith, lt))

declared_there : (ds : List (Described DescriptorProto)) (n : ℕ) (d : Described DescriptorProto) → n < length ds
    → declared_at (map message_shape ds) n ≡ (message_shape (get_or ds n d)).fields
declared_there [] n d lt = absurd (omega (arith, lt))
declared_there (e ∷ es) zero d lt = refl
declared_there (e ∷ es) (suc n) d lt = declared_there es n d (omega (arith, lt))

item_there : {X : Type 0} (xs : List X) (n : ℕ) (x : X) → n < length xs → slice_get xs n ≡ Some (get_or xs n x)
item_there [] n x lt = absurd (omega (arith, lt))
item_there (y ∷ ys) zero x lt = refl
item_there (y ∷ ys) (suc n) x lt = item_there ys n x (omega (arith, lt))

-- ---- messages

abbrev pub has_name : List ℕ → Described DescriptorProto → Bool
has_name q d = bytes_eq (message_name d.part) q

pub named_once : (pool : List FileDescriptorProto) → ArePooled [] pool → (q : List ℕ) → count (has_name q) (all_messages pool) ≤ 1
named_once pool pooled q =
    let test : Part DescriptorProto → Bool = λ p. bytes_eq (message_name p) q in
    let same : count (has_name q) (all_messages pool) ≡ count test (flat_map messages pool) =
    sym (count_map test (λ (d : Described DescriptorProto). d.part) (all_messages pool)) ∙ ap (count test) (parts_back pool messages pool) in
    let once = message_once pool (pooled_are_distinct pool pooled) q in
    omega (arith, same, once)

pub message_is_placed : MessageIsPlaced
message_is_placed d of =
    let q : List ℕ = message_name d.part in
    let is : IsAt (has_name q) (all_messages d.pool) d = only_at (has_name q) (all_messages d.pool) d of.within (same_name q) (named_once d.pool of.pooled q) in
    let place : is.place ≡ place_of d = sym (ap (λ (o : Option ℕ). unwrap_or o 0) is.first) in
    record {
      found = is.first ∙ ap (λ (n : ℕ). Some n) place;
      at =
          ap (slice_get (all_messages d.pool)) (sym place) ∙ item_there (all_messages d.pool) is.place d is.below
          ∙ ap (λ (e : Described DescriptorProto). Some e) is.item;
      declared =
          ap (declared_of (shape_of d.pool)) (sym place) ∙ declared_there (all_messages d.pool) is.place d is.below
          ∙ ap (λ (e : Described DescriptorProto). (message_shape e).fields) is.item;
    }

pub place_is_own : PlaceIsOwn
place_is_own d e of by pools places =
    let here = (message_is_placed d of).at in
    let there = (message_is_placed e by).at in
    let same : slice_get (all_messages d.pool) (place_of d) ≡ slice_get (all_messages e.pool) (place_of e) =
    ap (λ (fs : List FileDescriptorProto). slice_get (all_messages fs) (place_of d)) pools ∙ ap (slice_get (all_messages e.pool)) places in
    let both : Some d ≡ Some e = sym here ∙ same ∙ there in
    cc

pub same_is_equal : SameIsEqual
same_is_equal d e of by same =
    place_is_own d e of by same.pool
    (ap (λ (fs : List FileDescriptorProto). unwrap_or (message_place fs (message_name d.part)) 0) same.pool
    ∙ ap (λ (q : List ℕ). unwrap_or (message_place e.pool q) 0) same.name)

-- ---- fields

declared_here : (d : Described DescriptorProto) → IsPooled d → (f : FieldShape) → Contains (message_shape d).fields f
    → field_of f.number (fields_of (shape_of d.pool) (place_of d)) ≡ Some f
declared_here d of f c =
    declared_is_listed (shape_of d.pool) (place_of d) f (types_are_proper d.pool of.pooled (place_of d))
    (subst (λ (fs : List FieldShape). Contains fs f) (sym (message_is_placed d of).declared) c)

pub field_is_listed : FieldIsListed
field_is_listed d x of c =
    declared_here d of (field_shape x)
    (Contains-append_left (map field_shape (fields_of_message d)) (map extension_shape (extensions_of_message d)) (field_shape x)
    (mapped field_shape (fields_of_message d) x c))

pub extension_is_listed : ExtensionIsListed
extension_is_listed d x of c =
    declared_here d of (extension_shape x)
    (Contains-append_right (map field_shape (fields_of_message d)) (map extension_shape (extensions_of_message d)) (extension_shape x)
    (mapped extension_shape (extensions_of_message d) x c))

pub listed_is_field : ListedIsField
listed_is_field d n f of e =
    let own = listed_is_declared (shape_of d.pool) (place_of d) n f e in
    at own.1
    (Contains-append_cases (map field_shape (fields_of_message d)) (map extension_shape (extensions_of_message d)) f
    (subst (λ (fs : List FieldShape). Contains fs f) (message_is_placed d of).declared own.0))
  where
    at : f.number ≡ n → Contains (map field_shape (fields_of_message d)) f ⊎ Contains (map extension_shape (extensions_of_message d)) f
        → IsShapeOf field_shape (fields_of_message d) n f ⊎ IsShapeOf extension_shape (extensions_of_message d) n f
    at is (inl c) =
        let s = source field_shape (fields_of_message d) f c in
        inl record { descriptor = s.item; within = s.within; number = ap (λ (g : FieldShape). g.number) s.made ∙ is; shape = s.made }
    at is (inr c) =
        let s = source extension_shape (extensions_of_message d) f c in
        inr record { descriptor = s.item; within = s.within; number = ap (λ (g : FieldShape). g.number) s.made ∙ is; shape = s.made }

pub same_has_field : SameHasField
same_has_field d e x of by same c =
    field_is_listed d x of
    (subst (λ (m : Described DescriptorProto). Contains (fields_of_message m) x) (sym (same_is_equal d e of by same)) c)

pub same_has_extension : SameHasExtension
same_has_extension d e x of by same c =
    extension_is_listed d x of
    (subst (λ (m : Described DescriptorProto). Contains (extensions_of_message m) x) (sym (same_is_equal d e of by same)) c)
