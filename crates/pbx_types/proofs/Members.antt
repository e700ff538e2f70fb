-- The members of a oneof.
use Rattle.std.proofs.Common.{◌≡◌, ℕ, Bool, true, false, not, ◌&&◌, if◌then◌else◌, List, [], ◌∷◌, map, Option, Some, None, refl, sym, ap, ◌∙◌, subst}
use Rattle.std.specs.Prelude.{◌==◌, is_some}
use Rattle.pbx_wire.proofs.Written.{both}
use Rattle.pbx_wire.specs.declared.rec.Rec.{Rec}
use Rattle.pbx_content.specs.declared.shape.FieldShape.{FieldShape}
use Rattle.pbx_content.specs.Content.{Content, content, fields, kept, Fields, no_fields, field, Val, get, has}
use Rattle.pbx_content.specs.Shape.{fields_of}
use Rattle.pbx_content.specs.Sound.{IsSound, has_one_member}
use Rattle.pbx_desc_shapes.specs.TypesShape.{types_shape, value_fields}
use Rattle.pbx_types.specs.FieldContent.{record_content}
use Rattle.pbx_desc.specs.Exact.{are_writable}
use Rattle.pbx_types.specs.Exact.{has_at_most_one}
use Rattle.pbx_types.specs.Content.{last_member}
use Rattle.pbx_types.proofs.Sound.{AreAt, AreTaken, shown_again, sound_at, written, whole}
use Rattle.pbx_types.proofs.Types.{value_type}

there : (n : ℕ) (fs : Fields) → has n fs ≡ is_some (get n fs)
there n no_fields = refl
there n (field m v fs) = at (n == m) (there n fs)
  where
    at : (b : Bool) → has n fs ≡ is_some (get n fs) → (if b then true else has n fs) ≡ is_some (if b then Some v else get n fs)
    at true ih = refl
    at false ih = ih

nothing : (v : Option Val) → is_some v ≡ false → v ≡ None
nothing None e = refl
nothing (Some v) e = absurd cc

-- a member, and the others
abbrev row : Bool → Bool → Bool → Bool → Bool → Bool
row b p q r s = not (b && p) && (not (b && q) && (not (b && r) && (not (b && s) && true)))

not-true : (b : Bool) → not b ≡ true → b ≡ false
not-true true h = absurd cc
not-true false h = refl

alone : (p q r s : Bool) → row true p q r s ≡ true → (p ≡ false) × (q ≡ false) × (r ≡ false) × (s ≡ false)
alone p q r s h =
    let first = both (not p) _ h in
    let second = both (not q) _ first.1 in
    let third = both (not r) _ second.1 in
    let fourth = both (not s) _ third.1 in
    (not-true p first.0, not-true q second.0, not-true r third.0, not-true s fourth.0)

record AreRows (a b c d e : Bool) : Type 0 where
  first : row a b c d e ≡ true
  second : row b a c d e ≡ true
  third : row c a b d e ≡ true
  fourth : row d a b c e ≡ true
  fifth : row e a b c d ≡ true

rows_from : (a b c d e : Bool) → row a b c d e && (row b a c d e && (row c a b d e && (row d a b c e && (row e a b c d && true)))) ≡ true → AreRows a b c d e
rows_from a b c d e h =
    let first = both (row a b c d e) _ h in
    let second = both (row b a c d e) _ first.1 in
    let third = both (row c a b d e) _ second.1 in
    let fourth = both (row d a b c e) _ third.1 in
    let fifth = both (row e a b c d) _ fourth.1 in
    record { first = first.0; second = second.0; third = third.0; fourth = fourth.0; fifth = fifth.0 }

one_counts : (u v w x y : Option Val) → AreRows (is_some u) (is_some v) (is_some w) (is_some x) (is_some y) → last_member (u ∷ v ∷ w ∷ x ∷ y ∷ []) ≡ u ∷ v ∷ w ∷ x ∷ y ∷ []
one_counts u v w x (Some z) h = let none = alone (is_some u) (is_some v) (is_some w) (is_some x) h.fifth in rw (nothing u none.0, nothing v none.1, nothing w none.2, nothing x none.3) refl
one_counts u v w (Some z) None h = let none = alone (is_some u) (is_some v) (is_some w) false h.fourth in rw (nothing u none.0, nothing v none.1, nothing w none.2) refl
one_counts u v (Some z) None None h = let none = alone (is_some u) (is_some v) false false h.third in rw (nothing u none.0, nothing v none.1) refl
one_counts u (Some z) None None None h = let none = alone (is_some u) false false false h.second in rw (nothing u none.0) refl
one_counts (Some z) None None None None h = refl
one_counts None None None None None h = refl

at_most_one : (a b c d e : Bool) → AreRows a b c d e → has_at_most_one (a ∷ b ∷ c ∷ d ∷ e ∷ []) ≡ true
at_most_one true b c d e h = let none = alone b c d e h.first in rw (none.0, none.1, none.2, none.3) refl
at_most_one false true c d e h = let none = alone false c d e h.second in rw (none.1, none.2, none.3) refl
at_most_one false false true d e h = let none = alone false false d e h.third in rw (none.2, none.3) refl
at_most_one false false false true e h = let none = alone false false false e h.fourth in rw none.3 refl
at_most_one false false false false true h = refl
at_most_one false false false false false h = refl

-- the values of the members
abbrev pub members_at : Fields → List (Option Val)
members_at fs = get 1 fs ∷ get 3 fs ∷ get 4 fs ∷ get 5 fs ∷ get 6 fs ∷ []

members_rows : (fs : Fields) → has_one_member value_fields fs ≡ true → AreRows (is_some (get 1 fs)) (is_some (get 3 fs)) (is_some (get 4 fs)) (is_some (get 5 fs)) (is_some (get 6 fs))
members_rows fs h = rw (← there 1 fs, ← there 3 fs, ← there 4 fs, ← there 5 fs, ← there 6 fs) (rows_from (has 1 fs) (has 3 fs) (has 4 fs) (has 5 fs) (has 6 fs) h)

members_again : (fs : Fields) → has_one_member value_fields fs ≡ true → last_member (members_at fs) ≡ members_at fs
members_again fs h = one_counts (get 1 fs) (get 3 fs) (get 4 fs) (get 5 fs) (get 6 fs) (members_rows fs h)

members_taken : (fs : Fields) → AreTaken value_fields (members_at fs) fs
members_taken fs = (shown_again _ (get 1 fs), (shown_again _ (get 3 fs), (shown_again _ (get 4 fs), (shown_again _ (get 5 fs), (shown_again _ (get 6 fs), tt)))))

-- a Value of these members has the content, and nothing beside it
pub record IsValue (ms : List (Option Val)) (rs : List Rec) (c : Content) : Type 0 where
  pub made : record_content value_fields (last_member ms) rs ≡ c
  pub one : has_at_most_one (map is_some ms) ≡ true
  pub written : are_writable value_fields rs ≡ true

pub value_whole : (ms : List (Option Val)) (rs : List Rec) (c : Content) → (AreAt value_fields (fields c) → ms ≡ members_at (fields c)) → rs ≡ kept c → IsSound types_shape 6 c → IsValue ms rs c
value_whole ms rs c are same sound =
    let is = are (sound_at 6 value_fields c value_type sound) in
    let one : has_one_member value_fields (fields c) ≡ true = subst (λ (hs : List FieldShape). has_one_member hs (fields c) ≡ true) value_type (one_in c sound) in
    record {
      made =
          whole 6 value_fields (last_member ms) rs c value_type
          (subst (λ (vs : List (Option Val)). AreTaken value_fields vs (fields c)) (sym (ap last_member is ∙ members_again (fields c) one)) (members_taken (fields c)))
          same sound;
      one = ap (λ (vs : List (Option Val)). has_at_most_one (map is_some vs)) is ∙ at_most_one _ _ _ _ _ (members_rows (fields c) one);
      written = written 6 value_fields rs c value_type same sound;
    }
  where
    one_in : (c : Content) → IsSound types_shape 6 c → has_one_member (fields_of types_shape 6) (fields c) ≡ true
    one_in (content fs ks) sound = sound.2
