-- Counts of the members of oneofs.
use Rattle.std.proofs.Common.{◌≡◌, ◌∙◌, ℕ, suc, ◌+◌, ◌<◌, ◌≤◌, ◌==◌, Bool, true, false, not, cond, if◌then◌else◌, ◌||◌, ◌&&◌, List, [], ◌∷◌}
use Rattle.std.proofs.Common.{◌++◌, map, length, take, set, get_or, refl, ap, sym, arith}
use Rattle.std.specs.Prelude.{ℤ, pos, negsuc, nat_lt, is_some, Option, Some, None, filter}
use Rattle.std.specs.Option.{option_map}
use Rattle.std.specs.List.{enumerate_from, position}
use Rattle.std.proofs.lemmas.Bool.Decides.{nat_tests}
use Rattle.std.proofs.lemmas.List.{length-take-le, get_or-set_other}
use Rattle.std.proofs.lemmas.List.Filters.{length-filter_more, length-filter_both}
use Rattle.std.proofs.lemmas.Grind.{get_or-set_at}
use Rattle.pbx_desc_records.specs.declared.field.FieldDescriptorProto.{FieldDescriptorProto}
use Rattle.pbx_desc_records.specs.declared.field.OneofDescriptorProto.{OneofDescriptorProto}
use Rattle.pbx_desc_records.specs.declared.file.FileDescriptorProto.{FileDescriptorProto}
use Rattle.pbx_desc_records.specs.declared.message.DescriptorProto.{DescriptorProto, out-DescriptorProto}
use Rattle.pbx_link_definitions.specs.Says.{own_fields, is_number, are_equal, is_set, is_optional, is_proto3}
use Rattle.pbx_link_definitions.specs.Definitions.{Place, Part, part, message_name}
use Rattle.pbx_link_definitions.specs.Places.{IsAmong}
use Rattle.pbx_link_rules_field.specs.Rules.{members, has_oneof, is_alone, bad_member, bad_members_in, empty_oneofs_in}
use Rattle.pbx_link_definitions.specs.Found.{IsIndex}
use Rattle.pbx_link_rules_field.specs.Members.{member_count, index_below, is_bad_at, is_bad_by, is_bad_member}
use Rattle.pbx_link_definitions.proofs.Indexes.{any_default, index_same, position_is_index, is_among}

-- ---- indexes below a count

pub index_is_below : (n : ℕ) (o : Option ℤ) (i : ℕ) → Some i ≡ index_below n o → (i < n) × (o ≡ Some (pos i))
index_is_below n None i e = absurd (cc)
index_is_below n (Some (negsuc a)) i e = absurd (cc)
index_is_below n (Some (pos a)) i e = at (nat_lt a n) refl e
  where
    at : (b : Bool) → nat_lt a n ≡ b → Some i ≡ (if b then Some a else None) → (i < n) × (Some (pos a) ≡ Some (pos i))
    at true q k =
        let same : i ≡ a = cc in
        let below : a < n = grind (arith, nat_tests) in
        (omega arith, ap (λ (j : ℕ). Some (pos j)) (sym same))
    at false q k = absurd (cc)

pub no_index_below : (n : ℕ) (o : Option ℤ) (i : ℕ) → None ≡ index_below n o → i < n → is_number o i ≡ false
no_index_below n None i e lt = refl
no_index_below n (Some (negsuc a)) i e lt = refl
no_index_below n (Some (pos a)) i e lt = at (nat_lt a n) refl e
  where
    at : (b : Bool) → nat_lt a n ≡ b → None ≡ (if b then Some a else None) → (a == i) ≡ false
    at true q k = absurd (cc)
    at false q k = grind (arith, nat_tests)

-- ---- as the code counts

-- no more are counted than were seen
pub few : (xs : List FieldDescriptorProto) (k i : ℕ) → k ≤ length xs → member_count (take k xs) i ≤ k
few xs k i h =
    let both = length-filter_both (λ (x : FieldDescriptorProto). is_number x.oneof_index i) (λ x. not (is_number x.oneof_index i)) (λ x. refl)
    (take k xs) in
    let long = length-take-le k xs h in
    omega arith

-- the oneofs' counts are those among these fields
abbrev pub Counts : List ℕ → List FieldDescriptorProto → Type 0
Counts counts xs = (i : ℕ) → i < length counts → get_or counts i 0 ≡ member_count xs i

-- the field at k
module _ (xs : List FieldDescriptorProto) (k : ℕ) (x : FieldDescriptorProto) (counts : List ℕ) (within : k < length xs) (is : x
    ≡ get_or xs k x) (so_far : Counts counts (take k xs)) where
  one_more : (i : ℕ) → member_count (take (k + 1) xs) i ≡ member_count (take k xs) i + cond (is_number x.oneof_index i) 1 0
  one_more i =
      length-filter_more (λ (y : FieldDescriptorProto). is_number y.oneof_index i) xs k x within
      ∙ ap (λ (y : FieldDescriptorProto). member_count (take k xs) i + cond (is_number y.oneof_index i) 1 0) (sym is)

  pub counted : (j now : ℕ) → j < length counts → now ≡ get_or counts j now → now ≡ member_count (take k xs) j
  counted j now lt e = e ∙ any_default counts j now 0 lt ∙ so_far j lt

  pub counted_more : (after : List ℕ) (j now : ℕ) → j < length counts → x.oneof_index ≡ Some (pos j) → now ≡ get_or counts j now → after
      ≡ set counts j (now + 1) → length after ≡ length counts
      → Counts after (take (k + 1) xs)
  counted_more after j now lt index e changed long i h =
      ap (λ (cs : List ℕ). get_or cs i 0) changed ∙ at (j == i) refl
      ∙ ap (λ (o : Option ℤ). member_count (take k xs) i + cond (is_number o i) 1 0) (sym index) ∙ sym (one_more i)
    where
      at : (b : Bool) → (j == i) ≡ b → get_or (set counts j (now + 1)) i 0 ≡ member_count (take k xs) i + cond b 1 0
      at true q =
          let same : i ≡ j = grind (arith, nat_tests) in
          get_or-set_at counts j i (now + 1) 0 same lt ∙ ap (λ (a : ℕ). a + 1) (counted j now lt e ∙ ap (member_count (take k xs)) (sym same))
      at false q =
          let other : i ≡ j → ⊥ = λ s. absurd (grind (arith, nat_tests)) in
          let none : member_count (take k xs) i ≡ member_count (take k xs) i + 0 = omega arith in
          get_or-set_other counts j i (now + 1) 0 other ∙ so_far i (omega arith) ∙ none

  pub not_counted : (after : List ℕ) → None ≡ index_below (length counts) x.oneof_index → after ≡ counts → Counts after (take (k + 1) xs)
  not_counted after out e i h =
      let lt : i < length counts = omega (arith, ap length e) in
      let none : member_count (take k xs) i ≡ member_count (take k xs) i + 0 = omega arith in
      ap (λ (cs : List ℕ). get_or cs i 0) e ∙ so_far i lt ∙ none
      ∙ ap (λ (b : Bool). member_count (take k xs) i + cond b 1 0) (sym (no_index_below (length counts) x.oneof_index i out lt))
      ∙ sym (one_more i)

-- ---- what the counts tell

one_longer : {X Y : Type 0} (x : X) (xs : List X) (y : Y) (ys : List Y) (b : Bool) → length xs ≡ length ys → length (cond b (x ∷ xs) xs)
    ≡ length (cond b (y ∷ ys) ys)
one_longer x xs y ys true h = ap suc h
one_longer x xs y ys false h = h

-- a filter of parts by their items
part_count : {X : Type 0} (scope : List ℕ) (above : Place) (n : ℕ) (P : Part X → Bool) (Q : X → Bool) → ((p : Part X) → P p ≡ Q p.item)
    → (k : ℕ) (xs : List X)
    → length (filter P (map (λ x. part scope above n x.0 x.1) (enumerate_from k xs))) ≡ length (filter Q xs)
part_count scope above n P Q same k [] = refl
part_count {X} scope above n P Q same k (x ∷ xs) =
    let rest : List (Part X) = filter P (map (λ y. part scope above n y.0 y.1) (enumerate_from (k + 1) xs)) in
    ap (λ (b : Bool). length (cond b (part scope above n k x ∷ rest) rest)) (same (part scope above n k x))
    ∙ one_longer (part scope above n k x) rest x (filter Q xs) (Q x) (part_count scope above n P Q same (k + 1) xs)

equal_is_number : (o : Option ℤ) (i : ℕ) → are_equal o (Some (pos i)) ≡ is_number o i
equal_is_number None i = refl
equal_is_number (Some (negsuc a)) i = refl
equal_is_number (Some (pos a)) i = grind (arith, nat_tests)

equal_none : (o : Option ℤ) → are_equal o None ≡ false
equal_none None = refl
equal_none (Some z) = refl

none_pass : {X : Type 0} (xs : List X) → length (filter (λ x. false) xs) ≡ 0
none_pass [] = refl
none_pass (x ∷ xs) = none_pass xs

-- the members of a oneof are counted
pub members_counted : (m : Part DescriptorProto) (i : ℕ) → length (members m i) ≡ member_count (own_fields m.item) i
members_counted m i =
    part_count (message_name m) m.place 2 (λ (p : Part FieldDescriptorProto). is_number p.item.oneof_index i) (λ (x : FieldDescriptorProto).
    is_number x.oneof_index i) (λ p. refl) 0 (own_fields m.item)

alone_counted : (m : Part DescriptorProto) (i : ℕ) → is_alone m (Some (pos i)) ≡ (member_count (own_fields m.item) i == 1)
alone_counted m i =
    ap (λ (n : ℕ). n == 1)
    (part_count (message_name m) m.place 2 (λ (p : Part FieldDescriptorProto). are_equal p.item.oneof_index (Some (pos i))) (λ (x :
    FieldDescriptorProto). is_number x.oneof_index i)
    (λ p. equal_is_number p.item.oneof_index i) 0 (own_fields m.item))

never_alone : (m : Part DescriptorProto) → is_alone m None ≡ false
never_alone m =
    ap (λ (n : ℕ). n == 1)
    (part_count (message_name m) m.place 2 (λ (p : Part FieldDescriptorProto). are_equal p.item.oneof_index None) (λ (x : FieldDescriptorProto).
    false) (λ p. equal_none p.item.oneof_index) 0 (own_fields m.item)
    ∙ none_pass (own_fields m.item))

all_or : (s a : Bool) → (s && (a || true)) ≡ s
all_or true true = refl
all_or true false = refl
all_or false a = refl

module _ (f : FileDescriptorProto) (m : Part DescriptorProto) (counts : List ℕ) (long : length counts
    ≡ length (out-DescriptorProto m.item).oneof_decl) (is : Counts counts (own_fields m.item)) where
  judged_at : (p : Part FieldDescriptorProto) (o : Option ℤ)
      → (not (has_oneof m o) || (is_some o && not (is_optional p.item)) || (is_set p.item.proto3_optional && (not (is_proto3 f) || not (is_alone m
      o)))) ≡ is_bad_by (is_proto3 f) counts p.item o
  judged_at p None = ap (λ (b : Bool). is_set p.item.proto3_optional && (not (is_proto3 f) || not b)) (never_alone m)
      ∙ all_or (is_set p.item.proto3_optional) (not (is_proto3 f))
  judged_at p (Some (negsuc a)) = refl
  judged_at p (Some (pos i)) =
      ap (λ (n : ℕ). not (nat_lt i n) || (true && not (is_optional p.item)) || (is_set p.item.proto3_optional && (not (is_proto3 f) || not
      (is_alone m (Some (pos i)))))) (sym long)
      ∙ at (nat_lt i (length counts)) refl
    where
      at : (b : Bool) → nat_lt i (length counts) ≡ b
          → (not b || (true && not (is_optional p.item)) || (is_set p.item.proto3_optional && (not (is_proto3 f) || not (is_alone m (Some (pos
          i)))))) ≡ is_bad_at (is_proto3 f) counts p.item (if b then Some i else None)
      at true q =
          let lt : i < length counts = grind (arith, nat_tests) in
          ap (λ (b : Bool). not (is_optional p.item) || (is_set p.item.proto3_optional && (not (is_proto3 f) || not b))) (alone_counted m i
          ∙ ap (λ (n : ℕ). n == 1) (sym (is i lt)))
      at false q = refl

  -- a field is judged by the counts
  judged : (p : Part FieldDescriptorProto) → bad_member f m p ≡ is_bad_member (is_proto3 f) counts p.item
  judged p = judged_at p p.item.oneof_index

  pub bad_member_among : (o : Option ℕ) → o ≡ position (is_bad_member (is_proto3 f) counts) (own_fields m.item)
      → IsAmong (bad_members_in f m) (option_map (λ (i : ℕ). m.place ++ pos 2 ∷ pos i ∷ []) o)
  bad_member_among o e =
      is_among (message_name m) m.place 2 (bad_member f m) (λ p. p.place) (λ (i : ℕ). m.place ++ pos 2 ∷ pos i ∷ []) (λ i x. refl) (own_fields
      m.item) o
      (index_same (λ i. is_bad_member (is_proto3 f) counts) (λ i x. bad_member f m (part (message_name m) m.place 2 i x)) (own_fields m.item) o (λ
      i x. sym (judged (part (message_name m) m.place 2 i x)))
      (position_is_index (is_bad_member (is_proto3 f) counts) (own_fields m.item) o e))

  empty_at : (o : Option ℕ) → IsIndex (λ i n. n == 0) counts o → IsIndex (λ i x. length (members m i) == 0) (out-DescriptorProto m.item).oneof_decl o
  empty_at None h = λ i d lt.
      let below : i < length counts = omega arith in
      ap (λ (n : ℕ). n == 0) (members_counted m i ∙ sym (is i below)) ∙ h i 0 below
  empty_at (Some i) h = (omega (arith, h.0), λ d. ap (λ (n : ℕ). n == 0) (members_counted m i ∙ sym (is i h.0)) ∙ h.1 0)

  pub empty_among : (o : Option ℕ) → o ≡ position (λ n. n == 0) counts
      → IsAmong (empty_oneofs_in m) (option_map (λ (i : ℕ). m.place ++ pos 8 ∷ pos i ∷ []) o)
  empty_among o e =
      is_among (message_name m) m.place 8 (λ (p : Part OneofDescriptorProto). length (members m p.index) == 0) (λ p. p.place) (λ (i : ℕ). m.place
      ++ pos 8 ∷ pos i ∷ []) (λ i x. refl)
      (out-DescriptorProto m.item).oneof_decl o (empty_at o (position_is_index (λ n. n == 0) counts o e))
