-- Types by their full names, and fields that share an entry.
use Rattle.std.proofs.Common.{◌≡◌, ◌≢◌, ◌∙◌, ℕ, zero, suc, ◌+◌, ◌<◌, ◌≤◌, ◌||◌, ◌&&◌, not, Bool, true, false, cond, if◌then◌else◌, List, [], ◌∷◌, ◌++◌, map}
use Rattle.std.proofs.Common.{length, take, drop, get_or, refl, ap, sym, subst, arith, below_more}
use Rattle.std.specs.Prelude.{pos, Option, Some, None, Contains, filter, find, nat_lt, ◌==◌}
use Rattle.std.specs.List.{list_any}
use Rattle.std.specs.Option.{option_or, option_map}
use Rattle.std.specs.Str.{bytes_eq}
use Rattle.std.proofs.lemmas.Bool.Decides.{nat_tests}
use Rattle.std.proofs.lemmas.List.{at_drop_more, at_drop_all}
use Rattle.std.proofs.lemmas.List.Folds.{list_any_more}
use Rattle.std.proofs.lemmas.Slice.Eq.{bytes_eq-Decides}
use Rattle.pbx_desc_records.specs.declared.message.DescriptorProto.{DescriptorProto}
use Rattle.pbx_desc_records.specs.declared.field.FieldDescriptorProto.{FieldDescriptorProto}
use Rattle.pbx_desc_records.specs.declared.file.FileDescriptorProto.{FileDescriptorProto}
use Rattle.pbx_link_definitions.specs.Names.{is_named, qualified, first_part, has_dot, outward}
use Rattle.pbx_link_definitions.specs.Definitions.{Place, Part, message_name}
use Rattle.pbx_link_definitions.specs.Places.{IsAmong}
use Rattle.pbx_link_definitions.specs.Says.{own_name, own_fields, is_entry, is_repeated}
use Rattle.pbx_link_definitions.specs.Found.{IsIndex}
use Rattle.pbx_link_definitions.proofs.Indexes.{any_default, at_head, is_among, place_here, place_none}
use Rattle.pbx_link_definitions.proofs.Seen.{was_there, was_new, either_way, swap}
use Rattle.pbx_link_scope.specs.declared.types.Bound.{Bound}
use Rattle.pbx_link_scope.specs.declared.types.Bound.TheVariants.{Message as to_message, Enum as to_enum}
use Rattle.pbx_link_scope.specs.Scope.{bound_name, types, type_named, is_scope_name, first_type, type_in_first, type_from, bound, bound_if}
use Rattle.pbx_link_rules_scope.specs.MapFields.{type_in, entry_in, is_entry_type, is_held_in, same_type, fields_of_type, is_bad_map_field, bad_map_fields_in}
use Rattle.pbx_link_rules_scope.specs.MapFields.{of_entry_types}

-- ---- types by their full names

-- the type of this full name is this one
abbrev pub IsNamed : List FileDescriptorProto → Option Bound → Type 0
IsNamed seen o = (b : Bound) → o ≡ Some b → type_named seen (bound_name b) ≡ Some b

find_passes : {X : Type 0} (P : X → Bool) (xs : List X) (x : X) → find P xs ≡ Some x → P x ≡ true
find_passes P [] x h = absurd (cc)
find_passes P (y ∷ ys) x h = at (P y) refl h (find_passes P ys x)
  where
    at : (b : Bool) → P y ≡ b → cond b (Some y) (find P ys) ≡ Some x → (find P ys ≡ Some x → P x ≡ true) → P x ≡ true
    at true e k later =
        let same : y ≡ x = cc in
        ap P (sym same) ∙ e
    at false e k later = later k

named : (seen : List FileDescriptorProto) (name : List ℕ) → IsNamed seen (type_named seen name)
unfolding type_named
named seen name b h =
    let same : bound_name b ≡ name = (bytes_eq-Decides (bound_name b) name).0 (find_passes (λ c. bytes_eq (bound_name c) name) (types seen) b h) in
    ap (type_named seen) same ∙ h

either_named : (seen : List FileDescriptorProto) (o r : Option Bound) → IsNamed seen o → IsNamed seen r → IsNamed seen (option_or o r)
either_named seen None r h k = k
either_named seen (Some x) r h k = h

one_named : (seen : List FileDescriptorProto) (c : Bool) (o r : Option Bound) → IsNamed seen o → IsNamed seen r → IsNamed seen (if c then o else r)
one_named seen true o r h k = h
one_named seen false o r h k = k

none_named : (seen : List FileDescriptorProto) → IsNamed seen None
none_named seen b h = absurd (cc)

module _ (seen : List FileDescriptorProto) (name : List ℕ) where
  first_named : (ss : List (List ℕ)) → IsNamed seen (first_type seen name ss)
  unfolding first_type
  first_named [] = none_named seen
  first_named (s ∷ ss) = either_named seen (type_named seen (qualified s name)) (first_type seen name ss) (named seen (qualified s name)) (first_named ss)

  decided_named : (ss : List (List ℕ)) → IsNamed seen (type_in_first seen name ss)
  unfolding type_in_first
  decided_named [] = none_named seen
  decided_named (s ∷ ss) =
      one_named seen (is_scope_name seen (qualified s (first_part name))) (type_named seen (qualified s name)) (type_in_first seen name ss)
      (named seen (qualified s name)) (decided_named ss)

bound_named : (seen : List FileDescriptorProto) (scope name : List ℕ) → IsNamed seen (bound seen scope name)
unfolding bound
bound_named seen scope [] = none_named seen
bound_named seen scope (b ∷ bs) =
    one_named seen (b == 46) (type_named seen bs) (type_from seen scope (b ∷ bs)) (named seen bs)
    (one_named seen (has_dot (b ∷ bs)) (type_in_first seen (b ∷ bs) (outward scope)) (first_type seen (b ∷ bs) (outward scope))
    (decided_named seen (b ∷ bs) (outward scope)) (first_named seen (b ∷ bs) (outward scope)))

-- what a name is bound to is the type of its full name
pub bound_if_named : (seen : List FileDescriptorProto) (scope : List ℕ) (name : Option (List ℕ)) → IsNamed seen (bound_if seen scope name)
bound_if_named seen scope None = none_named seen
bound_if_named seen scope (Some name) = bound_named seen scope name

-- two types of one full name are one
pub one_type : (seen : List FileDescriptorProto) (a b : Option Bound) → IsNamed seen a → IsNamed seen b → same_type a b ≡ true → a ≡ b
one_type seen None b h k e = absurd (cc)
one_type seen (Some x) None h k e = absurd (cc)
one_type seen (Some x) (Some y) h k e =
    let names : bound_name y ≡ bound_name x = (bytes_eq-Decides (bound_name y) (bound_name x)).0 e in
    sym (h x refl) ∙ ap (type_named seen) (sym names) ∙ k y refl

-- ---- how many pass

-- an item passes
pub one_at_least : {X : Type 0} (Q : X → Bool) (xs : List X) (k : ℕ) (d : X) → k < length xs → Q (get_or xs k d) ≡ true → 0 < length (filter Q xs)
one_at_least Q [] k d lt h = absurd (omega (arith, lt))
one_at_least Q (x ∷ xs) zero d lt h = subst (λ b. 0 < length (cond b (x ∷ filter Q xs) (filter Q xs))) (sym h) (omega arith)
one_at_least Q (x ∷ xs) (suc k) d lt h = at (Q x) (one_at_least Q xs k d (omega (arith, lt)) h)
  where
    at : (b : Bool) → 0 < length (filter Q xs) → 0 < length (cond b (x ∷ filter Q xs) (filter Q xs))
    at true rest = omega arith
    at false rest = rest

-- an item and an earlier one pass
pub two_at_least : {X : Type 0} (Q : X → Bool) (xs : List X) (k : ℕ) (d : X) → k < length xs → Q (get_or xs k d) ≡ true → list_any Q (take k xs) ≡ true
    → 1 < length (filter Q xs)
two_at_least Q [] k d lt h before = absurd (omega (arith, lt))
two_at_least Q (x ∷ xs) zero d lt h before = absurd (cc)
two_at_least Q (x ∷ xs) (suc k) d lt h before = at (Q x) before (one_at_least Q xs k d (omega (arith, lt)) h) (two_at_least Q xs k d (omega (arith, lt)) h)
  where
    at : (b : Bool) → (b || list_any Q (take k xs)) ≡ true → 0 < length (filter Q xs) → (list_any Q (take k xs) ≡ true → 1 < length (filter Q xs))
        → 1 < length (cond b (x ∷ filter Q xs) (filter Q xs))
    at true e one more = omega (arith, one)
    at false e one more = more e

-- no item passes
none_at_all : {X : Type 0} (Q : X → Bool) (xs : List X) → ((j : ℕ) (d : X) → j < length xs → Q (get_or xs j d) ≡ false) → length (filter Q xs) ≡ 0
none_at_all Q [] h = refl
none_at_all Q (x ∷ xs) h =
    ap (λ b. length (cond b (x ∷ filter Q xs) (filter Q xs))) (h 0 x (omega arith)) ∙ none_at_all Q xs (λ j d lt. h (suc j) d (omega (arith, lt)))

-- no other item passes
pub one_at_most : {X : Type 0} (Q : X → Bool) (xs : List X) (k : ℕ) → ((j : ℕ) (d : X) → j < length xs → j ≢ k → Q (get_or xs j d) ≡ false)
    → length (filter Q xs) ≤ 1
one_at_most Q [] k h = omega arith
one_at_most Q (x ∷ xs) zero h = at (Q x) (none_at_all Q xs (λ j d lt. h (suc j) d (omega (arith, lt)) (λ e. absurd (omega (arith, e)))))
  where
    at : (b : Bool) → length (filter Q xs) ≡ 0 → length (cond b (x ∷ filter Q xs) (filter Q xs)) ≤ 1
    at true e = omega (arith, e)
    at false e = omega (arith, e)
one_at_most Q (x ∷ xs) (suc k) h =
    subst (λ b. length (cond b (x ∷ filter Q xs) (filter Q xs)) ≤ 1) (sym (h 0 x (omega arith) (λ e. absurd (omega (arith, e)))))
    (one_at_most Q xs k (λ j d lt other. h (suc j) d (omega (arith, lt)) (λ e. other (omega (arith, e)))))

-- ---- truth values

or_no : (b : Bool) → b ≡ (b || false)
or_no true = refl
or_no false = refl

or_right : (a b : Bool) → b ≡ true → (a || b) ≡ true
or_right true b h = refl
or_right false b h = h

and_no : (a b : Bool) → a ≡ false → (a && b) ≡ false
and_no true b h = absurd (cc)
and_no false b h = refl

and_yes : (a b : Bool) → a ≡ true → b ≡ true → (a && b) ≡ true
and_yes true b g h = h
and_yes false b g h = absurd (cc)

first_of_three : (r b c : Bool) → r ≡ false → (not r || b || c) ≡ true
first_of_three true b c h = absurd (cc)
first_of_three false b c h = refl

second_of_three : (r b c : Bool) → b ≡ false → (not r || not b || c) ≡ true
second_of_three r true c h = absurd (cc)
second_of_three true false c h = refl
second_of_three false false c h = refl

third_of_three : (r b c : Bool) → c ≡ true → (not r || not b || c) ≡ true
third_of_three r b false h = absurd (cc)
third_of_three true true true h = refl
third_of_three true false true h = refl
third_of_three false b true h = refl

none_of_three : (e r h c : Bool) → r ≡ true → h ≡ true → c ≡ false → (e && (not r || not h || c)) ≡ false
none_of_three true true true false p q s = refl
none_of_three false r h c p q s = refl
none_of_three true false h c p q s = absurd (cc)
none_of_three true true false c p q s = absurd (cc)
none_of_three true true true true p q s = absurd (cc)

held_if : (e r h c : Bool) → (e && (not r || not h || c)) ≡ false → e ≡ true → h ≡ true
held_if e r true c p q = refl
held_if true true false c p q = absurd (cc)
held_if true false false c p q = absurd (cc)
held_if false r false c p q = absurd (cc)

clash_is : (e b c : Bool) → e ≡ true → c ≡ true → (e && (b || c)) ≡ false → ⊥
clash_is false b c p q r = absurd (cc)
clash_is true b false p q r = absurd (cc)
clash_is true true true p q r = absurd (cc)
clash_is true false true p q r = absurd (cc)

fits_alone : (e r h b : Bool) (n : ℕ) → (e && (not r || not h || b)) ≡ false → (e ≡ true → b ≡ false → n ≤ 1) → (e && (not r || not h || nat_lt 1 n)) ≡ false
fits_alone false r h b n p f = refl
fits_alone true false h b n p f = absurd (cc)
fits_alone true true false b n p f = absurd (cc)
fits_alone true true true true n p f = absurd (cc)
fits_alone true true true false n p f = let few : n ≤ 1 = f refl refl in grind (arith, nat_tests, few)

above : (i j : ℕ) → j ≢ i → nat_lt j i ≡ false → i < j
above i j other q = grind (arith, nat_tests, q, other)

-- ---- the first items

any_same : {X : Type 0} (P Q : X → Bool) (xs : List X) (k : ℕ) → k ≤ length xs → ((i : ℕ) → i < k → (d : X) → P (get_or xs i d) ≡ Q (get_or xs i d))
    → list_any P (take k xs) ≡ list_any Q (take k xs)
any_same P Q [] zero le h = refl
any_same P Q [] (suc k) le h = refl
any_same P Q (x ∷ xs) zero le h = refl
any_same P Q (x ∷ xs) (suc k) le h =
    ap (λ b. b || list_any P (take k xs)) (h 0 (omega arith) x)
    ∙ ap (λ b. Q x || b) (any_same P Q xs k (omega (arith, le)) (λ i lt d. h (suc i) (omega (arith, lt)) d))

early : {X : Type 0} (Q : X → Bool) (xs : List X) (i j : ℕ) (d : X) → j < i → i ≤ length xs → Q (get_or xs j d) ≡ true → list_any Q (take i xs) ≡ true
early Q [] i j d lt le h = absurd (omega (arith, lt, le))
early Q (x ∷ xs) zero j d lt le h = absurd (omega (arith, lt))
early Q (x ∷ xs) (suc i) zero d lt le h = ap (λ b. b || list_any Q (take i xs)) h
early Q (x ∷ xs) (suc i) (suc j) d lt le h = or_right (Q x) (list_any Q (take i xs)) (early Q xs i j d (omega (arith, lt)) (omega (arith, le)) h)

-- ---- entries

no_entry : (o : Option Bound) → None ≡ entry_in o → is_entry_type o ≡ false
no_entry None h = refl
no_entry (Some (to_enum e)) h = refl
no_entry (Some (to_message p)) h = at (is_entry p.item) h
  where
    at : (b : Bool) → None ≡ (if b then Some p else None) → b ≡ false
    at true k = absurd (cc)
    at false k = refl

is_message_entry : (o : Option Bound) (p : Part DescriptorProto) → Some p ≡ entry_in o → (o ≡ Some (to_message p)) × (is_entry p.item ≡ true)
is_message_entry None p h = absurd (cc)
is_message_entry (Some (to_enum e)) p h = absurd (cc)
is_message_entry (Some (to_message r)) p h = at (is_entry r.item) refl h
  where
    at : (b : Bool) → is_entry r.item ≡ b → Some p ≡ (if b then Some r else None) → (Some (to_message r) ≡ Some (to_message p)) × (is_entry p.item ≡ true)
    at true e k =
        let same : r ≡ p = cc in
        (ap (λ (q : Part DescriptorProto). Some (to_message q)) same, ap (λ (q : Part DescriptorProto). is_entry q.item) (sym same) ∙ e)
    at false e k = absurd (cc)

-- ---- fields that share an entry

-- the own name of the entry, if the type is one
abbrev pub entry_name : Option Bound → Option (List ℕ)
entry_name o = option_map (λ (p : Part DescriptorProto). own_name p.item) (entry_in o)

after_scope : (s a b : List ℕ) → s ++ 46 ∷ a ≡ s ++ 46 ∷ b → a ≡ b
after_scope [] a b e = cc
after_scope (c ∷ s) a b e = after_scope s a b (cc)

one_scope : (s a b : List ℕ) → qualified s a ≡ qualified s b → a ≡ b
one_scope [] a b e = e
one_scope (c ∷ s) a b e = after_scope (c ∷ s) a b e

same_decided : (b c : Bool) → (b ≡ true → c ≡ true) → (c ≡ true → b ≡ true) → b ≡ c
same_decided true c f g = sym (f refl)
same_decided false true f g = absurd (let e = g refl in cc)
same_decided false false f g = refl

module _ (seen : List FileDescriptorProto) (scope : List ℕ) where
  -- the type that this field has
  abbrev pub type : FieldDescriptorProto → Option Bound
  type x = type_in seen scope x

  -- an entry and another type: both have one name in one message where both are one type
  one_entry : (p : Part DescriptorProto) (o : Option Bound) → IsNamed seen (Some (to_message p)) → IsNamed seen o → is_entry p.item ≡ true → p.scope ≡ scope
      → (is_entry_type o ≡ true → is_held_in scope o ≡ true) → is_named (entry_name o) (own_name p.item) ≡ same_type (Some (to_message p)) o
  one_entry p None h k entry held other = refl
  one_entry p (Some (to_enum e)) h k entry held other =
      same_decided false (same_type (Some (to_message p)) (Some (to_enum e))) (λ e. absurd (cc))
      (λ s. absurd (let one = one_type seen (Some (to_message p)) (Some (to_enum e)) h k s in cc))
  one_entry p (Some (to_message r)) h k entry held other = at (is_entry r.item) refl
    where
      full : message_name r ≡ message_name p → r.scope ≡ scope → own_name r.item ≡ own_name p.item
      full e s = one_scope scope (own_name r.item) (own_name p.item)
          (ap (λ t. qualified t (own_name r.item)) (sym s) ∙ e ∙ ap (λ t. qualified t (own_name p.item)) held)

      at : (b : Bool) → is_entry r.item ≡ b → is_named (option_map (λ (q : Part DescriptorProto). own_name q.item) (if b then Some r else None))
          (own_name p.item) ≡ same_type (Some (to_message p)) (Some (to_message r))
      at true e =
          let s : r.scope ≡ scope = (bytes_eq-Decides r.scope scope).0 (other e) in
          same_decided (bytes_eq (own_name r.item) (own_name p.item)) (bytes_eq (message_name r) (message_name p))
          (λ q. (bytes_eq-Decides (message_name r) (message_name p)).1
          (ap (qualified r.scope) ((bytes_eq-Decides (own_name r.item) (own_name p.item)).0 q) ∙ ap (λ t. qualified t (own_name p.item)) (s ∙ sym held)))
          (λ q. (bytes_eq-Decides (own_name r.item) (own_name p.item)).1 (full ((bytes_eq-Decides (message_name r) (message_name p)).0 q) s))
      at false e =
          same_decided false (same_type (Some (to_message p)) (Some (to_message r))) (λ f. absurd (cc))
          (λ s. absurd (
          let one = one_type seen (Some (to_message p)) (Some (to_message r)) h k s in
          let same : is_entry r.item ≡ is_entry p.item = ap is_entry_type (sym one) in
          cc
          ))

  -- ---- in the order of the code

  module _ (xs : List FieldDescriptorProto) where
    -- the field is bad by itself or has the type of an earlier one
    abbrev pub clashes : ℕ → FieldDescriptorProto → Bool
    clashes k x =
        is_entry_type (type x) && (not (is_repeated x) || not (is_held_in scope (type x)) || list_any
        (λ (y : FieldDescriptorProto). same_type (type x) (type y)) (take k xs))

    -- none of the first fields clashes
    abbrev pub NoneClashes : ℕ → Type 0
    NoneClashes k = (i : ℕ) → i < k → (d : FieldDescriptorProto) → clashes i (get_or xs i d) ≡ false

    -- the own names of the entries that are types of the first fields
    abbrev pub Named : (List ℕ → Bool) → ℕ → Type 0
    Named has k = (q : List ℕ) → has q ≡ list_any (λ (y : FieldDescriptorProto). is_named (entry_name (type y)) q) (take k xs)

    -- the field at k
    module _ (k : ℕ) (x : FieldDescriptorProto) (within : k < length xs) (is : x ≡ get_or xs k x) where
      at_any : (P : FieldDescriptorProto → Bool) (b : Bool) → P x ≡ b → (d : FieldDescriptorProto) → P (get_or xs k d) ≡ b
      at_any P b h d = ap P (any_default xs k d x within ∙ sym is) ∙ h

      -- of no entry type
      module _ (none : None ≡ entry_in (type x)) where
        pub other_fits : NoneClashes k → NoneClashes (k + 1)
        other_fits so_far = below_more (λ i. (d : FieldDescriptorProto) → clashes i (get_or xs i d) ≡ false) k so_far
            (at_any (clashes k) false (and_no (is_entry_type (type x)) _ (no_entry (type x) none)))

        pub other_named : (has : List ℕ → Bool) → Named has k → Named has (k + 1)
        other_named has so_far q =
            so_far q ∙ or_no (list_any (λ (y : FieldDescriptorProto). is_named (entry_name (type y)) q) (take k xs))
            ∙ ap (λ (b : Bool). list_any (λ (y : FieldDescriptorProto). is_named (entry_name (type y)) q) (take k xs) || b)
            (ap (λ o. is_named (option_map (λ (p : Part DescriptorProto). own_name p.item) o) q) none
            ∙ ap (λ (y : FieldDescriptorProto). is_named (entry_name (type y)) q) is)
            ∙ sym (list_any_more (λ (y : FieldDescriptorProto). is_named (entry_name (type y)) q) xs k x within)

      -- of this entry
      module _ (p : Part DescriptorProto) (found : Some p ≡ entry_in (type x)) where
        known : (type x ≡ Some (to_message p)) × (is_entry p.item ≡ true)
        known = is_message_entry (type x) p found

        bad_at : (not (is_repeated x) || not (is_held_in scope (type x)) || nat_lt 1 (fields_of_type seen scope xs x)) ≡ true
            → IsIndex (λ i. is_bad_map_field seen xs scope) xs (Some k)
        bad_at h = (within, at_any (is_bad_map_field seen xs scope) true (and_yes (is_entry_type (type x)) _ (ap is_entry_type known.0 ∙ known.1) h))

        -- not repeated
        pub single_here : (repeated : Bool) → repeated ≡ is_repeated x → repeated ≡ false → IsIndex (λ i. is_bad_map_field seen xs scope) xs (Some k)
        single_here repeated said h = bad_at (first_of_three (is_repeated x) _ _ (sym said ∙ h))

        -- of another message
        pub foreign_here : (held : Bool) → held ≡ bytes_eq p.scope scope → held ≡ false → IsIndex (λ i. is_bad_map_field seen xs scope) xs (Some k)
        foreign_here held said h = bad_at (second_of_three (is_repeated x) (is_held_in scope (type x)) _ (ap (is_held_in scope) known.0 ∙ sym said ∙ h))

        module _ (repeated held : Bool) (is_rep : repeated ≡ is_repeated x) (rep : repeated ≡ true) (is_held : held ≡ bytes_eq p.scope scope)
            (inside : held ≡ true)
            (so_far : NoneClashes k) (name : List ℕ) (is_name : name ≡ own_name p.item) (has : List ℕ → Bool) (told : Named has k) where
          in_scope : p.scope ≡ scope
          in_scope = (bytes_eq-Decides p.scope scope).0 (sym is_held ∙ inside)

          -- an earlier field has the name of this entry where it has this type
          shared : has name ≡ list_any (λ (y : FieldDescriptorProto). same_type (type x) (type y)) (take k xs)
          shared =
              ap has is_name ∙ told (own_name p.item)
              ∙ any_same (λ (y : FieldDescriptorProto). is_named (entry_name (type y)) (own_name p.item))
              (λ (y : FieldDescriptorProto). same_type (type x) (type y)) xs k (omega (arith, within))
              (λ i lt d.
              let y : FieldDescriptorProto = get_or xs i d in
              one_entry p (type y) (subst (IsNamed seen) known.0 (bound_if_named seen scope x.type_name)) (bound_if_named seen scope y.type_name) known.1
              in_scope
              (held_if (is_entry_type (type y)) (is_repeated y) (is_held_in scope (type y)) _ (so_far i lt d))
              ∙ ap (λ o. same_type o (type y)) (sym known.0))

          -- an earlier field has this type
          pub shared_here : (added : Bool) → added ≡ not (has name) → added ≡ false → IsIndex (λ i. is_bad_map_field seen xs scope) xs (Some k)
          shared_here added said h =
              let before : list_any (λ (y : FieldDescriptorProto). same_type (type x) (type y)) (take k xs) ≡ true = sym shared
              ∙ was_there added (has name) said h in
              let own : same_type (type x) (type x) ≡ true = ap (λ o. same_type o o) known.0 ∙ (bytes_eq-Decides (message_name p) (message_name p)).1 refl in
              let two : 1 < fields_of_type seen scope xs x = two_at_least (λ (y : FieldDescriptorProto). same_type (type x) (type y)) xs k x within
              (ap (λ (y : FieldDescriptorProto). same_type (type x) (type y)) (sym is) ∙ own) before in
              bad_at (third_of_three (is_repeated x) (is_held_in scope (type x)) (nat_lt 1 (fields_of_type seen scope xs x)) (grind (arith, nat_tests, two)))

          pub entry_fits : (added : Bool) → added ≡ not (has name) → added ≡ true → NoneClashes (k + 1)
          entry_fits added said h =
              below_more (λ i. (d : FieldDescriptorProto) → clashes i (get_or xs i d) ≡ false) k so_far
              (at_any (clashes k) false
              (none_of_three (is_entry_type (type x)) (is_repeated x) (is_held_in scope (type x)) _ (sym is_rep ∙ rep)
              (ap (is_held_in scope) known.0 ∙ sym is_held ∙ inside)
              (sym shared ∙ was_new added (has name) said h)))

          pub entry_named : (after : List ℕ → Bool) → ((q : List ℕ) → after q ≡ (bytes_eq q name || has q)) → Named after (k + 1)
          entry_named after more q =
              more q ∙ ap (λ b. b || has q) (either_way bytes_eq bytes_eq-Decides q name) ∙ swap (bytes_eq name q) (has q)
              ∙ ap (λ b. b || bytes_eq name q) (told q)
              ∙ ap (λ (b : Bool). list_any (λ (y : FieldDescriptorProto). is_named (entry_name (type y)) q) (take k xs) || b)
              (ap (λ n. bytes_eq n q) is_name ∙ ap (λ o. is_named (option_map (λ (r : Part DescriptorProto). own_name r.item) o) q) found
              ∙ ap (λ (y : FieldDescriptorProto). is_named (entry_name (type y)) q) is)
              ∙ sym (list_any_more (λ (y : FieldDescriptorProto). is_named (entry_name (type y)) q) xs k x within)

    module _ (k : ℕ) (done : length xs ≤ k) (none : NoneClashes k) (i : ℕ) (d : FieldDescriptorProto) (within : i < length xs)
        (entry : is_entry_type (type (get_or xs i d)) ≡ true) (alone : list_any (λ (y : FieldDescriptorProto). same_type (type (get_or xs i d)) (type y))
        (take i xs) ≡ false)
        (j : ℕ) (e : FieldDescriptorProto) (inside : j < length xs) where
      not_before : j < i → (s : Bool) → same_type (type (get_or xs i d)) (type (get_or xs j e)) ≡ s
          → same_type (type (get_or xs i d)) (type (get_or xs j e)) ≡ false
      not_before lt false h = h
      not_before lt true h =
          absurd (let here = early (λ (y : FieldDescriptorProto). same_type (type (get_or xs i d)) (type y)) xs i j e lt (omega (arith, within)) h in cc)

      not_behind : i < j → (s : Bool) → same_type (type (get_or xs i d)) (type (get_or xs j e)) ≡ s
          → same_type (type (get_or xs i d)) (type (get_or xs j e)) ≡ false
      not_behind lt false h = h
      not_behind lt true h =
          let x : FieldDescriptorProto = get_or xs i d in
          let y : FieldDescriptorProto = get_or xs j e in
          let one : type x ≡ type y = one_type seen (type x) (type y) (bound_if_named seen scope x.type_name) (bound_if_named seen scope y.type_name) h in
          let back : same_type (type y) (type x) ≡ true = ap (λ o. same_type o (type x)) (sym one) ∙ ap (same_type (type x)) one ∙ h in
          let here = early (λ (z : FieldDescriptorProto). same_type (type y) (type z)) xs j i d lt (omega (arith, inside)) back in
          let there : is_entry_type (type y) ≡ true = ap is_entry_type (sym one) ∙ entry in
          absurd (clash_is (is_entry_type (type y)) (not (is_repeated y) || not (is_held_in scope (type y))) _ there here
          (none j (omega (arith, inside, done)) e))

      no_other : j ≢ i → (c : Bool) → nat_lt j i ≡ c → same_type (type (get_or xs i d)) (type (get_or xs j e)) ≡ false
      no_other other true q = not_before (grind (arith, nat_tests, q)) _ refl
      no_other other false q = not_behind (above i j other q) _ refl

    -- none of the fields clashes, so none is bad
    pub none_bad : (k : ℕ) → length xs ≤ k → NoneClashes k → IsIndex (λ i. is_bad_map_field seen xs scope) xs None
    none_bad k done none = λ i d lt.
        let x : FieldDescriptorProto = get_or xs i d in
        fits_alone (is_entry_type (type x)) (is_repeated x) (is_held_in scope (type x)) _ (fields_of_type seen scope xs x) (none i (omega (arith, lt, done)) d)
        (λ entry alone. one_at_most (λ (y : FieldDescriptorProto). same_type (type x) (type y)) xs i
        (λ j e inside other. no_other k done none i d lt entry alone j e inside other (nat_lt j i) refl))

-- ---- places

-- an index of a bad field, among the fields of a message
module _ (seen : List FileDescriptorProto) (m : Part DescriptorProto) (name : List ℕ) (is_name : name ≡ message_name m) (items : List FieldDescriptorProto)
    (is_items : items ≡ own_fields m.item)
    (o : Option ℕ) (is : IsIndex (λ i. is_bad_map_field seen items name) items o) where
  among : IsAmong (bad_map_fields_in seen m) (option_map (λ (i : ℕ). m.place ++ pos 2 ∷ pos i ∷ []) o)
  among =
      is_among (message_name m) m.place 2 (λ (p : Part FieldDescriptorProto). is_bad_map_field seen (own_fields m.item) p.scope p.item) (λ p. p.place)
      (λ (i : ℕ). m.place ++ pos 2 ∷ pos i ∷ []) (λ i x. refl) (own_fields m.item) o
      (subst (λ ys. IsIndex (λ i. is_bad_map_field seen ys (message_name m)) ys o) is_items
      (subst (λ s. IsIndex (λ i. is_bad_map_field seen items s) items o) is_name is))

  pub map_field_here : (i : ℕ) (place there : Place) → o ≡ Some i → place ≡ m.place → there ≡ place ++ pos 2 ∷ pos i ∷ []
      → Contains (bad_map_fields_in seen m) there
  map_field_here i place there found over e =
      place_here (bad_map_fields_in seen m) (λ (i : ℕ). m.place ++ pos 2 ∷ pos i ∷ []) o among i found there
      (e ∙ ap (λ (a : Place). a ++ pos 2 ∷ pos i ∷ []) over)

  pub map_field_none : o ≡ None → bad_map_fields_in seen m ≡ []
  map_field_none found = place_none (bad_map_fields_in seen m) (λ (i : ℕ). m.place ++ pos 2 ∷ pos i ∷ []) o among found

-- extensions one by one
module _ (seen : List FileDescriptorProto) (ps : List (Part FieldDescriptorProto)) (i : ℕ) (p : Part FieldDescriptorProto) (within : i < length ps)
    (is : p ≡ get_or ps i p)
    (so_far : of_entry_types seen ps ≡ of_entry_types seen (drop i ps)) (scope : List ℕ) (is_scope : scope ≡ p.scope) (item : FieldDescriptorProto)
    (is_item : item ≡ p.item)
    (b : Bool) (said : b ≡ is_entry_type (type_in seen scope item)) where
  left : of_entry_types seen ps ≡ of_entry_types seen (p ∷ drop (i + 1) ps)
  left = so_far ∙ at_drop_more (of_entry_types seen) ps i p within ∙ ap (λ (q : Part FieldDescriptorProto). of_entry_types seen (q ∷ drop (i + 1) ps)) (sym is)

  abbrev passing : List (Part FieldDescriptorProto)
  passing = filter (λ (q : Part FieldDescriptorProto). is_entry_type (type_in seen q.scope q.item)) (drop (i + 1) ps)

  taken : (c : Bool) → b ≡ c → of_entry_types seen ps ≡ map (λ (q : Part FieldDescriptorProto). q.place) (cond c (p ∷ passing) passing)
  taken c e =
      left
      ∙ ap (λ (d : Bool). map (λ (q : Part FieldDescriptorProto). q.place) (cond d (p ∷ passing) passing))
      (sym (said ∙ ap (λ (s : List ℕ). is_entry_type (type_in seen s item)) is_scope
      ∙ ap (λ (x : FieldDescriptorProto). is_entry_type (type_in seen p.scope x)) is_item) ∙ e)

  pub extension_here : b ≡ true → (above there : Place) → above ≡ p.place → there ≡ above → Contains (of_entry_types seen ps) there
  extension_here h above there over e =
      subst (λ (qs : List Place). Contains qs there) (sym (taken true h)) (at_head p.place there (of_entry_types seen (drop (i + 1) ps)) (sym (e ∙ over)))

  pub extension_not : b ≡ false → of_entry_types seen ps ≡ of_entry_types seen (drop (i + 1) ps)
  extension_not h = taken false h

pub extension_none : (seen : List FileDescriptorProto) (ps : List (Part FieldDescriptorProto)) (i : ℕ) → length ps ≤ i
    → of_entry_types seen ps ≡ of_entry_types seen (drop i ps) → of_entry_types seen ps ≡ []
extension_none seen ps i done so_far = so_far ∙ at_drop_all (of_entry_types seen) ps i done
