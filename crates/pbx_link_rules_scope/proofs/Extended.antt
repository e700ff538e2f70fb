-- Extensions of one message under one number, and ranges that are kept.
use Rattle.std.proofs.Common.{◌≡◌, ◌∙◌, ℕ, zero, suc, ◌+◌, ◌<◌, ◌≤◌, Bool, true, false, not, ◌||◌, ◌&&◌, if◌then◌else◌, List, [], ◌∷◌, ◌++◌}
use Rattle.std.proofs.Common.{map, length, take, get_or, refl, ap, sym, subst, arith, Decides, Ordering, Less, Equal, Greater, is_eq, nat_cmp, below_more}
use Rattle.std.specs.Prelude.{ℤ, Option, Some, None, Contains, String, string_bytes}
use Rattle.std.specs.List.{list_any}
use Rattle.std.specs.Str.{bytes_eq}
use Rattle.std.specs.Ordering.{int_cmp, ordering_then}
use Rattle.std.specs.String.{string_cmp}
use Rattle.std.specs.BTreeMap.{BTreeMap, UpdatesBy, get_by_text, is_at}
use Rattle.std.specs.BTreeSet.{insert_key}
use Rattle.std.specs.Cmp.Lexicographic.{slice_cmp}
use Rattle.std.proofs.lemmas.Int.{ints}
use Rattle.std.proofs.lemmas.List.Folds.{list_any_more}
use Rattle.std.proofs.lemmas.Map.Text.{is_eq-slice_cmp, btree_map_updates_text}
use Rattle.std.proofs.lemmas.Slice.Eq.{bytes_eq-Decides}
use Rattle.pbx_desc_records.specs.declared.field.FieldDescriptorProto.{FieldDescriptorProto}
use Rattle.pbx_desc_records.specs.declared.file.FileDescriptorProto.{FileDescriptorProto}
use Rattle.pbx_desc_records.specs.declared.message.DescriptorProto.{DescriptorProto}
use Rattle.pbx_link_definitions.specs.Definitions.{Place, Part, at}
use Rattle.pbx_link_definitions.specs.Names.{is_named}
use Rattle.pbx_link_definitions.specs.Places.{repeated}
use Rattle.pbx_link_definitions.specs.Ranges.{Range, in_ranges, extension_ranges, is_field_number}
use Rattle.pbx_link_definitions.specs.Says.{are_equal}
use Rattle.pbx_link_definitions.proofs.Indexes.{or_none, any_default, at_head, in_tail}
use Rattle.pbx_link_definitions.proofs.Seen.{was_there, was_new, either_way, swap, contains_is, has_inserted, equal}
use Rattle.pbx_link_scope.specs.declared.types.Bound.{Bound}
use Rattle.pbx_link_scope.specs.declared.types.Bound.TheVariants.{Message as to_message}
use Rattle.pbx_link_scope.specs.Scope.{bound_name, bound_if, type_named}
use Rattle.pbx_link_rules_scope.specs.ExtensionNumbers.{Extending, like_extending, extending, extended_again, is_outside, is_unfit}
use Rattle.pbx_link_rules_scope.specs.Known.{IsKnownMessage, AreOwn, key_of, both_of, extended_number}

-- ---- items that are like earlier ones

turned : (a b c : Bool) → ((a || b) || c) ≡ (b || (a || c))
turned true true c = refl
turned true false c = refl
turned false true c = refl
turned false false c = refl

module _ {A X : Type 0} (f : A → X) (like : X → X → Bool) (place : X → Place) where
  -- an earlier item is like this one
  abbrev pub again : List A → ℕ → A → Bool
  again xs i x = list_any (λ y. like (f x) (f y)) (take i xs)

  -- one item moves from those that follow to those before
  moved : (before : List X) (y : A) (x : A) (xs : List A) (i : ℕ) → (list_any (like (f y)) (f x ∷ before) || again xs i y)
      ≡ (list_any (like (f y)) before || again (x ∷ xs) (suc i) y)
  moved before y x xs i = turned (like (f y) (f x)) (list_any (like (f y)) before) (again xs i y)

  none_from : (before : List X) (xs : List A)
      → ((i : ℕ) (d : A) → i < length xs → (list_any (like (f (get_or xs i d))) before || again xs i (get_or xs i d)) ≡ false)
      → repeated like before (map f xs) ≡ []
  unfolding repeated
  none_from before [] h = refl
  none_from before (x ∷ xs) h =
      ap (λ b. (if b then f x ∷ [] else []) ++ repeated like (f x ∷ before) (map f xs)) (sym (or_none (list_any (like (f x)) before)) ∙ h 0 x (omega arith))
      ∙ none_from (f x ∷ before) xs (λ i d lt. moved before (get_or xs i d) x xs i ∙ h (suc i) d (omega (arith, lt)))

  here_from : (before : List X) (xs : List A) (i : ℕ) (d : A) → i < length xs
      → (list_any (like (f (get_or xs i d))) before || again xs i (get_or xs i d)) ≡ true
      → Contains (map place (repeated like before (map f xs))) (place (f (get_or xs i d)))
  unfolding repeated
  here_from before [] i d lt h = absurd (omega (arith, lt))
  here_from before (x ∷ xs) zero d lt h =
      subst (λ b. Contains (map place ((if b then f x ∷ [] else []) ++ repeated like (f x ∷ before) (map f xs))) (place (f x)))
      (sym (sym (or_none (list_any (like (f x)) before)) ∙ h)) (at_head (place (f x)) (place (f x)) _ refl)
  here_from before (x ∷ xs) (suc i) d lt h =
      behind (list_any (like (f x)) before)
      (here_from (f x ∷ before) xs i d (omega (arith, lt)) (moved before (get_or xs i d) x xs i ∙ h))
    where
      behind : (b : Bool) → Contains (map place (repeated like (f x ∷ before) (map f xs))) (place (f (get_or xs i d)))
          → Contains (map place ((if b then f x ∷ [] else []) ++ repeated like (f x ∷ before) (map f xs))) (place (f (get_or xs i d)))
      behind true c = in_tail (place (f x)) (place (f (get_or xs i d))) _ c
      behind false c = c

-- ---- keys of names and numbers

and_false : (a : Bool) → (a && false) ≡ false
and_false true = refl
and_false false = refl

and_same : (a b : Bool) → a ≡ true → b ≡ true → (a && b) ≡ true
and_same true b g h = h
and_same false b g h = absurd (cc)

both_true : (a b : Bool) → (a && b) ≡ true → (a ≡ true) × (b ≡ true)
both_true true b h = (refl, h)
both_true false b h = absurd (cc)

abbrev Key : Type 0
Key = List ℕ × ℤ

abbrev pub same_key : Key → Key → Bool
same_key a b = bytes_eq a.0 b.0 && equal a.1 b.1

int_decides : (a b : ℤ) → Decides (equal a b) (a ≡ b)
int_decides a b = (λ h. grind (arith, ints), λ e. grind (arith, ints))

key_decides : (a b : Key) → Decides (same_key a b) (a ≡ b)
key_decides a b = (
  λ h.
      let two = both_true (bytes_eq a.0 b.0) (equal a.1 b.1) h in
      let names : a.0 ≡ b.0 = (bytes_eq-Decides a.0 b.0).0 two.0 in
      let numbers : a.1 ≡ b.1 = (int_decides a.1 b.1).0 two.1 in
      ap (λ (n : List ℕ). let k : Key = (n, a.1) in k) names ∙ ap (λ (z : ℤ). let k : Key = (b.0, z) in k) numbers,
  λ e. and_same (bytes_eq a.0 b.0) (equal a.1 b.1) ((bytes_eq-Decides a.0 b.0).1 (ap (λ (k : Key). k.0) e)) ((int_decides a.1 b.1).1 (ap (λ (k : Key). k.1) e)),
)

-- the order of keys, by the bytes of names first
abbrev pub key_cmp : {A : Type 0} → String A × ℤ → String A × ℤ → Ordering
key_cmp x y = ordering_then (string_cmp x.0 y.0) (int_cmp x.1 y.1)

then_equal : (a b : Ordering) → is_eq (ordering_then a b) ≡ (is_eq a && is_eq b)
then_equal Less b = refl
then_equal Equal b = refl
then_equal Greater b = refl

int_tied : (x y : ℤ) → is_eq (int_cmp x y) ≡ equal x y
int_tied x y = grind (arith, ints)

key_tied : {A : Type 0} (x y : String A × ℤ) → is_eq (key_cmp x y) ≡ same_key (key_of x) (key_of y)
key_tied x y =
    then_equal (string_cmp x.0 y.0) (int_cmp x.1 y.1)
    ∙ ap (λ b. b && is_eq (int_cmp x.1 y.1)) (is_eq-slice_cmp (string_bytes x.0) (string_bytes y.0))
    ∙ ap (λ b. bytes_eq (string_bytes x.0) (string_bytes y.0) && b) (int_tied x.1 y.1)

-- the extension extends the message of this name under this number
abbrev pub is_under : Key → Extending → Bool
is_under q x = is_named x.extendee q.0 && are_equal (Some q.1) x.number

-- the key of an extension
abbrev pub key_in : Extending → Option Key
key_in x = both_of x.extendee x.number

pub key_told : (seen : List FileDescriptorProto) (p : Part FieldDescriptorProto) (scope : List ℕ) → scope ≡ p.scope → (item : FieldDescriptorProto)
    → item ≡ p.item → (o : Option Key) → o ≡ extended_number seen scope item → key_in (extending seen p) ≡ o
key_told seen p scope is_scope item is_item o said =
    sym (said ∙ ap (λ (s : List ℕ). extended_number seen s item) is_scope ∙ ap (extended_number seen p.scope) is_item)

like_by_key : (x y : Extending) (q : Key) → key_in x ≡ Some q → like_extending x y ≡ is_under q y
like_by_key x y q e = at x.extendee x.number e
  where
    at : (s : Option (List ℕ)) (z : Option ℤ) → both_of s z ≡ Some q
        → (let x : Extending = record { extendee = s; number = z; place = [] } in like_extending x y) ≡ is_under q y
    at (Some s) (Some z) h =
        let same : (let k : Key = (s, z) in k) ≡ q = cc in
        ap (λ (k : Key). is_under k y) same
    at (Some s) None h = absurd (cc)
    at None z h = absurd (cc)

unlike : (x y : Extending) → key_in x ≡ None → like_extending x y ≡ false
unlike x y e = at x.extendee x.number e
  where
    at : (s : Option (List ℕ)) (z : Option ℤ) → both_of s z ≡ None
        → (let x : Extending = record { extendee = s; number = z; place = [] } in like_extending x y) ≡ false
    at (Some s) (Some z) h = absurd (cc)
    at (Some s) None h = and_false (is_named y.extendee s)
    at None z h = refl

under_by_key : (x : Extending) (q k : Key) → key_in x ≡ Some k → is_under q x ≡ same_key q k
under_by_key x q k e = at x.extendee x.number e
  where
    at : (s : Option (List ℕ)) (z : Option ℤ) → both_of s z ≡ Some k
        → (let x : Extending = record { extendee = s; number = z; place = [] } in is_under q x) ≡ same_key q k
    at (Some s) (Some z) h =
        let same : (let j : Key = (s, z) in j) ≡ k = cc in
        ap (λ b. b && equal q.1 z) (either_way bytes_eq bytes_eq-Decides s q.0) ∙ ap (same_key q) same
    at (Some s) None h = absurd (cc)
    at None z h = absurd (cc)

under_none : (x : Extending) (q : Key) → key_in x ≡ None → is_under q x ≡ false
under_none x q e = at x.extendee x.number e
  where
    at : (s : Option (List ℕ)) (z : Option ℤ) → both_of s z ≡ None
        → (let x : Extending = record { extendee = s; number = z; place = [] } in is_under q x) ≡ false
    at (Some s) (Some z) h = absurd (cc)
    at (Some s) None h = and_false (bytes_eq s q.0)
    at None z h = refl

any_alike : {X : Type 0} (P Q : X → Bool) → ((x : X) → P x ≡ Q x) → (xs : List X) → list_any P xs ≡ list_any Q xs
any_alike P Q same [] = refl
any_alike P Q same (x ∷ xs) = ap (λ b. b || list_any P xs) (same x) ∙ ap (λ b. Q x || b) (any_alike P Q same xs)

any_false : {X : Type 0} (P : X → Bool) → ((x : X) → P x ≡ false) → (xs : List X) → list_any P xs ≡ false
any_false P none [] = refl
any_false P none (x ∷ xs) = ap (λ b. b || list_any P xs) (none x) ∙ any_false P none xs

module _ (seen : List FileDescriptorProto) where
  -- an earlier extension of the list is like this one
  abbrev pub is_again : List (Part FieldDescriptorProto) → ℕ → Part FieldDescriptorProto → Bool
  is_again ps i p = again (extending seen) like_extending (λ x. x.place) ps i p

  -- none of the first extensions is like an earlier one
  abbrev pub NoneAgain : List (Part FieldDescriptorProto) → ℕ → Type 0
  NoneAgain ps i = (k : ℕ) → k < i → (d : Part FieldDescriptorProto) → is_again ps k (get_or ps k d) ≡ false

  -- the keys are those of these extensions
  abbrev pub Holds : {A : Type 0} → List (String A × ℤ) → List (Part FieldDescriptorProto) → Type 0
  Holds keys ps = (q : Key) → list_any (λ k. same_key q (key_of k)) keys ≡ list_any (λ p. is_under q (extending seen p)) ps

  pub none_again : (ps : List (Part FieldDescriptorProto)) (i : ℕ) → length ps ≤ i → NoneAgain ps i → extended_again seen ps ≡ []
  none_again ps i done none =
      ap (map (λ (x : Extending). x.place))
      (none_from (extending seen) like_extending (λ x. x.place) [] ps (λ k d lt. none k (omega (arith, lt, done)) d))

  module _ (ps : List (Part FieldDescriptorProto)) (i : ℕ) (p : Part FieldDescriptorProto) (within : i < length ps) (is : p ≡ get_or ps i p) where
    is_here : (d : Part FieldDescriptorProto) → get_or ps i d ≡ p
    is_here d = any_default ps i d p within ∙ sym is

    again_at : (b : Bool) → is_again ps i p ≡ b → (d : Part FieldDescriptorProto) → is_again ps i (get_or ps i d) ≡ b
    again_at b h d = ap (is_again ps i) (is_here d) ∙ h

    pub again_here : is_again ps i p ≡ true → (there : Place) → there ≡ at p 3 → Contains (extended_again seen ps) there
    again_here h there e =
        subst (λ (q : Place). Contains (extended_again seen ps) q) (ap (λ (r : Part FieldDescriptorProto). at r 3) (is_here p) ∙ sym e)
        (here_from (extending seen) like_extending (λ x. x.place) [] ps i p within (again_at true h p))

    more : (q : Key) → list_any (λ r. is_under q (extending seen r)) (take (i + 1) ps)
        ≡ (list_any (λ r. is_under q (extending seen r)) (take i ps) || is_under q (extending seen p))
    more q =
        list_any_more (λ (r : Part FieldDescriptorProto). is_under q (extending seen r)) ps i p within
        ∙ ap (λ (r : Part FieldDescriptorProto). list_any (λ s. is_under q (extending seen s)) (take i ps) || is_under q (extending seen r)) (sym is)

    -- without a key
    module _ (none : key_in (extending seen p) ≡ None) where
      pub other_new : NoneAgain ps i → NoneAgain ps (i + 1)
      other_new so_far =
          below_more (λ k. (d : Part FieldDescriptorProto) → is_again ps k (get_or ps k d) ≡ false) i so_far
          (again_at false (any_false (λ (r : Part FieldDescriptorProto). like_extending (extending seen p) (extending seen r))
          (λ r. unlike (extending seen p) (extending seen r) none) (take i ps)))

      pub other_held : {A : Type 0} (keys after : List (String A × ℤ)) → Holds keys (take i ps) → after ≡ keys → Holds after (take (i + 1) ps)
      other_held keys after held e q =
          ap (list_any (λ j. same_key q (key_of j))) e ∙ held q ∙ sym (or_none _)
          ∙ ap (λ b. list_any (λ r. is_under q (extending seen r)) (take i ps) || b) (sym (under_none (extending seen p) q none)) ∙ sym (more q)

    -- with a key
    module _ {A : Type 0} (k : String A × ℤ) (has : key_in (extending seen p) ≡ Some (key_of k)) (keys : List (String A × ℤ)) (held : Holds keys (take i ps))
        (added : Bool) (said : added ≡ not (list_any (is_at (key_cmp k)) keys)) where
      told : list_any (is_at (key_cmp k)) keys ≡ is_again ps i p
      told =
          contains_is key_cmp key_of same_key key_tied key_decides k keys ∙ held (key_of k)
          ∙ sym (any_alike (λ (r : Part FieldDescriptorProto). like_extending (extending seen p) (extending seen r))
          (λ (r : Part FieldDescriptorProto). is_under (key_of k) (extending seen r))
          (λ r. like_by_key (extending seen p) (extending seen r) (key_of k) has) (take i ps))

      pub key_there : added ≡ false → (there : Place) → there ≡ at p 3 → Contains (extended_again seen ps) there
      key_there e = again_here (sym told ∙ was_there added _ said e)

      pub key_new : added ≡ true → NoneAgain ps i → NoneAgain ps (i + 1)
      key_new e so_far =
          below_more (λ j. (d : Part FieldDescriptorProto) → is_again ps j (get_or ps j d) ≡ false) i so_far
          (again_at false (sym told ∙ was_new added _ said e))

      pub key_held : (after : List (String A × ℤ)) → after ≡ insert_key key_cmp keys k → Holds after (take (i + 1) ps)
      key_held after e q =
          ap (list_any (λ j. same_key q (key_of j))) e ∙ has_inserted key_cmp key_of same_key key_tied key_decides q k keys
          ∙ swap (same_key q (key_of k)) (list_any (λ j. same_key q (key_of j)) keys)
          ∙ ap (λ b. b || same_key q (key_of k)) (held q)
          ∙ ap (λ b. list_any (λ r. is_under q (extending seen r)) (take i ps) || b) (sym (under_by_key (extending seen p) q (key_of k) has))
          ∙ sym (more q)

-- ---- ranges that are kept

one_message : (seen : List FileDescriptorProto) (m n : Part DescriptorProto) → IsKnownMessage seen m → IsKnownMessage seen n
    → bound_name (to_message m) ≡ bound_name (to_message n) → m ≡ n
one_message seen m n h k e =
    let same : Some (to_message m) ≡ Some (to_message n) = sym h ∙ ap (type_named seen) e ∙ k in
    cc

module _ {A : Type 0} (seen : List FileDescriptorProto) (known : BTreeMap (String A) (List Range)) (own : AreOwn seen known) (m : Part DescriptorProto)
    (is : IsKnownMessage seen m) (name : List ℕ) (is_name : name ≡ bound_name (to_message m)) where
  pub kept_are : (ranges : List Range) → get_by_text known name ≡ Some ranges → (number : Option ℤ)
      → in_ranges ranges number ≡ in_ranges (extension_ranges m.item) number
  kept_are ranges e = own m ranges is (ap (get_by_text known) (sym is_name) ∙ e)

  module _ (after : BTreeMap (String A) (List Range)) (ranges : List Range)
      (are : (number : Option ℤ) → in_ranges ranges number ≡ in_ranges (extension_ranges m.item) number)
      (updates : UpdatesBy string_cmp (λ k. slice_cmp nat_cmp name (string_bytes k)) known after (Some ranges)) where
    pub kept_more : AreOwn seen after
    kept_more n others is_n e =
        at (bytes_eq name (bound_name (to_message n))) refl
        (sym (btree_map_updates_text name known after (Some ranges) updates (bound_name (to_message n))) ∙ e)
      where
        at : (b : Bool) → bytes_eq name (bound_name (to_message n)) ≡ b
            → (if b then Some ranges else get_by_text known (bound_name (to_message n))) ≡ Some others
            → (number : Option ℤ) → in_ranges others number ≡ in_ranges (extension_ranges n.item) number
        at true h k number =
            let names = (bytes_eq-Decides name (bound_name (to_message n))).0 h in
            let same : m ≡ n = one_message seen m n is is_n (sym is_name ∙ names) in
            let those : ranges ≡ others = cc in
            ap (λ (rs : List Range). in_ranges rs number) (sym those) ∙ are number
            ∙ ap (λ (p : Part DescriptorProto). in_ranges (extension_ranges p.item) number) same
        at false h k number = own n others is_n k number

-- the number is one of a field, so whether the message leaves it to extensions
pub unfit_is : (seen : List FileDescriptorProto) (scope : List ℕ) (x : FieldDescriptorProto) (m : Part DescriptorProto)
    → bound_if seen scope x.extendee ≡ Some (to_message m) → is_field_number x.number ≡ true
    → (left : Bool) → left ≡ in_ranges (extension_ranges m.item) x.number → not left ≡ is_unfit seen scope x
unfit_is seen scope x m found number left said =
    ap not said
    ∙ sym (ap (λ b. not b || is_outside (bound_if seen scope x.extendee) x.number) number ∙ ap (λ (o : Option Bound). is_outside o x.number) found)
