-- Types by their names in the files that a file sees, and the types of the fields of a linked record.
use Rattle.std.proofs.Common.{◌≡◌, ◌∙◌, ◌⊎◌, ℕ, zero, suc, ◌+◌, ℤ, ◌==◌, ◌||◌, not, cond, List, [], ◌∷◌, ◌++◌, map}
use Rattle.std.proofs.Common.{Bool, true, false, Option, Some, None, if◌then◌else◌, refl, ap, sym, subst, inl, inr, arith}
use Rattle.std.specs.Prelude.{Contains, find, reverse, is_some}
use Rattle.std.specs.List.{list_any, flat_map, enumerate_from}
use Rattle.std.specs.Option.{option_or}
use Rattle.std.specs.Str.{bytes_eq}
use Rattle.std.proofs.lemmas.Bool.{false≢true}
use Rattle.std.proofs.lemmas.Grind.{flat_map-append}
use Rattle.std.proofs.lemmas.List.Elements.{Contains-append_left, Contains-append_right, Contains-append_cases}
use Rattle.std.proofs.lemmas.List.Folds.{list_any-append}
use Rattle.pbx_desc_records.specs.declared.enumeration.EnumDescriptorProto.{EnumDescriptorProto}
use Rattle.pbx_desc_records.specs.declared.field.FieldDescriptorProto.{FieldDescriptorProto}
use Rattle.pbx_desc_records.specs.declared.file.FileDescriptorProto.{FileDescriptorProto}
use Rattle.pbx_desc_records.specs.declared.message.DescriptorProto.{DescriptorProto}
use Rattle.pbx_link_definitions.specs.Names.{qualified, first_part, has_dot, outward}
use Rattle.pbx_link_definitions.specs.Definitions.{Part, at, message_name, enum_name, messages, enums, fields, extensions}
use Rattle.pbx_link_definitions.specs.Says.{is_number}
use Rattle.pbx_link_scope.specs.declared.types.Bound.{Bound}
use Rattle.pbx_link_scope.specs.declared.types.Bound.TheVariants.{Message as to_message, Enum as to_enum}
use Rattle.pbx_link_scope.specs.Scope.{bound_name, types, type_named, is_scope_name, first_type, type_in_first, type_from, bound, bound_if}
use Rattle.pbx_link_scope.specs.Scope.{public_imports, is_file_of, reached, visible}
use Rattle.pbx_link_scope.specs.Pooled.{by_file}
use Rattle.pbx_link_rules_field.specs.Rules.{all_fields, is_type, is_bad_type, has_bad_type}
use Rattle.pbx_link_rules_scope.specs.Rules.{is_bad_type_name, has_bad_type_name, unbound_in_methods}
use Rattle.pbx_link_record.specs.Settled.{settled_file}
use Rattle.pbx_link_record.specs.Linked.{linked_message, linked_with, exact_by, type_by, linked_record}
use Rattle.pbx_link_record.specs.Laws.{linked_part}
use Rattle.pbx_link_record.proofs.Defines.{linking_is_change, settling_is_change}
use Rattle.pbx_link_record.proofs.FileDefines.{linked_record_messages}
use Rattle.pbx_link_rules.specs.Breaches.{keeps_rules}
use Rattle.pbx_link_rules.proofs.First.{rule_7, rule_8}
use Rattle.pbx_link_rules.proofs.RulesKept.{keeps_each}
use Rattle.pbx_link_rules.specs.PoolLaws.{undotted, message_with_file, enum_with_file, HasType}
use Rattle.pbx_link_rules.proofs.Lists.{neither, no_other, or_cases, or_left, or_right, here, there, left_nil, right_nil, none_where, any_mapped, reversed}
use Rattle.pbx_link_rules.proofs.Named.{same_name}
use Rattle.pbx_link_rules.proofs.LinkedParts.{changed_in, field_linked, extension_linked, fields_of_linked, extensions_of_linked, enums_of_linked}

-- ---- lists

-- an item that passes a test is found
pub any_of : {X : Type 0} (test : X → Bool) (xs : List X) (x : X) → Contains xs x → test x ≡ true → list_any test xs ≡ true
any_of test [] x c e = absurd (omega (arith, c.1))
any_of test (y ∷ ys) x (zero, lt, same) e = or_left (test y) (list_any test ys) (ap test same ∙ e)
any_of test (y ∷ ys) x (suc i, lt, same) e = or_right (test y) (list_any test ys) (any_of test ys x (i, omega (arith, lt), same) e)

pub not_at : {X : Type 0} (test : X → Bool) (xs : List X) (x : X) → list_any test xs ≡ false → Contains xs x → test x ≡ false
not_at test xs x none c = by_test (test x) refl
  where
    by_test : (b : Bool) → test x ≡ b → b ≡ false
    by_test true e = absurd (false≢true (sym none ∙ any_of test xs x c e))
    by_test false e = refl

any_same : {X : Type 0} (p r : X → Bool) → ((x : X) → p x ≡ r x) → (xs : List X) → list_any p xs ≡ list_any r xs
any_same p r same [] = refl
any_same p r same (x ∷ xs) = ap (λ (b : Bool). b || list_any p xs) (same x) ∙ ap (λ (b : Bool). r x || b) (any_same p r same xs)

found_there : {X : Type 0} (test : X → Bool) (xs : List X) (x : X) → find test xs ≡ Some x → Contains xs x
found_there test [] x e = absurd (cc)
found_there {X} test (y ∷ ys) x e = by_test (test y) e (found_there test ys x)
  where
    by_test : (b : Bool) → cond b (Some y) (find test ys) ≡ Some x → (find test ys ≡ Some x → Contains ys x) → Contains (y ∷ ys) x
    by_test true g ih = let same : y ≡ x = cc in subst (λ (z : X). Contains (y ∷ ys) z) same (here y ys)
    by_test false g ih = there y x ys (ih g)

some_found : {X : Type 0} (test : X → Bool) (xs : List X) → is_some (find test xs) ≡ list_any test xs
some_found test [] = refl
some_found {X} test (x ∷ xs) = by_test (test x) (some_found test xs)
  where
    by_test : (b : Bool) → is_some (find test xs) ≡ list_any test xs → is_some (cond b (Some x) (find test xs)) ≡ (b || list_any test xs)
    by_test true h = refl
    by_test false h = h

-- an item of a list that is made item by item
pub record Source {X Y : Type 0} (h : X → Y) (xs : List X) (y : Y) : Type 0 where
  pub item : X
  pub within : Contains xs item
  pub made : h item ≡ y

pub source : {X Y : Type 0} (h : X → Y) (xs : List X) (y : Y) → Contains (map h xs) y → Source h xs y
source h [] y c = absurd (omega (arith, c.1))
source h (x ∷ xs) y (zero, lt, same) = record { item = x; within = here x xs; made = same }
source h (x ∷ xs) y (suc i, lt, same) =
    let s = source h xs y (i, omega (arith, lt), same) in
    record { item = s.item; within = there x s.item xs s.within; made = s.made }

-- ---- what is told of files

module _ {X : Type 0} (tell : FileDescriptorProto → List X) (test : X → Bool) where
  abbrev told : List FileDescriptorProto → Bool
  told files = list_any test (flat_map tell files)

  pub told_joined : (xs ys : List FileDescriptorProto) → told (xs ++ ys) ≡ (told xs || told ys)
  told_joined xs ys = ap (list_any test) (flat_map-append tell xs ys) ∙ list_any-append test (flat_map tell xs) (flat_map tell ys)

  told_first : (f : FileDescriptorProto) (fs : List FileDescriptorProto) → told (f ∷ fs) ≡ (list_any test (tell f) || told fs)
  told_first f fs = list_any-append test (tell f) (flat_map tell fs)

  told_reached : (names : List (List ℕ)) (fs : List FileDescriptorProto) → told (reached names fs) ≡ true → told fs ≡ true
  told_reached names [] e = e
  told_reached names (f ∷ fs) e = told_first f fs ∙ by_test (is_file_of names f) e (λ others g. told_reached others fs g)
    where
      either : ((list_any test (tell f) ≡ true) ⊎ (told (reached (public_imports f ++ names) fs) ≡ true))
          → ((others : List (List ℕ)) → told (reached others fs) ≡ true → told fs ≡ true) → (list_any test (tell f) || told fs) ≡ true
      either (inl g) ih = or_left (list_any test (tell f)) (told fs) g
      either (inr g) ih = or_right (list_any test (tell f)) (told fs) (ih (public_imports f ++ names) g)

      by_test : (b : Bool) → told (cond b (f ∷ reached (public_imports f ++ names) fs) (reached names fs)) ≡ true
          → ((others : List (List ℕ)) → told (reached others fs) ≡ true → told fs ≡ true) → (list_any test (tell f) || told fs) ≡ true
      by_test true g ih =
          either
          (or_cases (list_any test (tell f)) (told (reached (public_imports f ++ names) fs))
          (sym (told_first f (reached (public_imports f ++ names) fs)) ∙ g)) ih
      by_test false g ih = or_right (list_any test (tell f)) (told fs) (ih names g)

  told_reversed : (fs : List FileDescriptorProto) → told (reverse fs) ≡ true → told fs ≡ true
  told_reversed [] e = e
  told_reversed (f ∷ fs) e =
      told_first f fs
      ∙ either (or_cases (told (reverse fs)) (told (f ∷ [])) (sym (ap told (reversed f fs) ∙ told_joined (reverse fs) (f ∷ [])) ∙ e)) (told_reversed fs)
    where
      alone : told (f ∷ []) ≡ true → list_any test (tell f) ≡ true
      alone g = only (or_cases (list_any test (tell f)) (told []) (sym (told_first f []) ∙ g))
        where
          only : (list_any test (tell f) ≡ true) ⊎ (told [] ≡ true) → list_any test (tell f) ≡ true
          only (inl k) = k
          only (inr k) = absurd (false≢true k)

      either : (told (reverse fs) ≡ true) ⊎ (told (f ∷ []) ≡ true) → (told (reverse fs) ≡ true → told fs ≡ true)
          → (list_any test (tell f) || told fs) ≡ true
      either (inl g) ih = or_right (list_any test (tell f)) (told fs) (ih g)
      either (inr g) ih = or_left (list_any test (tell f)) (told fs) (alone g)

  -- what a file sees is in the files with its linked record, which tells the same
  pub told_seen : (before : List FileDescriptorProto) (f g : FileDescriptorProto) → list_any test (tell g) ≡ list_any test (tell f)
      → told (visible before f) ≡ true → told (before ++ g ∷ []) ≡ true
  told_seen before f g same e =
      told_joined before (g ∷ []) ∙ either (or_cases (list_any test (tell f)) (told others) (sym (told_first f others) ∙ e))
    where
      others : List FileDescriptorProto
      others = reached f.dependency (reverse before)

      either : (list_any test (tell f) ≡ true) ⊎ (told others ≡ true) → (told before || told (g ∷ [])) ≡ true
      either (inl k) =
          or_right (told before) (told (g ∷ [])) (told_first g [] ∙ or_left (list_any test (tell g)) (told []) (same ∙ k))
      either (inr k) = or_left (told before) (told (g ∷ [])) (told_reversed before (told_reached f.dependency (reverse before) k))

  -- beside the index of the file
  told_beside : (k : ℕ) (files : List FileDescriptorProto)
      → list_any (λ (t : ℕ × X). test t.1) (flat_map (λ f. map (λ x. (f.0, x)) (tell f.1)) (enumerate_from k files)) ≡ told files
  told_beside k [] = refl
  told_beside k (f ∷ fs) =
      let rest : List (ℕ × X) = flat_map (λ g. map (λ x. (g.0, x)) (tell g.1)) (enumerate_from (k + 1) fs) in
      list_any-append (λ (t : ℕ × X). test t.1) (map (λ (x : X). (k, x)) (tell f)) rest
      ∙ ap (λ (b : Bool). b || list_any (λ (t : ℕ × X). test t.1) rest) (any_mapped (λ (t : ℕ × X). test t.1) (λ (x : X). (k, x)) (tell f))
      ∙ ap (λ (b : Bool). list_any test (tell f) || b) (told_beside (k + 1) fs) ∙ sym (told_first f fs)

  pub is_there : (files : List FileDescriptorProto) → told files ≡ true → is_some (find (λ (t : ℕ × X). test t.1) (by_file tell files)) ≡ true
  is_there files e = some_found (λ (t : ℕ × X). test t.1) (by_file tell files) ∙ told_beside 0 files ∙ e

-- ---- types by their names

module _ (q : List ℕ) where
  abbrev pub message_named : Part DescriptorProto → Bool
  message_named p = bytes_eq (message_name p) q

  abbrev enum_named : Part EnumDescriptorProto → Bool
  enum_named e = bytes_eq (enum_name e) q

  -- a linked record has messages and enums of the same names
  pub messages_kept : (seen : List FileDescriptorProto) (f : FileDescriptorProto)
      → list_any message_named (messages (settled_file (linked_with seen f))) ≡ list_any message_named (messages f)
  messages_kept seen f =
      ap (list_any message_named) (linked_record_messages seen f) ∙ any_mapped message_named (linked_part seen) (messages f)
      ∙ any_same (λ p. message_named (linked_part seen p)) message_named
      (λ p. ap (λ (n : List ℕ). bytes_eq (qualified p.scope n) q)
      (settling_is_change.name p.scope (linked_message seen p.scope p.item) ∙ (linking_is_change seen).name p.scope p.item)) (messages f)

  enums_kept : (seen : List FileDescriptorProto) (f : FileDescriptorProto)
      → list_any enum_named (enums (settled_file (linked_with seen f))) ≡ list_any enum_named (enums f)
  enums_kept seen f = ap (list_any enum_named) (enums_of_linked seen f) ∙ any_mapped enum_named _ (enums f)

  -- a bound type of this name, by its sort
  abbrev pub message_bound : Bound → Bool
  message_bound (to_message p) = message_named p
  message_bound (to_enum e) = false

  abbrev enum_bound : Bound → Bool
  enum_bound (to_message p) = false
  enum_bound (to_enum e) = enum_named e

  none_bound : {X : Type 0} (v : X → Bound) (test : Bound → Bool) → ((x : X) → test (v x) ≡ false) → (xs : List X) → list_any test (map v xs) ≡ false
  none_bound v test none [] = refl
  none_bound v test none (x ∷ xs) = no_other (test (v x)) (list_any test (map v xs)) (none x) (none_bound v test none xs)

  or_none : (a b : Bool) → b ≡ false → (a || b) ≡ a
  or_none true b e = refl
  or_none false b e = e

  pub message_types : (files : List FileDescriptorProto) → list_any message_bound (types files) ≡ list_any message_named (flat_map messages files)
  message_types [] = refl
  message_types (f ∷ fs) =
      list_any-append message_bound (map to_message (messages f) ++ map to_enum (enums f)) (types fs)
      ∙ ap (λ (b : Bool). b || list_any message_bound (types fs))
      (list_any-append message_bound (map to_message (messages f)) (map to_enum (enums f))
      ∙ or_none (list_any message_bound (map to_message (messages f))) _ (none_bound to_enum message_bound (λ e. refl) (enums f))
      ∙ any_mapped message_bound to_message (messages f))
      ∙ ap (λ (b : Bool). list_any message_named (messages f) || b) (message_types fs) ∙ sym (told_first messages message_named f fs)

  enum_types : (files : List FileDescriptorProto) → list_any enum_bound (types files) ≡ list_any enum_named (flat_map enums files)
  enum_types [] = refl
  enum_types (f ∷ fs) =
      list_any-append enum_bound (map to_message (messages f) ++ map to_enum (enums f)) (types fs)
      ∙ ap (λ (b : Bool). b || list_any enum_bound (types fs))
      (list_any-append enum_bound (map to_message (messages f)) (map to_enum (enums f))
      ∙ ap (λ (b : Bool). b || list_any enum_bound (map to_enum (enums f))) (none_bound to_message enum_bound (λ p. refl) (messages f))
      ∙ any_mapped enum_bound to_enum (enums f))
      ∙ ap (λ (b : Bool). list_any enum_named (enums f) || b) (enum_types fs) ∙ sym (told_first enums enum_named f fs)

-- ---- what a name is bound to is one of the types that are seen

module _ (seen : List FileDescriptorProto) (t : Bound) where
  named_there : (name : List ℕ) → type_named seen name ≡ Some t → Contains (types seen) t
  unfolding type_named
  named_there name e = found_there (λ (b : Bound). bytes_eq (bound_name b) name) (types seen) t e

  first_there : (name : List ℕ) (scopes : List (List ℕ)) → first_type seen name scopes ≡ Some t → Contains (types seen) t
  unfolding first_type
  first_there name [] e = absurd (cc)
  first_there name (s ∷ ss) e = at_type (type_named seen (qualified s name)) refl e (first_there name ss)
    where
      at_type : (o : Option Bound) → type_named seen (qualified s name) ≡ o → option_or o (first_type seen name ss) ≡ Some t
          → (first_type seen name ss ≡ Some t → Contains (types seen) t) → Contains (types seen) t
      at_type None w g ih = ih g
      at_type (Some b) w g ih = named_there (qualified s name) (w ∙ g)

  in_first_there : (name : List ℕ) (scopes : List (List ℕ)) → type_in_first seen name scopes ≡ Some t → Contains (types seen) t
  unfolding type_in_first
  in_first_there name [] e = absurd (cc)
  in_first_there name (s ∷ ss) e = by_test (is_scope_name seen (qualified s (first_part name))) e (in_first_there name ss)
    where
      by_test : (b : Bool) → (if b then type_named seen (qualified s name) else type_in_first seen name ss) ≡ Some t
          → (type_in_first seen name ss ≡ Some t → Contains (types seen) t) → Contains (types seen) t
      by_test true g ih = named_there (qualified s name) g
      by_test false g ih = ih g

  from_there : (scope name : List ℕ) → type_from seen scope name ≡ Some t → Contains (types seen) t
  from_there scope name e = by_test (has_dot name) e
    where
      by_test : (b : Bool) → (if b then type_in_first seen name (outward scope) else first_type seen name (outward scope)) ≡ Some t → Contains (types seen) t
      by_test true g = in_first_there name (outward scope) g
      by_test false g = first_there name (outward scope) g

  pub bound_there : (scope : List ℕ) (name : Option (List ℕ)) → bound_if seen scope name ≡ Some t → Contains (types seen) t
  unfolding bound
  bound_there scope None e = absurd (cc)
  bound_there scope (Some []) e = absurd (cc)
  bound_there scope (Some (b ∷ bs)) e = by_test (b == 46) e
    where
      by_test : (c : Bool) → (if c then type_named seen bs else type_from seen scope (b ∷ bs)) ≡ Some t → Contains (types seen) t
      by_test true g = named_there bs g
      by_test false g = from_there scope (b ∷ bs) g

-- ---- the type of a field that keeps the rules

module _ (seen : List FileDescriptorProto) where
  abbrev MessageSeen : Option ℤ → Option (List ℕ) → Type 0
  MessageSeen kind name = is_number kind 11 ≡ true → list_any (message_named (undotted name)) (flat_map messages seen) ≡ true

  abbrev EnumSeen : Option ℤ → Option (List ℕ) → Type 0
  EnumSeen kind name = is_number kind 14 ≡ true → list_any (enum_named (undotted name)) (flat_map enums seen) ≡ true

  typed : (kind : Option ℤ) (name : Option (List ℕ)) (b : Option Bound) → is_bad_type_name name b kind ≡ false → is_bad_type kind name ≡ false
      → ((t : Bound) → b ≡ Some t → Contains (types seen) t) → MessageSeen (type_by kind b) (exact_by name b) × EnumSeen (type_by kind b) (exact_by name b)
  typed kind name (Some (to_message p)) u v there = (
    λ e. sym (message_types (message_name p) seen)
        ∙ any_of (message_bound (message_name p)) (types seen) (to_message p) (there (to_message p) refl) (same_name (message_name p)),
    λ e. absurd (false≢true e),
  )
  typed kind name (Some (to_enum p)) u v there = (
    λ e. absurd (false≢true e),
    λ e. sym (enum_types (enum_name p) seen)
        ∙ any_of (enum_bound (enum_name p)) (types seen) (to_enum p) (there (to_enum p) refl) (same_name (enum_name p)),
  )
  typed kind (Some name) None u v there = absurd (false≢true (sym u))
  typed None None None u v there = (λ e. absurd (false≢true e), λ e. absurd (false≢true e))
  typed (Some z) None None u v there =
      let named = neither (is_number (Some z) 11) (is_number (Some z) 14) (neither (not (is_type z)) _ v).1 in
      (λ e. absurd (false≢true (sym named.0 ∙ e)), λ e. absurd (false≢true (sym named.1 ∙ e)))

-- ---- fields and extensions of a linked record

module _ (before : List FileDescriptorProto) (f : FileDescriptorProto) (kept : keeps_rules before f ≡ true) where
  abbrev seen : List FileDescriptorProto
  seen = visible before f

  abbrev bad_name : Part FieldDescriptorProto → Bool
  bad_name p = has_bad_type_name seen p.scope p.item

  no_bad_name : list_any bad_name (all_fields f) ≡ false
  no_bad_name =
      let all = left_nil _ (unbound_in_methods seen f) (sym (rule_7 before seen f) ∙ keeps_each before f kept 7) in
      list_any-append bad_name (fields f) (extensions f)
      ∙ no_other (list_any bad_name (fields f)) (list_any bad_name (extensions f))
      (none_where bad_name (λ p. at p 6) (fields f) (left_nil _ _ (left_nil _ _ all)))
      (none_where bad_name (λ p. at p 6) (extensions f) (left_nil _ _ (right_nil _ _ all)))

  abbrev bad_type : Part FieldDescriptorProto → Bool
  bad_type p = has_bad_type p.item

  no_bad_type : list_any bad_type (all_fields f) ≡ false
  no_bad_type = none_where bad_type (λ p. at p 5) (all_fields f) (sym (rule_8 before seen f) ∙ keeps_each before f kept 8)

  abbrev all : List FileDescriptorProto
  all = before ++ linked_record before f ∷ []

  has_type : (after : List FileDescriptorProto) (y : Part FieldDescriptorProto) → Contains (all_fields f) y → (x : FieldDescriptorProto)
      → x.kind ≡ type_by y.item.kind (bound_if seen y.scope y.item.type_name)
      → x.type_name ≡ exact_by y.item.type_name (bound_if seen y.scope y.item.type_name) → HasType (all ++ after) x
  has_type after y c x kind name =
      let b : Option Bound = bound_if seen y.scope y.item.type_name in
      let at_y = typed seen y.item.kind y.item.type_name b (not_at bad_name (all_fields f) y no_bad_name c) (not_at bad_type (all_fields f) y no_bad_type c)
      (λ t e. bound_there seen t y.scope y.item.type_name e) in
      let q : List ℕ = undotted (exact_by y.item.type_name b) in
      let same : q ≡ undotted x.type_name = ap undotted (sym name) in
      record {
        message = λ e. ap (λ (n : List ℕ). is_some (message_with_file (all ++ after) n)) (sym same)
            ∙ is_there messages (message_named q) (all ++ after)
            (told_joined messages (message_named q) all after
            ∙ or_left _ _ (told_seen messages (message_named q) before f (linked_record before f) (messages_kept q seen f)
            (at_y.0 (ap (λ (k : Option ℤ). is_number k 11) (sym kind) ∙ e))));
        enum = λ e. ap (λ (n : List ℕ). is_some (enum_with_file (all ++ after) n)) (sym same)
            ∙ is_there enums (enum_named q) (all ++ after)
            (told_joined enums (enum_named q) all after
            ∙ or_left _ _ (told_seen enums (enum_named q) before f (linked_record before f) (enums_kept q seen f)
            (at_y.1 (ap (λ (k : Option ℤ). is_number k 14) (sym kind) ∙ e))));
      }

  pub linked_have_types : (after : List FileDescriptorProto) (x : Part FieldDescriptorProto) → Contains (all_fields (linked_record before f)) x
      → HasType (all ++ after) x.item
  linked_have_types after x c =
      by_list (Contains-append_cases (fields (linked_record before f)) (extensions (linked_record before f)) x c)
    where
      of_field : Source (changed_in (field_linked seen)) (fields f) x → HasType (all ++ after) x.item
      of_field s =
          subst (λ (p : Part FieldDescriptorProto). HasType (all ++ after) p.item) s.made
          (has_type after s.item (Contains-append_left (fields f) (extensions f) s.item s.within) (changed_in (field_linked seen) s.item).item refl refl)

      of_extension : Source (changed_in (extension_linked seen)) (extensions f) x → HasType (all ++ after) x.item
      of_extension s =
          subst (λ (p : Part FieldDescriptorProto). HasType (all ++ after) p.item) s.made
          (has_type after s.item (Contains-append_right (fields f) (extensions f) s.item s.within) (changed_in (extension_linked seen) s.item).item refl refl)

      by_list : Contains (fields (linked_record before f)) x ⊎ Contains (extensions (linked_record before f)) x → HasType (all ++ after) x.item
      by_list (inl k) =
          of_field (source (changed_in (field_linked seen)) (fields f) x
          (subst (λ (ps : List (Part FieldDescriptorProto)). Contains ps x) (fields_of_linked seen f) k))
      by_list (inr k) =
          of_extension
          (source (changed_in (extension_linked seen)) (extensions f) x
          (subst (λ (ps : List (Part FieldDescriptorProto)). Contains ps x) (extensions_of_linked seen f) k))
