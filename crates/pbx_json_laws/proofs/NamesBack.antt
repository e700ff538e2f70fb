-- The key that a field is written under names the field, where no key has two meanings.
use Rattle.std.proofs.Common.{◌≡◌, ℕ, zero, suc, ◌≤◌, ◌==◌, ◌&&◌, ◌||◌, nat_le, List, [], ◌∷◌, length, filter, map, Bool, true, false, if◌then◌else◌, Option, Some, None, option_map, find, refl, ap, sym, ◌∙◌, arith}
use Rattle.std.specs.Prelude.{not}
use Rattle.std.specs.List.{list_all, list_any}
use Rattle.std.specs.Option.{option_or}
use Rattle.std.specs.Str.{bytes_eq}
use Rattle.std.proofs.lemmas.Bool.Decides.{nat_tests}
use Rattle.std.proofs.lemmas.Slice.Eq.{bytes_eq-Decides}
use Rattle.pbx_content.specs.Shape.{declared_of, declared_at, field_of}
use Rattle.pbx_content.specs.Sound.{IsProper}
use Rattle.pbx_content.specs.declared.shape.FieldShape.{FieldShape}
use Rattle.pbx_content.specs.declared.shape.MessageShape.{MessageShape}
use Rattle.pbx_content.specs.declared.shape.Shape.{Shape}
use Rattle.pbx_json_meaning.specs.Canonical.{Writing, key_of_field}
use Rattle.pbx_json_meaning.specs.Urls.{is_type_key}
use Rattle.pbx_json_meaning.specs.Clash.{Naming, ByJsonName, ByAnyName, is_by_any_name, naming_of, is_shared, is_of_extension, is_name_of_another, clashes, least_key, clashing_key, first_clash, first_misshapen, name_fault}
use Rattle.pbx_json_meaning.specs.Laws.{ClearByAnyName}
use Rattle.pbx_json_meaning.specs.Named.{IsWellNamed}
use Rattle.pbx_json_meaning.specs.Names.{field_named, json_name_is, name_is, extension_is}
use Rattle.pbx_json_meaning.specs.declared.names_fault.NameFault.{NameFault}
use Rattle.pbx_json_meaning.specs.declared.names_fault.NameFault.TheVariants.{JsonNames}
use Rattle.pbx_json_laws.proofs.Numbers.{found_number, number_of_field}
use Rattle.pbx_json_laws.proofs.Parts.{both, neither, from_not, found_passes, found_with, of_some}

-- ---- fields of a list

-- what all fields pass the field of a number passes
field_passes : (q : FieldShape → Bool) (n : ℕ) (fs : List FieldShape) (f : FieldShape) → list_all q fs ≡ true → field_of n fs ≡ Some f → q f ≡ true
field_passes q n [] f a h = absurd (cc)
field_passes q n (x ∷ fs) f a h = at (n == x.number) h (field_passes q n fs f parts.1)
  where
    parts : (q x ≡ true) × (list_all q fs ≡ true)
    parts = both (q x) (list_all q fs) a

    at : (b : Bool) → (if b then Some x else field_of n fs) ≡ Some f → (field_of n fs ≡ Some f → q f ≡ true) → q f ≡ true
    at true k ih = let same : x ≡ f = of_some x f k in rw (← same) parts.0
    at false k ih = ih k

-- what no field passes that of a number does not
field_fails : (q : FieldShape → Bool) (n : ℕ) (fs : List FieldShape) (f : FieldShape) → list_any q fs ≡ false → field_of n fs ≡ Some f → q f ≡ false
field_fails q n [] f a h = absurd (cc)
field_fails q n (x ∷ fs) f a h = at (n == x.number) h (field_fails q n fs f parts.1)
  where
    parts : (q x ≡ false) × (list_any q fs ≡ false)
    parts = neither (q x) (list_any q fs) a

    at : (b : Bool) → (if b then Some x else field_of n fs) ≡ Some f → (field_of n fs ≡ Some f → q f ≡ false) → q f ≡ false
    at true k ih = let same : x ≡ f = of_some x f k in rw (← same) parts.0
    at false k ih = ih k

-- a field that passes is one of those that do
some_left : (p : FieldShape → Bool) (n : ℕ) (fs : List FieldShape) (f : FieldShape) → field_of n fs ≡ Some f → p f ≡ true → 1 ≤ length (filter p fs)
some_left p n [] f h y = absurd (cc)
some_left p n (x ∷ fs) f h y = at (n == x.number) h (p x) refl (λ k. some_left p n fs f k y)
  where
    at : (b : Bool) → (if b then Some x else field_of n fs) ≡ Some f → (c : Bool) → p x ≡ c → (field_of n fs ≡ Some f → 1 ≤ length (filter p fs))
        → 1 ≤ length (if c then x ∷ filter p fs else filter p fs)
    at b k true e ih = omega arith
    at true k false e ih =
        let same : x ≡ f = of_some x f k in
        let bad : p x ≡ true = ap p same ∙ y in
        absurd (cc)
    at false k false e ih = ih k

-- where fewer than two pass, the one is found
one_found : (p : FieldShape → Bool) (n : ℕ) (fs : List FieldShape) (f : FieldShape) → field_of n fs ≡ Some f → p f ≡ true
    → nat_le 2 (length (filter p fs)) ≡ false → find p fs ≡ Some f
one_found p n [] f h y few = absurd (cc)
one_found p n (x ∷ fs) f h y few = at (n == x.number) h (p x) refl few (one_found p n fs f) (some_left p n fs f)
  where
    at : (b : Bool) → (if b then Some x else field_of n fs) ≡ Some f → (c : Bool) → p x ≡ c
        → nat_le 2 (length (if c then x ∷ filter p fs else filter p fs)) ≡ false
        → (field_of n fs ≡ Some f → p f ≡ true → nat_le 2 (length (filter p fs)) ≡ false → find p fs ≡ Some f)
        → (field_of n fs ≡ Some f → p f ≡ true → 1 ≤ length (filter p fs))
        → (if c then Some x else find p fs) ≡ Some f
    at true k true e few ih left = k
    at true k false e few ih left =
        let same : x ≡ f = of_some x f k in
        let bad : p x ≡ true = ap p same ∙ y in
        absurd (cc)
    at false k false e few ih left = ih k y few
    at false k true e few ih left =
        let more : 1 ≤ length (filter p fs) = left k y in
        absurd (let bad : nat_le 2 (suc (length (filter p fs))) ≡ true = grind (arith, nat_tests) in cc)

-- ---- keys at fault

none_passes : (p : FieldShape → Bool) (fs : List FieldShape) → least_key (map (λ (f : FieldShape). f.json_name) (filter p fs)) ≡ None
    → list_all (λ f. not (p f)) fs ≡ true
none_passes p [] h = refl
none_passes p (x ∷ fs) h = at (p x) h (none_passes p fs)
  where
    at : (b : Bool) → least_key (map (λ (f : FieldShape). f.json_name) (if b then x ∷ filter p fs else filter p fs)) ≡ None
        → (least_key (map (λ (f : FieldShape). f.json_name) (filter p fs)) ≡ None → list_all (λ f. not (p f)) fs ≡ true)
        → (not b && list_all (λ f. not (p f)) fs) ≡ true
    at true k ih = absurd (cc)
    at false k ih = ih k

clash_parts : (o : Option (List ℕ)) (name : List ℕ) (rest : Option NameFault) → option_or (option_map (λ key. JsonNames name key) o) rest ≡ None
    → (o ≡ None) × (rest ≡ None)
clash_parts None name rest h = (refl, h)
clash_parts (Some k) name rest h = absurd (cc)

-- neither is there
nor_both : {X : Type 0} (o p : Option X) → option_or o p ≡ None → (o ≡ None) × (p ≡ None)
nor_both None p h = (refl, h)
nor_both (Some x) p h = absurd (cc)

no_clash_at : (naming : Naming) (ms : List MessageShape) (t : ℕ) → first_clash naming ms ≡ None
    → list_all (λ f. not (clashes naming (declared_at ms t) f)) (declared_at ms t) ≡ true
no_clash_at naming [] t h = refl
no_clash_at naming (m ∷ ms) zero h =
    none_passes (clashes naming m.fields) m.fields (clash_parts (clashing_key naming m.fields) m.full_name (first_clash naming ms) h).0
no_clash_at naming (m ∷ ms) (suc t) h = no_clash_at naming ms t (clash_parts (clashing_key naming m.fields) m.full_name (first_clash naming ms) h).1

-- no field of a type has a key at fault
pub no_clash : (naming : Naming) (shape : Shape) (t : ℕ) → name_fault naming shape ≡ None
    → list_all (λ f. not (clashes naming (declared_of shape t) f)) (declared_of shape t) ≡ true
no_clash naming shape t h = no_clash_at naming shape.messages t (nor_both (first_clash naming shape.messages) (first_misshapen shape 0 shape.messages) h).0

clash_less : (e s t x n : Bool) → not (not e && (s || t || x || (true && n))) ≡ true → (not e && (s || t || x || (false && n))) ≡ false
clash_less true s t x n h = refl
clash_less false true t x n h = absurd (cc)
clash_less false false true x n h = absurd (cc)
clash_less false false false true n h = absurd (cc)
clash_less false false false false n h = refl

fewer : (fs gs : List FieldShape) → list_all (λ f. not (clashes ByAnyName fs f)) gs ≡ true → filter (clashes ByJsonName fs) gs ≡ []
fewer fs [] h = refl
fewer fs (g ∷ gs) h =
    let parts = both (not (clashes ByAnyName fs g)) (list_all (λ f. not (clashes ByAnyName fs f)) gs) h in
    let none : clashes ByJsonName fs g ≡ false =
    clash_less g.is_extension (is_shared fs g.json_name) (is_type_key g.json_name) (is_of_extension fs g.json_name) (is_name_of_another fs g) parts.0 in
    rw none (fewer fs gs parts.1)

less_at_fault : (ms : List MessageShape) → first_clash ByAnyName ms ≡ None → first_clash ByJsonName ms ≡ None
less_at_fault [] h = refl
less_at_fault (m ∷ ms) h =
    let parts = clash_parts (clashing_key ByAnyName m.fields) m.full_name (first_clash ByAnyName ms) h in
    let none : clashing_key ByJsonName m.fields ≡ None =
    ap (λ gs. least_key (map (λ (f : FieldShape). f.json_name) gs)) (fewer m.fields m.fields (none_passes (clashes ByAnyName m.fields) m.fields parts.0)) in
    ap (λ o. option_or (option_map (λ key. JsonNames m.full_name key) o) (first_clash ByJsonName ms)) none ∙ less_at_fault ms parts.1

-- where no name is at fault, none is under some of the names
pub clear_by_any_name : ClearByAnyName
clear_by_any_name shape ByAnyName h = h
clear_by_any_name shape ByJsonName h =
    let parts = nor_both (first_clash ByAnyName shape.messages) (first_misshapen shape 0 shape.messages) h in
    ap (λ o. option_or o (first_misshapen shape 0 shape.messages)) (less_at_fault shape.messages parts.0) ∙ parts.1

-- ---- the key of a field

bytes_of : (k l : List ℕ) → bytes_eq k l ≡ true → k ≡ l
bytes_of k l e = (bytes_eq-Decides k l).0 e

bytes_self : (k : List ℕ) → bytes_eq k k ≡ true
bytes_self k = (bytes_eq-Decides k k).1 refl

-- a field of the message itself has no key at fault
own_parts : (own shared type extended named : Bool) → not own ≡ true → not (not own && (shared || type || extended || named)) ≡ true
    → (shared ≡ false) × (extended ≡ false) × (named ≡ false)
own_parts false false false false false e h = (refl, refl, refl)
own_parts true s t x n e h = absurd (cc)
own_parts false true t x n e h = absurd (cc)
own_parts false false true x n e h = absurd (cc)
own_parts false false false true n e h = absurd (cc)
own_parts false false false false true e h = absurd (cc)

own_type : (own shared type extended named : Bool) → own ≡ false → not (not own && (shared || type || extended || named)) ≡ true → type ≡ false
own_type false s false x n e h = refl
own_type true s type x n e h = absurd (cc)
own_type false true true x n e h = absurd (cc)
own_type false false true x n e h = absurd (cc)

-- the JSON name of a field of the message itself is not that of the type of an `Any`
pub json_plain : (naming : Naming) (shape : Shape) (t n : ℕ) (f : FieldShape) → name_fault naming shape ≡ None → field_of n (declared_of shape t) ≡ Some f
    → f.is_extension ≡ false → is_type_key f.json_name ≡ false
json_plain naming shape t n f clean e own =
    let ds = declared_of shape t in
    own_type f.is_extension (is_shared ds f.json_name) (is_type_key f.json_name) (is_of_extension ds f.json_name) (is_by_any_name naming && is_name_of_another ds f) own
    (field_passes (λ f. not (clashes naming ds f)) n ds f (no_clash naming shape t clean) e)

module _ (naming : Naming) (shape : Shape) (t : ℕ) (proper : IsProper shape) (well : IsWellNamed shape) (clean : name_fault naming shape ≡ None) where
  -- what is known of a field's JSON name
  record Apart (g : FieldShape) : Type 0 where
    alone : is_shared (declared_of shape t) g.json_name ≡ false
    no_extension : is_of_extension (declared_of shape t) g.json_name ≡ false
    no_name : (is_by_any_name naming && is_name_of_another (declared_of shape t) g) ≡ false

  apart_of : (g : FieldShape) → not g.is_extension ≡ true → not (clashes naming (declared_of shape t) g) ≡ true → Apart g
  apart_of g own h =
      let ds = declared_of shape t in
      let it = own_parts g.is_extension (is_shared ds g.json_name) (is_type_key g.json_name) (is_of_extension ds g.json_name) (is_by_any_name naming && is_name_of_another ds g) own h in
      record { alone = it.0; no_extension = it.1; no_name = it.2 }

  -- a field of the message itself that is found by a name
  found_apart : (p : FieldShape → Bool) (g : FieldShape) → find p (declared_of shape t) ≡ Some g → not g.is_extension ≡ true → Apart g
  found_apart p g e own = apart_of g own (found_with p (λ f. not (clashes naming (declared_of shape t) f)) (declared_of shape t) g (no_clash naming shape t clean) e)

  -- the field of a number has it
  same_number : (n : ℕ) (f : FieldShape) → field_of n (declared_of shape t) ≡ Some f → n ≡ f.number
  same_number n f e = let it = (number_of_field n (declared_of shape t) f e).0 in grind (arith, nat_tests, it)

  json_found : (n : ℕ) (f : FieldShape) → field_of n (declared_of shape t) ≡ Some f → f.is_extension ≡ false → find (json_name_is f.json_name) (declared_of shape t) ≡ Some f
  json_found n f e own =
      let yes' : json_name_is f.json_name f ≡ true = rw (own, bytes_self f.json_name) refl in
      let here : Apart f = apart_of f (rw own refl) (field_passes (λ f. not (clashes naming (declared_of shape t) f)) n (declared_of shape t) f (no_clash naming shape t clean) e) in
      one_found (json_name_is f.json_name) n (declared_of shape t) f e yes' here.alone

  by_json : (n : ℕ) (f : FieldShape) → field_of n (declared_of shape t) ≡ Some f → f.is_extension ≡ false → field_named f.json_name (declared_of shape t) ≡ Some f
  by_json n f e own = rw (json_found n f e own) refl

  -- a field of the message itself under its own name
  by_name : (n : ℕ) (f : FieldShape) → is_by_any_name naming ≡ true → field_of n (declared_of shape t) ≡ Some f → f.is_extension ≡ false
      → field_named f.name (declared_of shape t) ≡ Some f
  by_name n f named e own = at (find (json_name_is f.name) (declared_of shape t)) refl
    where
      at : (o : Option FieldShape) → find (json_name_is f.name) (declared_of shape t) ≡ o
          → option_or o (option_or (find (name_is f.name) (declared_of shape t)) (find (extension_is f.name) (declared_of shape t))) ≡ Some f
      at None p = rw (well.fields t n f (e, own)) refl
      at (Some g) p =
          let ds = declared_of shape t in
          let test = both (not g.is_extension) (bytes_eq g.json_name f.name) (found_passes (json_name_is f.name) ds g p) in
          let key : g.json_name ≡ f.name = bytes_of g.json_name f.name test.1 in
          let free : is_name_of_another ds g ≡ false = ap (λ x. x && is_name_of_another ds g) (sym named) ∙ (found_apart (json_name_is f.name) g p test.0).no_name in
          let other : (name_is g.json_name f && not (f.number == g.number)) ≡ false =
          field_fails (λ (h : FieldShape). name_is g.json_name h && not (h.number == g.number)) n ds f free e in
          let is : name_is g.json_name f ≡ true = rw (own, key, bytes_self f.name) refl in
          let same : (f.number == g.number) ≡ true = second (name_is g.json_name f) (f.number == g.number) is other in
          let equal : f.number ≡ g.number = grind (arith, nat_tests) in
          sym (found_number ds (proper.types t).distinct (json_name_is f.name) g p) ∙ ap (λ k. field_of k ds) (sym equal ∙ sym (same_number n f e)) ∙ e
        where
          second : (x y : Bool) → x ≡ true → (x && not y) ≡ false → y ≡ true
          second true true h k = refl
          second true false h k = absurd (cc)
          second false y h k = absurd (cc)

  -- an extension
  by_extension : (n : ℕ) (f : FieldShape) → field_of n (declared_of shape t) ≡ Some f → f.is_extension ≡ true
      → field_named f.json_name (declared_of shape t) ≡ Some f
  by_extension n f e ext = at (find (json_name_is f.json_name) (declared_of shape t)) refl (find (name_is f.json_name) (declared_of shape t)) refl
    where
      at : (o : Option FieldShape) → find (json_name_is f.json_name) (declared_of shape t) ≡ o
          → (q : Option FieldShape) → find (name_is f.json_name) (declared_of shape t) ≡ q
          → option_or o (option_or q (find (extension_is f.json_name) (declared_of shape t))) ≡ Some f
      at None p None q = well.extensions t n f (e, ext)
      at None p (Some g) q =
          let ds = declared_of shape t in
          let test = both (not g.is_extension) (bytes_eq g.name f.json_name) (found_passes (name_is f.json_name) ds g q) in
          let key : g.name ≡ f.json_name = bytes_of g.name f.json_name test.1 in
          let none : find (extension_is g.name) ds ≡ None =
          well.apart t g.number g (found_number ds (proper.types t).distinct (name_is f.json_name) g q, from_not g.is_extension test.0) in
          let some : find (extension_is g.name) ds ≡ Some f = ap (λ k. find (extension_is k) ds) key ∙ well.extensions t n f (e, ext) in
          absurd (cc)
      at (Some g) p q r =
          let ds = declared_of shape t in
          let test = both (not g.is_extension) (bytes_eq g.json_name f.json_name) (found_passes (json_name_is f.json_name) ds g p) in
          let key : f.json_name ≡ g.json_name = sym (bytes_of g.json_name f.json_name test.1) in
          let free = (found_apart (json_name_is f.json_name) g p test.0).no_extension in
          let no : extension_is g.json_name f ≡ false = field_fails (extension_is g.json_name) n ds f free e in
          let is : extension_is g.json_name f ≡ true = rw (ext, key, bytes_self g.json_name) refl in
          absurd (cc)

-- the key that a field is written under names the field
pub key_names : (shape : Shape) (t : ℕ) (o : Writing) → IsProper shape → IsWellNamed shape → name_fault (naming_of o.options) shape ≡ None
    → (n : ℕ) (f : FieldShape) → field_of n (declared_of shape t) ≡ Some f → field_named (key_of_field o f) (declared_of shape t) ≡ Some f
key_names shape t o proper well clean n f e = at o.options.use_proto_field_name refl f.is_extension refl
  where
    at : (b : Bool) → o.options.use_proto_field_name ≡ b → (x : Bool) → f.is_extension ≡ x
        → field_named (if b && not x then f.name else f.json_name) (declared_of shape t) ≡ Some f
    at true p true q = by_extension (naming_of o.options) shape t proper well clean n f e q
    at true p false q = by_name (naming_of o.options) shape t proper well clean n f (ap (λ b. is_by_any_name (if b then ByAnyName else ByJsonName)) p) e q
    at false p true q = by_extension (naming_of o.options) shape t proper well clean n f e q
    at false p false q = by_json (naming_of o.options) shape t proper well clean n f e q
