-- Parts by their indexes, and the first part of a property.
use Rattle.std.proofs.Common.{◌≡◌, ◌∙◌, ℕ, zero, suc, ◌+◌, ◌<◌, ◌≤◌, nat_lt, cond, not, List, [], ◌∷◌, map, drop, length, get_or, Bool, true, false}
use Rattle.std.proofs.Common.{Option, Some, None, find, refl, ap, sym, subst, arith}
use Rattle.std.specs.Prelude.{position, slice_get, option_map, IsSome, Contains}
use Rattle.std.specs.List.{position_or_len, enumerate_from, flat_map}
use Rattle.std.proofs.Math.ListN.{drop_of_length-le}
use Rattle.std.proofs.lemmas.List.{drop_more, get_or-map, length-map}
use Rattle.std.proofs.lemmas.List.Elements.{Contains-append_left, Contains-append_right}
use Rattle.std.proofs.lemmas.List.Folds.{find_at}
use Rattle.std.proofs.lemmas.List.FromFn.{length-enumerate_from, get_or-enumerate_from}
use Rattle.std.proofs.lemmas.Bool.Decides.{nat_tests}
use Rattle.std.proofs.lemmas.Option.{slice_get-get_or, slice_get_past}
use Rattle.pbx_desc_records.specs.declared.file.FileDescriptorProto.{FileDescriptorProto}
use Rattle.pbx_link_definitions.specs.Definitions.{Part, Place, part, parts}
use Rattle.pbx_link_meaning.specs.Descriptors.{Described, described, described_file, all_files, all_parts}
use Rattle.pbx_link.specs.Tables.{part_at}

-- ---- the first of what is left of a list

pub next_at : {X Y : Type 0} (g : X → Y) (xs : List X) (i : ℕ) (d : X) → i < length xs → drop i (map g xs) ≡ g (get_or xs i d) ∷ drop (i + 1) (map g xs)
next_at {X} {Y} g xs i d lt =
    let within : i < length (map g xs) = omega (arith, length-map xs g) in
    drop_more (map g xs) i (g d) within ∙ ap (λ (y : Y). y ∷ drop (i + 1) (map g xs)) (get_or-map g xs i d (g d) lt)

pub next_mapped : {X Y : Type 0} (g : X → Y) (xs : List X) (i : ℕ) (x : X) → i < length xs → x ≡ get_or xs i x
    → drop i (map g xs) ≡ g x ∷ drop (i + 1) (map g xs)
next_mapped {X} {Y} g xs i x lt is = next_at g xs i x lt ∙ ap (λ (y : X). g y ∷ drop (i + 1) (map g xs)) (sym is)

pub next_file : (pool files p : List FileDescriptorProto) (i : ℕ) (f g : FileDescriptorProto) → files ≡ pool → p ≡ pool → g ≡ f → i < length files
    → f ≡ get_or files i f
    → drop i (all_files pool) ≡ record { pool = p; file = g } ∷ drop (i + 1) (all_files pool)
next_file pool files p i f g same other handle lt is =
    let lt' : i < length pool = subst (λ (fs : List FileDescriptorProto). i < length fs) same lt in
    let is' : f ≡ get_or pool i f = subst (λ (fs : List FileDescriptorProto). f ≡ get_or fs i f) same is in
    next_mapped (described_file pool) pool i f lt' is'
    ∙ ap (λ (q : List FileDescriptorProto). record { pool = q; file = f } ∷ drop (i + 1) (all_files pool)) (sym other)
    ∙ ap (λ (h : FileDescriptorProto). record { pool = p; file = h } ∷ drop (i + 1) (all_files pool)) (sym handle)

-- ---- parts by their indexes

pub part_there : {X : Type 0} (none : X) (ps : List (Part X)) (i : ℕ) → i < length ps → slice_get ps i ≡ Some (part_at none ps i)
part_there none ps i lt = slice_get-get_or ps i _ lt

pub some_is : {X : Type 0} (o : Option X) (x : X) → o ≡ Some x → IsSome o
some_is (Some y) x e = refl
some_is None x e = absurd (cc)

pub is_there : {X : Type 0} (none : X) (ps : List (Part X)) (i : ℕ) (o : Option (Part X)) → o ≡ slice_get ps i → i < length ps → IsSome o
is_there none ps i o e lt = some_is o (part_at none ps i) (e ∙ part_there none ps i lt)

pub part_is : {X : Type 0} (none : X) (ps : List (Part X)) (i : ℕ) (o : Option (Part X)) (p : Part X) → o ≡ slice_get ps i → i < length ps → o ≡ Some p
    → p ≡ part_at none ps i
part_is none ps i o p e lt is = let same : Some p ≡ Some (part_at none ps i) = sym is ∙ e ∙ part_there none ps i lt in cc

pub length_parts : {X : Type 0} (scope : List ℕ) (place : Place) (n : ℕ) (xs : List X) → length (parts scope place n xs) ≡ length xs
length_parts scope place n xs = length-map (enumerate_from 0 xs) _ ∙ length-enumerate_from 0 xs

pub item_is : {X : Type 0} (none : X) (scope : List ℕ) (place : Place) (n : ℕ) (xs : List X) (i : ℕ) (x : X) → i < length xs → x ≡ get_or xs i x
    → x ≡ (part_at none (parts scope place n xs) i).item
item_is {X} none scope place n xs i x lt is =
    let within : i < length (enumerate_from 0 xs) = omega (arith, length-enumerate_from 0 xs) in
    is ∙ ap (λ (e : ℕ × X). e.1) (sym (get_or-enumerate_from 0 xs i (0, x) lt))
    ∙ ap (λ (p : Part X). p.item) (sym (get_or-map (λ (e : ℕ × X). part scope place n e.0 e.1) (enumerate_from 0 xs) i (0, x) _ within))

module _ {X : Type 0} (none : X) (scope : List ℕ) (place : Place) (n : ℕ) (pool : List FileDescriptorProto) (file : FileDescriptorProto) where
  abbrev pub described_parts : List X → List (Described X)
  described_parts xs = map (described pool file) (parts scope place n xs)

  pub next_part : (xs : List X) (i : ℕ) → i < length (parts scope place n xs)
      → drop i (described_parts xs) ≡ described pool file (part_at none (parts scope place n xs) i) ∷ drop (i + 1) (described_parts xs)
  next_part xs i lt = next_at (described pool file) (parts scope place n xs) i (record { scope = []; place = []; index = 0; item = none }) lt

pub no_part : {X Y : Type 0} (g : X → Y) (xs : List X) (i : ℕ) → length xs ≤ i → drop i (map g xs) ≡ []
no_part g xs i le = drop_of_length-le (map g xs) (omega (arith, length-map xs g))

-- ---- the first part of a property

pub find_mapped : {X Y : Type 0} (p : Y → Bool) (g : X → Y) (xs : List X) → find p (map g xs) ≡ option_map g (find (λ x. p (g x)) xs)
find_mapped p g [] = refl
find_mapped p g (x ∷ xs) = at (p (g x)) (find_mapped p g xs)
  where
    at : (b : Bool) → find p (map g xs) ≡ option_map g (find (λ y. p (g y)) xs)
        → cond b (Some (g x)) (find p (map g xs)) ≡ option_map g (cond b (Some x) (find (λ y. p (g y)) xs))
    at true ih = refl
    at false ih = ih

module _ {X : Type 0} (p : X → Bool) (scope : List ℕ) (place : Place) (n : ℕ) where
  position_is : (k : ℕ) (xs : List X)
      → position_or_len (λ (y : Part X). p y.item) (map (λ (e : ℕ × X). part scope place n e.0 e.1) (enumerate_from k xs)) ≡ position_or_len p xs
  position_is k [] = refl
  position_is k (x ∷ xs) = ap (λ (m : ℕ). cond (not (p x)) (1 + m) 0) (position_is (k + 1) xs)

  module _ (pool : List FileDescriptorProto) (file : FileDescriptorProto) where
    found_at : (xs : List X)
        → find (λ (d : Described X). p d.part.item) (map (described pool file) (parts scope place n xs))
        ≡ option_map (described pool file) (slice_get (parts scope place n xs) (position_or_len p xs))
    found_at xs =
        find_mapped (λ (d : Described X). p d.part.item) (described pool file) (parts scope place n xs)
        ∙ ap (option_map (described pool file))
        (find_at (λ (y : Part X). p y.item) (parts scope place n xs) ∙ ap (slice_get (parts scope place n xs)) (position_is 0 xs))

    cases : (xs : List X) (b : Bool) → nat_lt (position_or_len p xs) (length xs) ≡ b
        → (i : ℕ) → Some i ≡ cond b (Some (position_or_len p xs)) None → (i ≡ position_or_len p xs) × (position_or_len p xs < length xs)
    cases xs true q i e = (cc, grind (arith, nat_tests, q))
    cases xs false q i e = absurd (cc)

    none_of : (xs : List X) (b : Bool) → nat_lt (position_or_len p xs) (length xs) ≡ b → None ≡ cond b (Some (position_or_len p xs)) None
        → length xs ≤ position_or_len p xs
    none_of xs true q e = absurd (cc)
    none_of xs false q e = grind (arith, nat_tests, q)

    -- what a search among the records finds
    pub found_within : (xs ys : List X) (o : Option ℕ) (i : ℕ) → ys ≡ xs → o ≡ position p ys → o ≡ Some i → i < length (parts scope place n xs)
    found_within xs ys o i same is some =
        let k = cases xs (nat_lt (position_or_len p xs) (length xs)) refl i (sym some ∙ is ∙ ap (position p) same) in
        omega (arith, k.0, k.1, length_parts scope place n xs)

    pub found_part : (none : X) (xs ys : List X) (o : Option ℕ) (i : ℕ) → ys ≡ xs → o ≡ position p ys → o ≡ Some i
        → Some (described pool file (part_at none (parts scope place n xs) i))
        ≡ find (λ (d : Described X). p d.part.item) (map (described pool file) (parts scope place n xs))
    found_part none xs ys o i same is some =
        let k = cases xs (nat_lt (position_or_len p xs) (length xs)) refl i (sym some ∙ is ∙ ap (position p) same) in
        sym (found_at xs ∙ ap (λ (j : ℕ). option_map (described pool file) (slice_get (parts scope place n xs) j)) (sym k.0)
        ∙ ap (option_map (described pool file)) (part_there none (parts scope place n xs) i (found_within xs ys o i same is some)))

    pub missed_part : (xs ys : List X) (o : Option ℕ) → ys ≡ xs → o ≡ position p ys → o ≡ None
        → None ≡ find (λ (d : Described X). p d.part.item) (map (described pool file) (parts scope place n xs))
    missed_part xs ys o same is none =
        let past = none_of xs (nat_lt (position_or_len p xs) (length xs)) refl (sym none ∙ is ∙ ap (position p) same) in
        sym
        (found_at xs
        ∙ ap (option_map (described pool file))
        (slice_get_past (parts scope place n xs) (position_or_len p xs) (omega (arith, past, length_parts scope place n xs))))

-- ---- parts that a list contains

pub contains_part : {X : Type 0} (none : X) (pool : List FileDescriptorProto) (file : FileDescriptorProto) (ps : List (Part X))
    (i : ℕ) (d : Described X) → i < length ps
    → described pool file (part_at none ps i) ≡ d → Contains (map (described pool file) ps) d
contains_part none pool file ps i d lt is =
    let within : i < length (map (described pool file) ps) = omega (arith, length-map ps (described pool file)) in
    let same : get_or (map (described pool file) ps) i d ≡ described pool file (part_at none ps i) = get_or-map (described pool file) ps i _ d lt in
    (i, within, same ∙ is)

pub contains_piece : {X A : Type 0} (f : X → List A) (xs : List X) (x : X) (a : A) → Contains xs x → Contains (f x) a → Contains (flat_map f xs) a
contains_piece f [] x a h g = absurd (omega (arith, h.1))
contains_piece {X} {A} f (y ∷ ys) x a (zero, lt, is) g = Contains-append_left (f y) (flat_map f ys) a (subst (λ (z : X). Contains (f z) a) (sym is) g)
contains_piece {X} {A} f (y ∷ ys) x a (suc k, lt, is) g = Contains-append_right (f y) (flat_map f ys) a (contains_piece f ys x a (k, omega (arith, lt), is) g)

pub contains_described : {X : Type 0} (none : X) (tell : FileDescriptorProto → List (Part X)) (pool : List FileDescriptorProto)
    (file : FileDescriptorProto) (i : ℕ) (d : Described X)
    → Contains pool file → i < length (tell file) → described pool file (part_at none (tell file) i) ≡ d → Contains (all_parts tell pool) d
contains_described none tell pool file i d h lt is =
    contains_piece (λ (f : FileDescriptorProto). map (described pool f) (tell f)) pool file d h (contains_part none pool file (tell file) i d lt is)
