-- The names in the scope of a message, and those that are free.
use Rattle.std.proofs.Common.{◌≡◌, ℕ, ◌+◌, ◌<◌, ◌≤◌, List, [], ◌∷◌, ◌++◌, length, map, take, drop, get_or, Bool, true, false, ◌||◌, if◌then◌else◌, refl, sym, ap, ◌∙◌, append_assoc, append-nil}
use Rattle.std.specs.List.{flat_map}
use Rattle.std.specs.Str.{bytes_eq}
use Rattle.std.proofs.lemmas.Bool.Decides.{same_from_decides}
use Rattle.std.proofs.lemmas.List.{flat_map_more, take_more}
use Rattle.std.proofs.lemmas.Slice.Eq.{bytes_eq-Decides}
use Rattle.pbx_desc_records.specs.declared.field.OneofDescriptorProto.{OneofDescriptorProto}
use Rattle.pbx_parse_translation.specs.Messages.{oneof_record}
use Rattle.pbx_parse_translation.specs.Synthetic.{is_among, free_name, synthetic_names}
use Rattle.pbx_parse_translation.proofs.Counted.{rest_seen, none_seen}
use Rattle.pbx_parse_translation.proofs.Lists.{flat_seen}

-- one name more at the end
pub among_more : (names : List (List ℕ)) (name q : List ℕ) → is_among (names ++ name ∷ []) q ≡ (if bytes_eq q name then true else is_among names q)
among_more [] name q = at (bytes_eq q name)
  where
    at : (b : Bool) → (b || false) ≡ (if b then true else false)
    at true = refl
    at false = refl
among_more (n ∷ ns) name q = ap (λ b. bytes_eq q n || b) (among_more ns name q) ∙ at (bytes_eq q n) (bytes_eq q name)
  where
    at : (a b : Bool) → (a || (if b then true else is_among ns q)) ≡ (if b then true else (a || is_among ns q))
    at true true = refl
    at true false = refl
    at false b = refl

-- one more synthetic name
pub synthetic_one : (taken : List (List ℕ)) (field : List ℕ) (fields : List (List ℕ)) (name : List ℕ) → name ≡ free_name taken field → synthetic_names taken (field ∷ fields) ≡ name ∷ synthetic_names (taken ++ name ∷ []) fields
unfolding synthetic_names
synthetic_one taken field fields name e = ap (λ m. m ∷ synthetic_names (taken ++ m ∷ []) fields) (sym e)

pub synthetic_none : (taken : List (List ℕ)) → synthetic_names taken [] ≡ []
unfolding synthetic_names
synthetic_none taken = refl

-- two texts are equal in either order
pub swapped : (xs ys : List ℕ) → bytes_eq xs ys ≡ bytes_eq ys xs
swapped xs ys =
    let back = bytes_eq-Decides ys xs in
    same_from_decides _ (bytes_eq ys xs) (bytes_eq-Decides xs ys) ((λ e. sym (back.0 e)), (λ p. back.1 (sym p)))

-- one more item that gives names
pub taken_more : {X Y : Type 0} (f : X → List Y) (xs : List X) (i : ℕ) (x : X) (before : List Y) → i < length xs → x ≡ get_or xs i x → (before ++ flat_map f (take i xs)) ++ f x ≡ before ++ flat_map f (take (i + 1) xs)
taken_more {X} f xs i x before below is =
    flat_map_more f before (take i xs) x
    ∙ ap (λ (y : X). before ++ flat_map f (take i xs ++ y ∷ [])) is
    ∙ ap (λ ys. before ++ flat_map f ys) (sym (take_more xs i x below))

-- a name, and then those of the parts
pub parts_named : {A B : Type 0} (f : B → List (List ℕ)) (view : A → B) (before : List (List ℕ)) (name : List ℕ) (seen all : List A) → seen ≡ all → before ++ name ∷ flat_map (λ x. f (view x)) seen ≡ before ++ name ∷ flat_map f (map view all)
parts_named f view before name seen all e = ap (λ ys. before ++ name ∷ ys) (ap (flat_map (λ x. f (view x))) e ∙ flat_seen f view all)

module _ {A : Type 0} (view : A → List ℕ) (xs : List A) (i : ℕ) where
  -- one more synthetic oneof
  pub synthetic_goes_on : (x : A) (now : List (List ℕ)) (name : List ℕ) (before after total : List OneofDescriptorProto) → i < length xs → x ≡ get_or xs i x → name ≡ free_name now (view x) → after ≡ before ++ oneof_record name ∷ []
      → before ++ map oneof_record (synthetic_names now (map view (drop i xs))) ≡ total → after ++ map oneof_record (synthetic_names (now ++ name ∷ []) (map view (drop (i + 1) xs))) ≡ total
  synthetic_goes_on x now name before after total below is m e so_far =
      let fields = map view (drop (i + 1) xs) in
      let rest = map oneof_record (synthetic_names (now ++ name ∷ []) fields) in
      let first : synthetic_names now (map view (drop i xs)) ≡ name ∷ synthetic_names (now ++ name ∷ []) fields = ap (synthetic_names now) (rest_seen view xs i x below is) ∙ synthetic_one now (view x) fields name m in
      ap (λ ys. ys ++ rest) e
      ∙ append_assoc before (oneof_record name ∷ []) rest
      ∙ ap (λ ns. before ++ map oneof_record ns) (sym first)
      ∙ so_far

  -- no field is left
  pub synthetic_all : (now : List (List ℕ)) (all total : List OneofDescriptorProto) → length xs ≤ i → all ++ map oneof_record (synthetic_names now (map view (drop i xs))) ≡ total → all ≡ total
  synthetic_all now all total past so_far =
      sym (append-nil all)
      ∙ ap (λ ns. all ++ map oneof_record ns) (sym (ap (synthetic_names now) (none_seen view xs i past) ∙ synthetic_none now))
      ∙ so_far
