-- A file sees the same types and scopes in two lists of files that begin alike, go on in different orders, and are the same where both have a name.
use Rattle.std.proofs.Common.{◌≡◌, ◌∙◌, ◌⊎◌, ℕ, ◌||◌, ◌&&◌, List, [], ◌∷◌, ◌++◌, Bool, true, Option, Some, ap, sym, subst, inl, inr}
use Rattle.std.specs.Prelude.{Contains, reverse, find}
use Rattle.std.specs.List.{list_any, list_all, flat_map}
use Rattle.std.specs.Option.{option_or}
use Rattle.std.specs.Str.{bytes_eq}
use Rattle.std.proofs.lemmas.Grind.{flat_map-append}
use Rattle.std.proofs.lemmas.List.{reverse-append}
use Rattle.std.proofs.lemmas.List.Elements.{Contains-append_left, Contains-append_right, Contains-append_cases}
use Rattle.std.proofs.lemmas.List.Folds.{list_any-append, find-append}
use Rattle.pbx_desc_records.specs.declared.file.FileDescriptorProto.{FileDescriptorProto}
use Rattle.pbx_link_definitions.specs.Names.{is_named, among}
use Rattle.pbx_link_definitions.specs.Definitions.{Defined, full_name, is_scope, definitions}
use Rattle.pbx_link_scope.specs.declared.types.Bound.{Bound}
use Rattle.pbx_link_scope.specs.Scope.{public_imports, is_file_of, reached, packages, bound_name, types, type_named, is_scope_name, visible}
use Rattle.pbx_link_scope.specs.Pooled.{has_file, file_types}
use Rattle.pbx_link_rules.specs.PoolLaws.{AreBehind}
use Rattle.pbx_link_rules.proofs.Types.{any_of}
use Rattle.pbx_link_order_laws.proofs.Searched.{so_and_not, any_alike, any_told, found_alike}
use Rattle.pbx_link_order_laws.proofs.Behind.{behind_rest, later_name, imports_within}
use Rattle.pbx_link_order_laws.proofs.Carried.{reached_too, reached_name, reached_within, names_behind, reached_joined, names_behind_are, reached_alike}

abbrev File : Type 0
File = FileDescriptorProto

-- the two lists are the same where both have a name
abbrev pub Agree : List File → List File → Type 0
Agree files others = (x y : File) (n : List ℕ) → Contains files x → Contains others y → is_named x.name n ≡ true → is_named y.name n ≡ true → x ≡ y

pub agree_turned : (files others : List File) → Agree files others → Agree others files
agree_turned files others one x y n c d e f = sym (one y x n d c f e)

reversed_within : (files : List File) (x : File) → Contains (reverse files) x → Contains files x
reversed_within [] x c = c
reversed_within (f ∷ fs) x c =
    at (Contains-append_cases (reverse fs) (f ∷ []) x (subst (λ (l : List File). Contains l x) (reverse-append (f ∷ []) fs) c)) (λ k. reversed_within fs x k)
  where
    at : Contains (reverse fs) x ⊎ Contains (f ∷ []) x → (Contains (reverse fs) x → Contains fs x) → Contains (f ∷ fs) x
    at (inl k) ih = Contains-append_right (f ∷ []) fs x (ih k)
    at (inr k) ih = Contains-append_left (f ∷ []) fs x k

-- ---- what is reached among the files that follow others

module _ (start some : List File) (names : List (List ℕ)) where
  -- among those that follow
  abbrev pub following : List File
  following = reached names (reverse some)

  -- among those from the start
  abbrev pub starting : List File
  starting = reached (names_behind names (reverse some)) (reverse start)

  pub in_two : reached names (reverse (start ++ some)) ≡ following ++ starting
  in_two = ap (reached names) (reverse-append start some) ∙ reached_joined names (reverse some) (reverse start)

  following_within : (x : File) → Contains following x → Contains some x
  following_within x c = reversed_within some x (reached_within names (reverse some) x c)

module _ (start some more : List File) (one : Agree (start ++ some) (start ++ more))
    (behind : AreBehind [] (start ++ some)) (behind' : AreBehind [] (start ++ more))
    (names : List (List ℕ)) (there : list_all (has_file (start ++ more)) names ≡ true) where
  -- what is reached among those that follow is reached there among the others
  pub follows : (x : File) → Contains (following start some names) x → Contains (following start more names) x
  follows x c =
      at
      (Contains-append_cases (following start more names) (starting start more names) x
      (subst (λ (l : List File). Contains l x) (in_two start more names)
      (reached_too (start ++ some) (start ++ more) one (λ y d. imports_within [] (start ++ more) behind' y d) behind behind' names x there
      (subst (λ (l : List File). Contains l x) (sym (in_two start some names))
      (Contains-append_left (following start some names) (starting start some names) x c)))))
    where
      not_both : Contains (starting start more names) x → ⊥
      not_both k =
          let name = reached_name names (reverse some) x c in
          let at_start : Contains start x = reversed_within start x (reached_within (names_behind names (reverse more)) (reverse start) x k) in
          so_and_not (has_file start name.0) (any_of (λ (f : File). is_named f.name name.0) start x at_start name.1)
          (later_name start some (behind_rest [] start some behind) x (following_within start some names x c) name.0 name.1)

      at : Contains (following start more names) x ⊎ Contains (starting start more names) x → Contains (following start more names) x
      at (inl k) = k
      at (inr k) = absurd (not_both k)

module _ (start some more : List File) (one : Agree (start ++ some) (start ++ more))
    (behind : AreBehind [] (start ++ some)) (behind' : AreBehind [] (start ++ more))
    (f : File) (there : list_all (has_file (start ++ some)) f.dependency ≡ true) (there' : list_all (has_file (start ++ more)) f.dependency ≡ true) where
  abbrev names : List (List ℕ)
  names = f.dependency

  into : (x : File) → Contains (following start some names) x → Contains (following start more names) x
  into = follows start some more one behind behind' names there'

  back : (x : File) → Contains (following start more names) x → Contains (following start some names) x
  back = follows start more some (agree_turned (start ++ some) (start ++ more) one) behind' behind names there

  -- from the start the same is reached
  start_same : starting start some names ≡ starting start more names
  start_same =
      reached_alike (names_behind names (reverse some)) (names_behind names (reverse more))
      (λ h. names_behind_are names (reverse some) h
      ∙ ap (λ (b : Bool). is_file_of names h || b)
      (any_alike (following start some names) (following start more names) into back (λ g. is_file_of (public_imports g) h))
      ∙ sym (names_behind_are names (reverse more) h))
      (reverse start)

  -- ---- types

  -- no two of the files that follow have a type of one name
  abbrev pub OneOfType : Type 0
  OneOfType = (q : List ℕ) (x y : File) (a b : Bound) → Contains some x → Contains some y
      → find (λ (t : Bound). bytes_eq (bound_name t) q) (file_types x) ≡ Some a
      → find (λ (t : Bound). bytes_eq (bound_name t) q) (file_types y) ≡ Some b → x ≡ y

  pub types_same : OneOfType → (q : List ℕ) → type_named (visible (start ++ some) f) q ≡ type_named (visible (start ++ more) f) q
  unfolding type_named
  types_same apart q =
      seen some ∙ ap (λ (o : Option Bound). option_or own (option_or o (find test (types (starting start some names))))) same
      ∙ ap (λ (l : List File). option_or own (option_or (find test (types (following start more names))) (find test (types l)))) start_same ∙ sym (seen more)
    where
      test : Bound → Bool
      test t = bytes_eq (bound_name t) q

      own : Option Bound
      own = find test (file_types f)

      same : find test (types (following start some names)) ≡ find test (types (following start more names))
      same =
          found_alike file_types test (following start some names) (following start more names) into back
          (λ x y a b c d. apart q x y a b (following_within start some names x c) (following_within start some names y d))

      seen : (fs : List File) → find test (types (visible (start ++ fs) f))
          ≡ option_or own (option_or (find test (types (following start fs names))) (find test (types (starting start fs names))))
      seen fs =
          find-append test (file_types f) (types (reached names (reverse (start ++ fs))))
          ∙ ap (option_or own)
          (ap (λ (l : List File). find test (types l)) (in_two start fs names)
          ∙ ap (find test) (flat_map-append file_types (following start fs names) (starting start fs names))
          ∙ find-append test (types (following start fs names)) (types (starting start fs names)))

  -- ---- scopes

  module _ {X : Type 0} (tell : File → List X) (test : X → Bool) where
    told_same : list_any test (flat_map tell (visible (start ++ some) f)) ≡ list_any test (flat_map tell (visible (start ++ more) f))
    told_same =
        seen some
        ∙ ap (λ (b : Bool). list_any test (tell f) || (b || list_any told (starting start some names)))
        (any_alike (following start some names) (following start more names) into back told)
        ∙ ap (λ (l : List File). list_any test (tell f) || (list_any told (following start more names) || list_any told l)) start_same ∙ sym (seen more)
      where
        told : File → Bool
        told g = list_any test (tell g)

        seen : (fs : List File) → list_any test (flat_map tell (visible (start ++ fs) f))
            ≡ (list_any test (tell f) || (list_any told (following start fs names) || list_any told (starting start fs names)))
        seen fs =
            any_told tell test (visible (start ++ fs) f)
            ∙ ap (λ (b : Bool). list_any test (tell f) || b)
            (ap (list_any told) (in_two start fs names) ∙ list_any-append told (following start fs names) (starting start fs names))

  pub scopes_same : (q : List ℕ) → is_scope_name (visible (start ++ some) f) q ≡ is_scope_name (visible (start ++ more) f) q
  unfolding is_scope_name
  scopes_same q =
      ap (λ (b : Bool). b || among (flat_map packages (visible (start ++ some) f)) q)
      (told_same definitions (λ (d : Defined). is_scope d.sort && bytes_eq (full_name d) q))
      ∙ ap (λ (b : Bool). list_any (λ (d : Defined). is_scope d.sort && bytes_eq (full_name d) q) (flat_map definitions (visible (start ++ more) f)) || b)
      (told_same packages (λ other. bytes_eq other q))
