-- What is found in a pool by its full name.
use Rattle.std.proofs.Common.{◌≡◌, ◌∙◌, ℕ, suc, ◌+◌, ◌<◌, cond, true, false, List, [], ◌∷◌, map, length, get_or, Bool, Option, Some, None, find}
use Rattle.std.proofs.Common.{refl, ap, sym, subst, arith}
use Rattle.std.specs.Prelude.{slice_get, option_map, Contains, IsSome, is_some}
use Rattle.std.specs.List.{flat_map, enumerate_from}
use Rattle.std.specs.Option.{option_or}
use Rattle.std.specs.Str.{bytes_eq}
use Rattle.std.proofs.lemmas.List.Folds.{find-append}
use Rattle.std.proofs.lemmas.Option.{slice_get_within, get_or_from_slice_get}
use Rattle.pbx_desc_records.specs.declared.file.FileDescriptorProto.{FileDescriptorProto}
use Rattle.pbx_link_definitions.specs.Names.{is_named}
use Rattle.pbx_link_definitions.specs.Definitions.{Part, message_name, enum_name, messages, enums}
use Rattle.pbx_link_scope.specs.Pooled.{file_index, by_file}
use Rattle.pbx_link_rules.specs.PoolLaws.{message_with_file, enum_with_file}
use Rattle.pbx_link_visible.proofs.Named.{find_numbered}
use Rattle.pbx_link_pool.specs.Places.{place_with_file}
use Rattle.pbx_link_pool.proofs.Found.{told_from, stands_at, no_place}
use Rattle.pbx_link_meaning.specs.Descriptors.{Described, FileDescribed, described, described_file, all_parts, file_of_name, message_of_name, enum_of_name}
use Rattle.pbx_link.specs.Tables.{part_at}
use Rattle.pbx_link.proofs.Parts.{find_mapped, some_is}

abbrev File : Type 0
File = FileDescriptorProto

module _ {X : Type 0} (test : Part X → Bool) (tell : File → List (Part X)) (pool : List File) where
  -- what is found of the parts of these files
  abbrev among_parts : List File → Option (Described X)
  among_parts files = find (λ (d : Described X). test d.part) (flat_map (λ f. map (described pool f) (tell f)) files)

  abbrev by_number : ℕ → List File → Option (ℕ × Part X)
  by_number k files = find (λ (m : ℕ × Part X). test m.1) (told_from tell k files)

  record IsFound (k : ℕ) (files : List File) (e : ℕ × Part X) : Type 0 where
    n : ℕ
    number : e.0 ≡ k + n
    file : File
    at : slice_get files n ≡ Some file
    is : among_parts files ≡ Some (described pool file e.1)

  numbered_or : (k : ℕ) (f : File) (fs : List File) → by_number k (f ∷ fs) ≡ option_or (option_map (λ x. (k, x)) (find test (tell f))) (by_number (k + 1) fs)
  numbered_or k f fs =
      find-append (λ (m : ℕ × Part X). test m.1) (map (λ x. (k, x)) (tell f)) (told_from tell (k + 1) fs)
      ∙ ap (λ (o : Option (ℕ × Part X)). option_or o (by_number (k + 1) fs)) (find_mapped (λ (m : ℕ × Part X). test m.1) (λ x. (k, x)) (tell f))

  described_or : (f : File) (fs : List File) → among_parts (f ∷ fs) ≡ option_or (option_map (described pool f) (find test (tell f))) (among_parts fs)
  described_or f fs =
      find-append (λ (d : Described X). test d.part) (map (described pool f) (tell f)) (flat_map (λ g. map (described pool g) (tell g)) fs)
      ∙ ap (λ (o : Option (Described X)). option_or o (among_parts fs)) (find_mapped (λ (d : Described X). test d.part) (described pool f) (tell f))

  found_all : (k : ℕ) (files : List File) (e : ℕ × Part X) → by_number k files ≡ Some e → IsFound k files e
  found_all k [] e h = absurd (cc)
  found_all k (f ∷ fs) e h = by_own (find test (tell f)) (sym (numbered_or k f fs) ∙ h) (described_or f fs) (found_all (k + 1) fs e)
    where
      by_own : (o : Option (Part X)) → option_or (option_map (λ x. (k, x)) o) (by_number (k + 1) fs) ≡ Some e
          → among_parts (f ∷ fs) ≡ option_or (option_map (described pool f) o) (among_parts fs) → (by_number (k + 1) fs ≡ Some e → IsFound (k + 1) fs e)
          → IsFound k (f ∷ fs) e
      by_own None g w ih = let r = ih g in record { n = suc r.n; number = omega (arith, r.number); file = r.file; at = r.at; is = w ∙ r.is }
      by_own (Some x) g w ih =
          let same : (k, x) ≡ e = cc in
          subst (IsFound k (f ∷ fs)) same (record { n = 0; number = omega arith; file = f; at = refl; is = w })

  missed_all : (k : ℕ) (files : List File) → by_number k files ≡ None → among_parts files ≡ None
  missed_all k [] h = refl
  missed_all k (f ∷ fs) h = by_own (find test (tell f)) (sym (numbered_or k f fs) ∙ h) (described_or f fs) (missed_all (k + 1) fs)
    where
      by_own : (o : Option (Part X)) → option_or (option_map (λ x. (k, x)) o) (by_number (k + 1) fs) ≡ None
          → among_parts (f ∷ fs) ≡ option_or (option_map (described pool f) o) (among_parts fs) → (by_number (k + 1) fs ≡ None → among_parts fs ≡ None)
          → among_parts (f ∷ fs) ≡ None
      by_own None g w ih = w ∙ ih g
      by_own (Some x) g w ih = absurd (cc)

module _ {X : Type 0} (none : X) (tell : File → List (Part X)) (name : Part X → List ℕ) (pool : List File) (q : List ℕ) where
  abbrev found : Option (Described X)
  found = find (λ d. bytes_eq (name d.part) q) (all_parts tell pool)

  -- no part of the name
  pub no_part_named : (o : Option (ℕ × ℕ)) → o ≡ place_with_file tell name pool q → o ≡ None → None ≡ found
  no_part_named o is h = sym (missed_all (λ p. bytes_eq (name p) q) tell pool 0 pool (sym (no_place tell name pool q (sym is ∙ h))))

  -- where the part of the name stands
  pub record IsNamed (i j : ℕ) (g : File) : Type 0 where
    pub file : Contains pool g
    pub index : j < length (tell g)
    pub is : Some (described pool g (part_at none (tell g) j)) ≡ found

  pub file_within : (o : Option (ℕ × ℕ)) (i j : ℕ) → o ≡ place_with_file tell name pool q → o ≡ Some (i, j) → i < length pool
  file_within o i j is h = let s = stands_at tell name pool q i j (sym is ∙ h) in slice_get_within pool i s.file s.at

  pub part_named : (o : Option (ℕ × ℕ)) (i j : ℕ) (g : File) → o ≡ place_with_file tell name pool q → o ≡ Some (i, j) → g ≡ get_or pool i g → IsNamed i j g
  part_named o i j g is h at =
      let s = stands_at tell name pool q i j (sym is ∙ h) in
      let r = found_all (λ p. bytes_eq (name p) q) tell pool 0 pool (i, s.part) s.found in
      let n : r.n ≡ i = omega (arith, r.number) in
      let here : g ≡ s.file = at ∙ get_or_from_slice_get pool i s.file g s.at in
      let there : slice_get pool i ≡ Some r.file = subst (λ (m : ℕ). slice_get pool m ≡ Some r.file) n r.at in
      let same : r.file ≡ g = sym (get_or_from_slice_get pool i r.file g there) ∙ sym at in
      let told : slice_get (tell g) j ≡ Some s.part = subst (λ (k : File). slice_get (tell k) j ≡ Some s.part) (sym here) s.told in
      let part : part_at none (tell g) j ≡ s.part = get_or_from_slice_get (tell g) j s.part _ told in
      let lt : i < length pool = slice_get_within pool i s.file s.at in
      record {
        file = (i, lt, sym at);
        index = slice_get_within (tell g) j s.part told;
        is = ap (λ (y : Part X). Some (described pool g y)) part ∙ ap (λ (k : File). Some (described pool k s.part)) (sym same) ∙ sym r.is;
      }

  -- a descriptor of that part
  pub named_held : (o : Option (ℕ × ℕ)) (i j : ℕ) (g : File) (p : List File) (t : File) → o ≡ place_with_file tell name pool q → o ≡ Some (i, j)
      → g ≡ get_or pool i g
      → p ≡ pool → t ≡ g → Contains p t × (j < length (tell t))
  named_held o i j g p t is h at other handle =
      let n = part_named o i j g is h at in (
        subst (λ (fs : List File). Contains fs t) (sym other) (subst (Contains pool) (sym handle) n.file),
        subst (λ (f : File). j < length (tell f)) (sym handle) n.index,
      )

  pub named_is : (o : Option (ℕ × ℕ)) (i j : ℕ) (g : File) (p : List File) (t : File) → o ≡ place_with_file tell name pool q → o ≡ Some (i, j)
      → g ≡ get_or pool i g
      → p ≡ pool → t ≡ g → Some (described p t (part_at none (tell t) j)) ≡ found
  named_is o i j g p t is h at other handle =
      ap (λ (fs : List File). Some (described fs t (part_at none (tell t) j))) other
      ∙ ap (λ (f : File). Some (described pool f (part_at none (tell f) j))) handle
      ∙ (part_named o i j g is h at).is

-- a message or an enum that is beside the index of its file is in the pool
part_found : {X : Type 0} (tell : File → List (Part X)) (name : Part X → List ℕ) (pool : List File) (q : List ℕ) (o : Option (ℕ × Part X))
    → find (λ m. bytes_eq (name m.1) q) (by_file tell pool) ≡ o → is_some o ≡ true
    → IsSome (find (λ (d : Described X). bytes_eq (name d.part) q) (all_parts tell pool))
part_found tell name pool q None is e = absurd (cc)
part_found tell name pool q (Some m) is e = some_is _ _ (found_all (λ p. bytes_eq (name p) q) tell pool 0 pool m is).is

pub message_there : (pool : List File) (q : List ℕ) → is_some (message_with_file pool q) ≡ true → IsSome (message_of_name pool q)
message_there pool q e = part_found messages message_name pool q (message_with_file pool q) refl e

pub enum_there : (pool : List File) (q : List ℕ) → is_some (enum_with_file pool q) ≡ true → IsSome (enum_of_name pool q)
enum_there pool q e = part_found enums enum_name pool q (enum_with_file pool q) refl e

-- ---- files

unnumbered : {X : Type 0} (k : ℕ) (test : X → Bool) (xs : List X) → find test xs ≡ option_map (λ (x : ℕ × X). x.1) (find (λ x. test x.1) (enumerate_from k xs))
unnumbered k test [] = refl
unnumbered {X} k test (x ∷ xs) = by_test (test x) (unnumbered (k + 1) test xs)
  where
    by_test : (b : Bool) → find test xs ≡ option_map (λ (y : ℕ × X). y.1) (find (λ y. test y.1) (enumerate_from (k + 1) xs))
        → cond b (Some x) (find test xs) ≡ option_map (λ (y : ℕ × X). y.1) (cond b (Some (k, x)) (find (λ y. test y.1) (enumerate_from (k + 1) xs)))
    by_test true ih = refl
    by_test false ih = ih

module _ (pool : List File) (q : List ℕ) where
  abbrev has_name : File → Bool
  has_name f = is_named f.name q

  abbrev with_number : Option (ℕ × File)
  with_number = find (λ x. has_name x.1) (enumerate_from 0 pool)

  file_found : file_of_name pool q ≡ option_map (described_file pool) (option_map (λ (x : ℕ × File). x.1) with_number)
  file_found =
      find_mapped (λ (d : FileDescribed). is_named d.file.name q) (described_file pool) pool
      ∙ ap (option_map (described_file pool)) (unnumbered 0 has_name pool)

  pub no_file_named : (o : Option ℕ) → o ≡ file_index pool q → o ≡ None → None ≡ file_of_name pool q
  no_file_named o is h = by_found with_number (sym is ∙ h) file_found
    where
      by_found : (e : Option (ℕ × File)) → option_map (λ (x : ℕ × File). x.0) e ≡ None
          → file_of_name pool q ≡ option_map (described_file pool) (option_map (λ (x : ℕ × File). x.1) e) → None ≡ file_of_name pool q
      by_found None g w = sym w
      by_found (Some x) g w = absurd (cc)

  pub record IsNamedFile (i : ℕ) : Type 0 where
    pub file : File
    pub at : slice_get pool i ≡ Some file
    pub is : Some (described_file pool file) ≡ file_of_name pool q

  pub file_named : (o : Option ℕ) (i : ℕ) → o ≡ file_index pool q → o ≡ Some i → IsNamedFile i
  file_named o i is h = by_found with_number refl (sym is ∙ h) file_found
    where
      by_found : (e : Option (ℕ × File)) → with_number ≡ e → option_map (λ (x : ℕ × File). x.0) e ≡ Some i
          → file_of_name pool q ≡ option_map (described_file pool) (option_map (λ (x : ℕ × File). x.1) e) → IsNamedFile i
      by_found None v g w = absurd (cc)
      by_found (Some x) v g w =
          let r = find_numbered (λ (y : ℕ × File). has_name y.1) 0 pool x v in
          let same : x.0 ≡ i = cc in
          let n : r.0 ≡ i = omega (arith, r.1, same) in
          record { file = x.1; at = subst (λ (m : ℕ). slice_get pool m ≡ Some x.1) n r.2; is = sym w }

  pub place_within : (o : Option ℕ) (i : ℕ) → o ≡ file_index pool q → o ≡ Some i → i < length pool
  place_within o i is h = let r = file_named o i is h in slice_get_within pool i r.file r.at

  file_there : (o : Option ℕ) (i : ℕ) (g : File) → o ≡ file_index pool q → o ≡ Some i → g ≡ get_or pool i g
      → Contains pool g × (Some (described_file pool g) ≡ file_of_name pool q)
  file_there o i g is h at =
      let r = file_named o i is h in
      let same : g ≡ r.file = at ∙ get_or_from_slice_get pool i r.file g r.at in
      ((i, slice_get_within pool i r.file r.at, sym at), ap (λ (k : File). Some (described_file pool k)) same ∙ r.is)

  -- a descriptor of that file
  pub file_held : (o : Option ℕ) (i : ℕ) (g : File) (p : List File) (t : File) → o ≡ file_index pool q → o ≡ Some i → g ≡ get_or pool i g → p ≡ pool
      → t ≡ g → Contains p t
  file_held o i g p t is h at other handle =
      subst (λ (fs : List File). Contains fs t) (sym other) (subst (Contains pool) (sym handle) (file_there o i g is h at).0)

  pub file_is : (o : Option ℕ) (i : ℕ) (g : File) (p : List File) (t : File) → o ≡ file_index pool q → o ≡ Some i → g ≡ get_or pool i g → p ≡ pool → t ≡ g
      → Some (described_file p t) ≡ file_of_name pool q
  file_is o i g p t is h at other handle =
      ap (λ (fs : List File). Some (described_file fs t)) other ∙ ap (λ (f : File). Some (described_file pool f)) handle ∙ (file_there o i g is h at).1
