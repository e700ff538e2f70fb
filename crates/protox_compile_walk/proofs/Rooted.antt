-- The name that a path asks for names itself.
use Rattle.std.proofs.Common.{◌≡◌, ◌∙◌, ◌∷◌, [], ℕ, List, Option, Some, None, refl, ap, subst}
use Rattle.std.specs.Prelude.{option_and_then}
use Rattle.protox_io.specs.FileNames.{name_of}
use Rattle.protox_io.proofs.Again.{name_again}
use Rattle.protox_file_sources.specs.Told.{Lookup}
use Rattle.protox_compile_walk.specs.Walk.{Done}
use Rattle.protox_compile_walk.specs.Opening.{Accepted, NotIncluded, root_by, root_of, open_name, opening, closure}
use Rattle.protox_compile_walk.specs.Laws.{RootsAreNames, KnownAreRoots}
use Rattle.protox_compile_walk.specs.Again.{AsksFor, AskFor, AcceptedAskFor}
use Rattle.protox_compile_walk.proofs.Closures.{first_accepted}

same_name : (a b : List ℕ × Option (List ℕ)) → Some a ≡ Some b → a.0 ≡ b.0
same_name a b e = let same : a ≡ b = cc in ap (λ (root : List ℕ × Option (List ℕ)). root.0) same

-- what is taken as a name names itself
taken_named : (known : Option (List ℕ)) (name : List ℕ) → option_and_then name_of known ≡ Some name → name_of name ≡ Some name
taken_named None name e = absurd (cc)
taken_named (Some n) name e = name_again n name e

root_named : (known own : Option (List ℕ)) (path name : List ℕ) (asked : Option (List ℕ)) → ((n : List ℕ) → known ≡ Some n → name_of n ≡ Some n)
    → ((n : List ℕ) → own ≡ Some n → name_of n ≡ Some n) → root_by known path own ≡ Some (name, asked) → name_of name ≡ Some name
root_named (Some n) own path name asked first second e =
    let P : List ℕ → Type 0 = λ m. name_of m ≡ Some m in subst P (same_name (n, Some path) (name, asked) e) (first n refl)
root_named None (Some n) path name asked first second e =
    let P : List ℕ → Type 0 = λ m. name_of m ≡ Some m in subst P (same_name (n, None) (name, asked) e) (second n refl)
root_named None None path name asked first second e = absurd (cc)

pub roots_named : RootsAreNames
roots_named resolves path name asked e =
    root_named (option_and_then name_of (resolves path)) (name_of path) path name asked (taken_named (resolves path)) (name_again path) e

pub known_root : KnownAreRoots
known_root resolves path name known named =
    ap (λ (found : Option (List ℕ)). root_by (option_and_then name_of found) path (name_of path)) known
    ∙ ap (λ (taken : Option (List ℕ)). root_by taken path (name_of path)) named

-- ---- paths that are accepted

module _ (lookups : List ℕ → Lookup) (resolves : List ℕ → Option (List ℕ)) (limit : ℕ) where
  asks_one : (path : List ℕ) (done later : List Done) → opening lookups resolves limit path done ≡ (later, Accepted)
      → (name : List ℕ) × AsksFor resolves path name
  asks_one path done later h = at (root_of resolves path) refl h
    where
      at : (root : Option (List ℕ × Option (List ℕ))) → root_of resolves path ≡ root → open_name lookups limit root done ≡ (later, Accepted)
          → (name : List ℕ) × AsksFor resolves path name
      at None e k = let no : NotIncluded ≡ Accepted = ap (λ o. o.1) k in absurd (cc)
      at (Some (name, asked)) e k = (name, record { asked = asked; root_is = e })

  asks_all : (paths : List (List ℕ)) (done later : List Done) → closure lookups resolves limit paths done ≡ (later, Accepted)
      → (names : List (List ℕ)) × AskFor resolves paths names
  asks_all [] done later h = ([], tt)
  asks_all (path ∷ paths) done later h =
      let first = first_accepted (opening lookups resolves limit path done) (closure lookups resolves limit paths) later h in
      let one = asks_one path done first.0 first.1 in
      let others = asks_all paths first.0 later first.2 in
      (one.0 ∷ others.0, (one.1, others.1))

pub accepted_ask_for : AcceptedAskFor
accepted_ask_for lookups resolves limit paths done later h = asks_all lookups resolves limit paths done later h
