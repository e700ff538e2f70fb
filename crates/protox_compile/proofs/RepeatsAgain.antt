-- The names that paths ask for are given again where the paths are.
use Rattle.std.proofs.Common.{◌≡◌, ◌∷◌, ◌++◌, ◌∙◌, [], ℕ, suc, List, Bool, refl, sym, ap, ap₂, length}
use Rattle.std.specs.Prelude.{◌||◌, Option, Some, None}
use Rattle.protox_io.specs.FileNames.{name_of}
use Rattle.protox_file_sources.specs.Library.{resolves_nothing}
use Rattle.protox_compile_walk.specs.Again.{AsksFor, AskFor}
use Rattle.protox_compile_walk.specs.Opening.{root_by, root_of}
use Rattle.protox_compile_walk.proofs.Rooted.{roots_named}
use Rattle.protox_compile.specs.Repeats.{is_root, is_asked, is_asked_by, index_if, repeats_behind, NamesRepeatAsPaths}

module _ (resolves : List ℕ → Option (List ℕ)) where
  root_again : (path name : List ℕ) → AsksFor resolves path name → root_of resolves_nothing name ≡ Some (name, None)
  root_again path name asks = ap (root_by None name) (roots_named resolves path name asks.asked asks.root_is)

  asked_same : (name : List ℕ) (paths names : List (List ℕ)) → AskFor resolves paths names → is_asked resolves paths name ≡ is_asked resolves_nothing names name
  asked_same name [] [] h = refl
  asked_same name [] (n ∷ ns) h = absurd h
  asked_same name (p ∷ ps) [] h = absurd h
  asked_same name (p ∷ ps) (n ∷ ns) h =
      ap₂ (λ (a b : Bool). a || b) (ap (is_root name) h.0.root_is ∙ sym (ap (is_root name) (root_again p n h.0))) (asked_same name ps ns h.1)

  same_length : (paths names : List (List ℕ)) → AskFor resolves paths names → length paths ≡ length names
  same_length [] [] h = refl
  same_length [] (n ∷ ns) h = absurd h
  same_length (p ∷ ps) [] h = absurd h
  same_length (p ∷ ps) (n ∷ ns) h = ap suc (same_length ps ns h.1)

  ask_more : (paths names : List (List ℕ)) (path name : List ℕ) → AskFor resolves paths names → AsksFor resolves path name
      → AskFor resolves (paths ++ path ∷ []) (names ++ name ∷ [])
  ask_more [] [] path name h one = (one, tt)
  ask_more [] (n ∷ ns) path name h one = absurd h
  ask_more (p ∷ ps) [] path name h one = absurd h
  ask_more (p ∷ ps) (n ∷ ns) path name h one = (h.0, ask_more ps ns path name h.1 one)

  again_same : (before olds : List (List ℕ)) (path name : List ℕ) → AskFor resolves before olds → AsksFor resolves path name
      → is_asked_by resolves before (root_of resolves path) ≡ is_asked_by resolves_nothing olds (root_of resolves_nothing name)
  again_same before olds path name h one =
      ap (is_asked_by resolves before) one.root_is ∙ asked_same name before olds h ∙ sym (ap (is_asked_by resolves_nothing olds) (root_again path name one))

  behind_same : (before olds paths names : List (List ℕ)) → AskFor resolves before olds → AskFor resolves paths names
      → repeats_behind resolves before paths ≡ repeats_behind resolves_nothing olds names
  behind_same before olds [] [] h k = refl
  behind_same before olds [] (n ∷ ns) h k = absurd k
  behind_same before olds (p ∷ ps) [] h k = absurd k
  behind_same before olds (p ∷ ps) (n ∷ ns) h k =
      let again = again_same before olds p n h k.0 in
      let rest = behind_same (before ++ p ∷ []) (olds ++ n ∷ []) ps ns (ask_more before olds p n h k.0) k.1 in
      ap (λ (b : Bool). index_if b (length before) (repeats_behind resolves (before ++ p ∷ []) ps)) again
      ∙ ap₂ (λ (i : ℕ) (is : List ℕ). index_if (is_asked_by resolves_nothing olds (root_of resolves_nothing n)) i is) (same_length before olds h) rest

pub names_repeat_as_paths : NamesRepeatAsPaths
names_repeat_as_paths resolves paths names h = sym (behind_same resolves [] [] paths names tt h)
