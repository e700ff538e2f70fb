-- What is known of files, found by their names.
use Rattle.std.proofs.Common.{◌≡◌, ◌∙◌, ◌+◌, ◌<◌, ◌++◌, ◌∷◌, ◌||◌, [], ℕ, zero, suc, List, Bool, true, false, refl, sym, ap, length, get_or, arith}
use Rattle.std.proofs.Math.ListN.{set}
use Rattle.std.proofs.lemmas.List.{map-append, length-map, length_push}
use Rattle.std.specs.Prelude.{not, if◌then◌else◌, Option, Some, None, is_some}
use Rattle.std.specs.List.{list_any}
use Rattle.std.specs.Str.{bytes_eq}
use Rattle.pbx_link_definitions.specs.Names.{among}
use Rattle.protox_file_sources.specs.Metadata.{Metadata}
use Rattle.protox_compile_walk.specs.declared.indexes.Indexes.{Indexes}
use Rattle.protox_compile_walk.specs.Indexes.{first_index, AreIndexed}
use Rattle.protox_compile_walk.specs.Compiled.{opened_at, opened_in, path_at, path_known, is_opened_at, is_opened_known, names_known}
use Rattle.protox_compile_walk.proofs.Indexed.{front, behind, below, found_among}

any_known : (name : List ℕ) (ms : List Metadata) → among (names_known ms) name ≡ list_any (λ (m : Metadata). bytes_eq m.name name) ms
any_known name [] = refl
any_known name (m ∷ ms) = ap (λ b. bytes_eq m.name name || b) (any_known name ms)

-- a name is found exactly if a file has it
pub found_known : (name : List ℕ) (ms : List Metadata) → is_some (first_index name (names_known ms)) ≡ list_any (λ (m : Metadata). bytes_eq m.name name) ms
found_known name ms = found_among name (names_known ms) ∙ any_known name ms

-- an index is that of a file
pub within : (name : List ℕ) (ms : List Metadata) (i : ℕ) → first_index name (names_known ms) ≡ Some i → i < length ms
within name ms i h = let less : i < length (names_known ms) = below name (names_known ms) i h in rw length-map at less

-- ---- paths

-- the path of the file of this index, if there is one
abbrev pub path_by : List Metadata → Option ℕ → Option (List ℕ)
path_by ms None = None
path_by ms (Some i) = path_at i ms

pub path_found : (name : List ℕ) (ms : List Metadata) → path_known name ms ≡ path_by ms (first_index name (names_known ms))
path_found name [] = refl
path_found name (m ∷ ms) = at (bytes_eq m.name name) (first_index name (names_known ms)) (path_found name ms)
  where
    at : (b : Bool) (o : Option ℕ) → path_known name ms ≡ path_by ms o → (if b then m.path else path_known name ms) ≡ path_by (m ∷ ms) (if b then front else behind o)
    at true o h = refl
    at false None h = h
    at false (Some i) h = h

pub path_is : (ms : List Metadata) (i : ℕ) (m : Metadata) → i < length ms → (get_or ms i m).path ≡ path_at i ms
path_is [] i m h = absurd (omega (arith, h))
path_is (x ∷ ms) zero m h = refl
path_is (x ∷ ms) (suc i) m h = path_is ms i m (omega (arith, h))

-- ---- marks

-- whether the file of this index is marked as opened, if there is one
abbrev pub is_opened_by : List Metadata → Option ℕ → Bool
is_opened_by ms None = false
is_opened_by ms (Some i) = is_opened_at i ms

pub is_opened_found : (name : List ℕ) (ms : List Metadata) → is_opened_known name ms ≡ is_opened_by ms (first_index name (names_known ms))
is_opened_found name [] = refl
is_opened_found name (m ∷ ms) = at (bytes_eq m.name name) (first_index name (names_known ms)) (is_opened_found name ms)
  where
    at : (b : Bool) (o : Option ℕ) → is_opened_known name ms ≡ is_opened_by ms o → (if b then not m.is_import else is_opened_known name ms) ≡ is_opened_by (m ∷ ms) (if b then front else behind o)
    at true o h = refl
    at false None h = h
    at false (Some i) h = h

pub is_opened_is : (ms : List Metadata) (i : ℕ) (m : Metadata) → i < length ms → not (get_or ms i m).is_import ≡ is_opened_at i ms
is_opened_is [] i m h = absurd (omega (arith, h))
is_opened_is (x ∷ ms) zero m h = refl
is_opened_is (x ∷ ms) (suc i) m h = is_opened_is ms i m (omega (arith, h))

-- the files, that of this index opened, if there is one
abbrev pub opened_by : List Metadata → Option ℕ → List Metadata
opened_by ms None = ms
opened_by ms (Some i) = opened_at i ms

pub opened_found : (name : List ℕ) (ms : List Metadata) → opened_by ms (first_index name (names_known ms)) ≡ opened_in name ms
opened_found name [] = refl
opened_found name (m ∷ ms) = at (bytes_eq m.name name) (first_index name (names_known ms)) (opened_found name ms)
  where
    at : (b : Bool) (o : Option ℕ) → opened_by ms o ≡ opened_in name ms → opened_by (m ∷ ms) (if b then front else behind o) ≡ (if b then record m { is_import = false } ∷ ms else m ∷ opened_in name ms)
    at true o h = refl
    at false None h = ap (λ xs. m ∷ xs) h
    at false (Some i) h = ap (λ xs. m ∷ xs) h

pub opened_set : (ms now : List Metadata) (i : ℕ) (m : Metadata) → now ≡ ms → i < length ms → set now i (record (get_or now i m) { is_import = false }) ≡ opened_at i ms
opened_set ms now i m is h = rw is (at ms i h)
  where
    at : (xs : List Metadata) (k : ℕ) → k < length xs → set xs k (record (get_or xs k m) { is_import = false }) ≡ opened_at k xs
    at [] k less = absurd (omega (arith, less))
    at (x ∷ xs) zero less = refl
    at (x ∷ xs) (suc k) less = ap (λ ys. x ∷ ys) (at xs k (omega (arith, less)))

pub same_names : (i : ℕ) (ms : List Metadata) → names_known (opened_at i ms) ≡ names_known ms
same_names i [] = refl
same_names zero (m ∷ ms) = refl
same_names (suc i) (m ∷ ms) = ap (λ ns. m.name ∷ ns) (same_names i ms)

pub same_length : (i : ℕ) (ms : List Metadata) → length (opened_at i ms) ≡ length ms
same_length i [] = refl
same_length zero (m ∷ ms) = refl
same_length (suc i) (m ∷ ms) = ap suc (same_length i ms)

-- ---- one file more, and one less

pub indexed_push : (names now : Indexes) (ms : List Metadata) (m : Metadata) (index : ℕ) → index ≡ length ms
    → ((ns : List (List ℕ)) → length ns ≡ index → AreIndexed names ns → AreIndexed now (ns ++ m.name ∷ [])) → AreIndexed names (names_known ms)
    → AreIndexed now (names_known (ms ++ m ∷ []))
indexed_push names now ms m index long more h =
    let same : length (names_known ms) ≡ index = rw length-map (sym long) in
    rw map-append (more (names_known ms) same h)

pub indexed_pop : (names now : Indexes) (old ms : List Metadata) (m : Metadata) (index : ℕ) → index ≡ length ms → old ≡ ms ++ m ∷ []
    → ((ns : List (List ℕ)) → length ns ≡ index → AreIndexed names (ns ++ m.name ∷ []) → AreIndexed now ns) → AreIndexed names (names_known old)
    → AreIndexed now (names_known ms)
indexed_pop names now old ms m index long is less h =
    let same : length (names_known ms) ≡ index = rw length-map (sym long) in
    less (names_known ms) same (rw (is, map-append) at h)

-- what stands before the last is one list
pub front_is : (xs ys : List Metadata) (x y : Metadata) → xs ++ x ∷ [] ≡ ys ++ y ∷ [] → xs ≡ ys
front_is [] [] x y h = refl
front_is [] (b ∷ ys) x y h =
    let longer : length (ys ++ y ∷ []) ≡ length ys + 1 = length_push ys y in
    let same : 1 ≡ suc (length (ys ++ y ∷ [])) = ap length h in
    absurd (omega (arith, longer, same))
front_is (a ∷ xs) [] x y h =
    let longer : length (xs ++ x ∷ []) ≡ length xs + 1 = length_push xs x in
    let same : suc (length (xs ++ x ∷ [])) ≡ 1 = ap length h in
    absurd (omega (arith, longer, same))
front_is (a ∷ xs) (b ∷ ys) x y h =
    let heads : a ≡ b = cc in
    let tails : xs ++ x ∷ [] ≡ ys ++ y ∷ [] = cc in
    ap (λ l. a ∷ l) (front_is xs ys x y tails) ∙ ap (λ c. c ∷ ys) heads
