-- The indexes of the first files of names.
use Rattle.std.proofs.Common.{◌≡◌, ◌∙◌, ℕ, ◌+◌, zero, suc, Bool, true, false, cond, List, [], ◌∷◌, ◌++◌, length, take, refl, sym, ap}
use Rattle.std.proofs.Common.{arith, length-append}
use Rattle.std.specs.Prelude.{Option, Some, None, option_map, slice_get}
use Rattle.std.specs.Str.{bytes_eq}
use Rattle.std.specs.Cmp.Lexicographic.{nat_list_eq_equiv}
use Rattle.pbx_link_names.specs.Names.{first_under}
use Rattle.protox_file_sources.specs.Told.{Entry, Recorded}
use Rattle.protox_file.specs.Listed.{declared_name, first_declared}
use Rattle.protox_file.specs.Indexes.{indexed_from, told_at, told_entry}

-- the files from n on of all
abbrev pub AreFrom : ℕ → List Entry → List Entry → Type 0
AreFrom n all entries = (k : ℕ) → slice_get all (n + k) ≡ slice_get entries k

first_or_later : (all : List Entry) (e : Entry) (es : List Entry) (n : ℕ) (q : List ℕ) (b : Bool) (later : Option ℕ) → AreFrom n all (e ∷ es)
    → told_at all later ≡ first_declared es q → told_at all (cond b (Some n) later) ≡ cond b (Recorded e) (first_declared es q)
first_or_later all e es n q true later from is = ap told_entry (ap (slice_get all) (omega (arith)) ∙ from 0)
first_or_later all e es n q false later from is = is

found_from : (all entries : List Entry) (n : ℕ) (q : List ℕ) → AreFrom n all entries
    → told_at all (first_under q (indexed_from n entries)) ≡ first_declared entries q
found_from all [] n q from = refl
found_from all (e ∷ es) n q from =
    ap (λ (b : Bool). told_at all (cond b (Some n) (first_under q (indexed_from (n + 1) es)))) (nat_list_eq_equiv.symm q (declared_name e))
    ∙ first_or_later all e es n q (bytes_eq (declared_name e) q) (first_under q (indexed_from (n + 1) es)) from
    (found_from all es (n + 1) q (λ k. ap (slice_get all) (omega (arith)) ∙ from (suc k)))

-- the file of the index of the first item of a name is the first that declares it
pub found : (entries : List Entry) (q : List ℕ) → told_at entries (first_under q (indexed_from 0 entries)) ≡ first_declared entries q
found entries q = found_from entries entries 0 q (λ k. ap (slice_get entries) (omega (arith)))

-- ---- one file behind another

take_next : (es : List Entry) (i : ℕ) (e : Entry) → slice_get es i ≡ Some e → take (suc i) es ≡ take i es ++ e ∷ []
take_next [] i e is = absurd cc
take_next (x ∷ es) zero e is = let same : x ≡ e = cc in ap (λ (y : Entry). y ∷ []) same
take_next (x ∷ es) (suc i) e is = ap (λ (ys : List Entry). x ∷ ys) (take_next es i e is)

take_within : (es : List Entry) (i : ℕ) (e : Entry) → slice_get es i ≡ Some e → length (take i es) ≡ i
take_within [] i e is = absurd cc
take_within (x ∷ es) zero e is = refl
take_within (x ∷ es) (suc i) e is = ap suc (take_within es i e is)

take_past : (es : List Entry) (i : ℕ) → slice_get es i ≡ None → take i es ≡ es
take_past [] zero is = refl
take_past [] (suc i) is = refl
take_past (x ∷ es) zero is = absurd cc
take_past (x ∷ es) (suc i) is = ap (λ (ys : List Entry). x ∷ ys) (take_past es i is)

indexed_more : (n : ℕ) (es : List Entry) (e : Entry) → indexed_from n (es ++ e ∷ []) ≡ indexed_from n es ++ (declared_name e, n + length es) ∷ []
indexed_more n [] e = ap (λ (k : ℕ). (declared_name e, k) ∷ []) (omega (arith))
indexed_more n (x ∷ es) e =
    ap (λ (ps : List (List ℕ × ℕ)). (declared_name x, n) ∷ ps)
    (indexed_more (n + 1) es e ∙ ap (λ (k : ℕ). indexed_from (n + 1) es ++ (declared_name e, k) ∷ []) (omega (arith)))

-- the names are those of the first files
abbrev pub AreFirst : List Entry → List (List ℕ × ℕ) → Type 0
AreFirst entries names = names ≡ indexed_from 0 (take (length names) entries)

pub none_first : (entries : List Entry) → AreFirst entries []
none_first entries = refl

pub one_more : (entries : List Entry) (names : List (List ℕ × ℕ)) (name : List ℕ) → AreFirst entries names
    → Some name ≡ option_map declared_name (slice_get entries (length names)) → AreFirst entries (names ++ (name, length names) ∷ [])
one_more entries names name so_far is = at (slice_get entries (length names)) refl is
  where
    at : (o : Option Entry) → slice_get entries (length names) ≡ o → Some name ≡ option_map declared_name o
        → AreFirst entries (names ++ (name, length names) ∷ [])
    at None here s = absurd cc
    at (Some e) here s =
        let named : name ≡ declared_name e = cc in
        let long : length (names ++ (name, length names) ∷ []) ≡ suc (length names) = omega (arith, length-append names ((name, length names) ∷ [])) in
        ap (λ (ns : List (List ℕ × ℕ)). ns ++ (name, length names) ∷ []) so_far
        ∙ ap (λ (t : List ℕ). indexed_from 0 (take (length names) entries) ++ (t, length names) ∷ []) named
        ∙ ap (λ (k : ℕ). indexed_from 0 (take (length names) entries) ++ (declared_name e, k) ∷ []) (omega (arith, take_within entries (length names) e here))
        ∙ sym (indexed_more 0 (take (length names) entries) e)
        ∙ ap (indexed_from 0) (sym (take_next entries (length names) e here))
        ∙ ap (λ (k : ℕ). indexed_from 0 (take k entries)) (sym long)

pub all_first : (entries : List Entry) (names : List (List ℕ × ℕ)) → AreFirst entries names
    → None ≡ option_map declared_name (slice_get entries (length names)) → names ≡ indexed_from 0 entries
all_first entries names so_far is = so_far ∙ ap (indexed_from 0) (at (slice_get entries (length names)) refl is)
  where
    at : (o : Option Entry) → slice_get entries (length names) ≡ o → None ≡ option_map declared_name o → take (length names) entries ≡ entries
    at None here s = take_past entries (length names) here
    at (Some e) here s = absurd cc
