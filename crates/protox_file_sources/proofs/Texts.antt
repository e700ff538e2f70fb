-- What a tree has under a text, and the list of what it holds.
use Rattle.std.proofs.Common.{◌≡◌, ◌∙◌, ℕ, Bool, true, false, cond, List, [], ◌∷◌, map, Option, Some, None, MatchOption, Bor, refl, sym, ap, subst}
use Rattle.std.proofs.Common.{string_bytes, Result, Ok, Err, OnOk, OnErr}
use Rattle.std.specs.Prelude.{String, IfSome}
use Rattle.std.specs.BTreeMap.{BTreeMap, get_by_text, is_at}
use Rattle.std.specs.Cmp.Lexicographic.{nat_list_eq_equiv, bytes_decides}
use Rattle.std.specs.Map.{lookup}
use Rattle.std.specs.Option.{option_copied}
use Rattle.std.specs.Str.{bytes_eq}
use Rattle.std.proofs.lemmas.Map.Text.{text_cmp, is_eq-slice_cmp}
use Rattle.protox_file_sources.specs.declared.memory.Put.{Put}
use Rattle.protox_file_sources.specs.Memory.{told_put, told_of, by_text, stored_as, named_by, AreNames}
use Rattle.protox_file_sources.specs.Told.{Absent}
use Rattle.protox_io.specs.FileNames.{name_of}

looked_up_in : {X Y : Type 0} (es : List (String Y × X)) (q : List ℕ)
    → lookup (bytes_eq q) (map (λ e. (string_bytes e.0, e.1)) es) ≡ lookup (is_at (text_cmp q)) es
looked_up_in [] q = refl
looked_up_in (e ∷ es) q =
    ap (λ (b : Bool). cond b (Some e.1) (lookup (bytes_eq q) (map (λ e. (string_bytes e.0, e.1)) es))) (sym (is_eq-slice_cmp q (string_bytes e.0)))
    ∙ ap (cond (is_at (text_cmp q) e.0) (Some e.1)) (looked_up_in es q)

-- what stands in the list under a text is what the tree has there
pub looked_up : {X Y : Type 0} (m : BTreeMap (String Y) X) (q : List ℕ) → lookup (bytes_eq q) (by_text m) ≡ get_by_text m q
looked_up m q = looked_up_in m.entries q

pub told_found : {Y : Type 0} (m : BTreeMap (String Y) Put) (q : List ℕ) (found : Option (Bor Put)) → option_copied found ≡ get_by_text m q
    → MatchOption found (stored_as (by_text m) q ≡ Absent) (λ put. stored_as (by_text m) q ≡ told_put put.now)
told_found m q None e = ap told_of (looked_up m q ∙ sym e)
told_found m q (Some p) e = ap told_of (looked_up m q ∙ sym e)

-- the value is put under the text, and nothing else changes
abbrev pub Sets : {X Y : Type 0} → BTreeMap (String Y) X → BTreeMap (String Y) X → List ℕ → X → Type 0
Sets m n text value = (q : List ℕ) → get_by_text n q ≡ cond (bytes_eq text q) (Some value) (get_by_text m q)

here : {X : Type 0} (text : List ℕ) (a b : X) → cond (bytes_eq text text) a b ≡ a
here text a b = ap (λ (t : Bool). cond t a b) (nat_list_eq_equiv.refl text)

elsewhere : {X : Type 0} (text other : List ℕ) (a b : X) → ¬ (other ≡ text) → cond (bytes_eq text other) a b ≡ b
elsewhere text other a b apart = at (bytes_eq text other) refl
  where
    at : (t : Bool) → bytes_eq text other ≡ t → cond t a b ≡ b
    at true e = absurd (apart (sym ((bytes_decides text other).0 e)))
    at false e = refl

there : {X Y : Type 0} (m n : BTreeMap (String Y) X) (text : List ℕ) (value : X) → Sets m n text value → get_by_text n text ≡ Some value
there m n text value sets = sets text ∙ here text (Some value) (get_by_text m text)

-- what stands elsewhere after a call that puts a value under a text, or is refused
kept_elsewhere : {X Y U E : Type 0} (m n : BTreeMap (String Y) X) (text : List ℕ) (value : X) (result : Result U E) → OnOk result (Sets m n text value)
    → OnErr result (by_text n ≡ by_text m) → (other : List ℕ) → ¬ (other ≡ text) → get_by_text n other ≡ get_by_text m other
kept_elsewhere m n text value (Ok u) sets same other apart = sets other ∙ elsewhere text other (Some value) (get_by_text m other) apart
kept_elsewhere m n text value (Err e) sets same other apart = sym (looked_up n other) ∙ ap (lookup (bytes_eq other)) same ∙ looked_up m other

pub file_put : {Y U E : Type 0} (m n : BTreeMap (String Y) Put) (name : List ℕ) (put : Put) (result : Result U E) → OnOk result (Sets m n name put)
    → OnOk result (stored_as (by_text n) name ≡ told_put put)
file_put m n name put (Ok u) sets = ap told_of (looked_up n name ∙ there m n name put sets)
file_put m n name put (Err e) sets = tt

pub files_kept : {Y U E : Type 0} (m n : BTreeMap (String Y) Put) (name : List ℕ) (put : Put) (result : Result U E) → OnOk result (Sets m n name put)
    → OnErr result (by_text n ≡ by_text m) → (other : List ℕ) → ¬ (other ≡ name) → stored_as (by_text n) other ≡ stored_as (by_text m) other
files_kept m n name put result sets same other apart =
    ap told_of (looked_up n other ∙ kept_elsewhere m n name put result sets same other apart ∙ sym (looked_up m other))

pub name_put : {Y U E : Type 0} (m n : BTreeMap (String Y) (List ℕ)) (path name : List ℕ) (result : Result U E) → OnOk result (Sets m n path name)
    → OnOk result (named_by (by_text n) path ≡ Some name)
name_put m n path name (Ok u) sets = looked_up n path ∙ there m n path name sets
name_put m n path name (Err e) sets = tt

pub names_kept : {Y U E : Type 0} (m n : BTreeMap (String Y) (List ℕ)) (path name : List ℕ) (result : Result U E) → OnOk result (Sets m n path name)
    → OnErr result (by_text n ≡ by_text m) → (other : List ℕ) → ¬ (other ≡ path) → named_by (by_text n) other ≡ named_by (by_text m) other
names_kept m n path name result sets same other apart =
    looked_up n other ∙ kept_elsewhere m n path name result sets same other apart ∙ sym (looked_up m other)

-- names stay names
pub still_names : {Y U E : Type 0} (m n : BTreeMap (String Y) (List ℕ)) (path name : List ℕ) (result : Result U E) → OnOk result (Sets m n path name)
    → OnErr result (by_text n ≡ by_text m) → AreNames (by_text m) → name_of name ≡ Some name → AreNames (by_text n)
still_names m n path name (Ok u) sets same were is q =
    subst IsName (sym (looked_up n q ∙ sets q)) (at (bytes_eq path q))
  where
    IsName : Option (List ℕ) → Type 0
    IsName found = IfSome found (λ it. name_of it ≡ Some it)

    at : (b : Bool) → IsName (cond b (Some name) (get_by_text m q))
    at true = is
    at false = subst IsName (looked_up m q) (were q)
still_names m n path name (Err x) sets same were is q = subst AreNames (sym same) were q

-- the name of a path is a name
pub is_name : (names : List (List ℕ × List ℕ)) (path name : List ℕ) → AreNames names → named_by names path ≡ Some name → name_of name ≡ Some name
is_name names path name all found = subst (λ (it : Option (List ℕ)). IfSome it (λ n. name_of n ≡ Some n)) found (all path)
