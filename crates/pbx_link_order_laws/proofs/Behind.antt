-- Files that stand behind those that they import.
use Rattle.std.proofs.Common.{◌≡◌, ◌∙◌, ℕ, zero, suc, ◌&&◌, ◌||◌, List, [], ◌∷◌, ◌++◌, Bool, true, false, Option, Some, None, refl, ap, sym, subst}
use Rattle.std.proofs.Common.{append_assoc, append-nil, arith}
use Rattle.std.specs.Prelude.{Contains}
use Rattle.std.specs.List.{list_all}
use Rattle.std.proofs.lemmas.Bool.{false≢true}
use Rattle.std.proofs.lemmas.List.Folds.{list_any-append}
use Rattle.std.proofs.lemmas.Slice.Eq.{bytes_eq-Decides}
use Rattle.pbx_desc_records.specs.declared.file.FileDescriptorProto.{FileDescriptorProto}
use Rattle.pbx_link_definitions.specs.Names.{text_or_empty, is_named}
use Rattle.pbx_link_scope.specs.Pooled.{has_file}
use Rattle.pbx_link_rules.specs.PoolLaws.{AreBehind}
use Rattle.pbx_link_rules.proofs.Lists.{neither, or_left}
use Rattle.pbx_link_order_laws.proofs.Searched.{both_so, no_item}

abbrev File : Type 0
File = FileDescriptorProto

-- ---- names

named_text : (o : Option (List ℕ)) (n : List ℕ) → is_named o n ≡ true → text_or_empty o ≡ n
named_text None n e = absurd (false≢true e)
named_text (Some m) n e = (bytes_eq-Decides m n).0 e

pub has_joined : (xs ys : List File) (n : List ℕ) → has_file (xs ++ ys) n ≡ (has_file xs n || has_file ys n)
has_joined xs ys n = list_any-append (λ (f : File). is_named f.name n) xs ys

-- a name that files lack with one more is none of that one
last_unnamed : (before : List File) (g : File) (n : List ℕ) → has_file (before ++ g ∷ []) n ≡ false → (has_file before n ≡ false) × (is_named g.name n ≡ false)
last_unnamed before g n h =
    let two = neither (has_file before n) (has_file (g ∷ []) n) (sym (has_joined before (g ∷ []) n) ∙ h) in
    (two.0, (neither (is_named g.name n) false two.1).0)

pub all_more : (xs ys : List File) (names : List (List ℕ)) → list_all (has_file xs) names ≡ true → list_all (has_file (xs ++ ys)) names ≡ true
all_more xs ys [] e = refl
all_more xs ys (n ∷ ns) e =
    let g = both_so (has_file xs n) (list_all (has_file xs) ns) e in
    rw (has_joined xs ys n, or_left (has_file xs n) (has_file ys n) g.0) (all_more xs ys ns g.1)

-- ---- the order of files

pub behind_joined : (before xs ys : List File) → AreBehind before xs → AreBehind (before ++ xs) ys → AreBehind before (xs ++ ys)
unfolding AreBehind
behind_joined before [] ys h g = subst (λ (l : List File). AreBehind l ys) (append-nil before) g
behind_joined before (x ∷ xs) ys h g =
    (h.0, h.1, behind_joined (before ++ x ∷ []) xs ys h.2 (subst (λ (l : List File). AreBehind l ys) (sym (append_assoc before (x ∷ []) xs)) g))

pub behind_front : (before xs ys : List File) → AreBehind before (xs ++ ys) → AreBehind before xs
unfolding AreBehind
behind_front before [] ys h = tt
behind_front before (x ∷ xs) ys h = (h.0, h.1, behind_front (before ++ x ∷ []) xs ys h.2)

pub behind_rest : (before xs ys : List File) → AreBehind before (xs ++ ys) → AreBehind (before ++ xs) ys
unfolding AreBehind
behind_rest before [] ys h = subst (λ (l : List File). AreBehind l ys) (sym (append-nil before)) h
behind_rest before (x ∷ xs) ys h =
    subst (λ (l : List File). AreBehind l ys) (append_assoc before (x ∷ []) xs) (behind_rest (before ++ x ∷ []) xs ys h.2)

-- a file's name is none of those before it
pub later_name : (before gs : List File) → AreBehind before gs → (y : File) → Contains gs y → (n : List ℕ) → is_named y.name n ≡ true
    → has_file before n ≡ false
unfolding AreBehind
later_name before [] h y c n e = absurd (no_item y c)
later_name before (g ∷ gs) h y (zero, lt, same) n e =
    ap (has_file before) (sym (named_text g.name n (ap (λ (f : File). is_named f.name n) same ∙ e))) ∙ h.0
later_name before (g ∷ gs) h y (suc i, lt, same) n e =
    (last_unnamed before g n (later_name (before ++ g ∷ []) gs h.2 y (i, omega (arith, lt), same) n e)).0

-- no two files have one name
pub one_name : (before gs : List File) → AreBehind before gs → (x y : File) (n : List ℕ) → Contains gs x → Contains gs y → is_named x.name n ≡ true
    → is_named y.name n ≡ true → x ≡ y
unfolding AreBehind
one_name before [] h x y n c d e f = absurd (no_item x c)
one_name before (g ∷ gs) h x y n (zero, lt, same) (zero, lt', same') e f = sym same ∙ same'
one_name before (g ∷ gs) h x y n (zero, lt, same) (suc j, lt', same') e f =
    let none = (last_unnamed before g n (later_name (before ++ g ∷ []) gs h.2 y (j, omega (arith, lt'), same') n f)).1 in
    absurd (false≢true (sym none ∙ ap (λ (k : File). is_named k.name n) same ∙ e))
one_name before (g ∷ gs) h x y n (suc i, lt, same) (zero, lt', same') e f =
    let none = (last_unnamed before g n (later_name (before ++ g ∷ []) gs h.2 x (i, omega (arith, lt), same) n e)).1 in
    absurd (false≢true (sym none ∙ ap (λ (k : File). is_named k.name n) same' ∙ f))
one_name before (g ∷ gs) h x y n (suc i, lt, same) (suc j, lt', same') e f =
    one_name (before ++ g ∷ []) gs h.2 x y n (i, omega (arith, lt), same) (j, omega (arith, lt'), same') e f

-- what a file imports is there
pub imports_within : (before gs : List File) → AreBehind before gs → (x : File) → Contains gs x → list_all (has_file (before ++ gs)) x.dependency ≡ true
unfolding AreBehind
imports_within before [] h x c = absurd (no_item x c)
imports_within before (g ∷ gs) h x (zero, lt, same) =
    all_more before (g ∷ gs) x.dependency (ap (λ (f : File). list_all (has_file before) f.dependency) (sym same) ∙ h.1)
imports_within before (g ∷ gs) h x (suc i, lt, same) =
    subst (λ (l : List File). list_all (has_file l) x.dependency ≡ true) (append_assoc before (g ∷ []) gs)
    (imports_within (before ++ g ∷ []) gs h.2 x (i, omega (arith, lt), same))

-- files behind others are behind any of the same names
all_alike : (xs ys : List File) → ((n : List ℕ) → has_file xs n ≡ has_file ys n) → (names : List (List ℕ))
    → list_all (has_file xs) names ≡ list_all (has_file ys) names
all_alike xs ys same [] = refl
all_alike xs ys same (n ∷ ns) =
    ap (λ (b : Bool). b && list_all (has_file xs) ns) (same n) ∙ ap (λ (b : Bool). has_file ys n && b) (all_alike xs ys same ns)

pub behind_alike : (xs ys gs : List File) → ((n : List ℕ) → has_file xs n ≡ has_file ys n) → AreBehind xs gs → AreBehind ys gs
unfolding AreBehind
behind_alike xs ys [] same h = tt
behind_alike xs ys (g ∷ gs) same h = (
  sym (same (text_or_empty g.name)) ∙ h.0,
  sym (all_alike xs ys same g.dependency) ∙ h.1,
  behind_alike (xs ++ g ∷ []) (ys ++ g ∷ []) gs
      (λ n. has_joined xs (g ∷ []) n ∙ ap (λ (b : Bool). b || has_file (g ∷ []) n) (same n) ∙ sym (has_joined ys (g ∷ []) n)) h.2,
)
