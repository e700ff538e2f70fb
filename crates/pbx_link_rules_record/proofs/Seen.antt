-- Sets of keys that were seen.
use Rattle.std.proofs.Common.{◌≡◌, ◌∙◌, ◌<◌, ◌+◌, ℕ, ℤ, int_le, ◌<ℤ◌, List, [], ◌∷◌, length, take, get_or, Ordering, Less, Equal, Greater, is_eq, Bool, true, false, not, ◌&&◌, ◌||◌, Option, Some, None, refl, ap, sym, Decides, arith}
use Rattle.std.specs.List.{list_any}
use Rattle.std.specs.Ordering.{match_ordering, int_cmp, MatchOrdering}
use Rattle.std.specs.Str.{bytes_eq}
use Rattle.std.specs.BTreeMap.{is_at}
use Rattle.std.specs.BTreeSet.{insert_key}
use Rattle.std.proofs.lemmas.Cmp.{int_ranked}
use Rattle.std.proofs.lemmas.Int.{ints}
use Rattle.std.proofs.lemmas.List.Folds.{list_any_more}
use Rattle.std.proofs.lemmas.Slice.Eq.{bytes_eq-Decides}
use Rattle.pbx_link_definitions.specs.Names.{among}
use Rattle.pbx_link_definitions.specs.Says.{are_equal}
use Rattle.pbx_link_definitions.proofs.Seen.{swap, either_way, contains_is, has_inserted, equal, tied, decides}
use Rattle.pbx_link_rules_record.specs.Sets.{has_key}

-- ---- numbers

pub number_new : (k : ℤ) (ks : List ℤ) (added : Bool) → added ≡ not (list_any (is_at (int_cmp k)) ks) → added ≡ not (has_key ks (Some k))
number_new k ks added e = e ∙ ap not (contains_is int_cmp (λ z. z) equal tied decides k ks)

pub number_seen : (q k : ℤ) (ks after : List ℤ) → after ≡ insert_key int_cmp ks k → has_key after (Some q) ≡ (are_equal (Some q) (Some k) || has_key ks (Some q))
number_seen q k ks after e = ap (λ (l : List ℤ). has_key l (Some q)) e ∙ has_inserted int_cmp (λ z. z) equal tied decides q k ks

-- ---- items that are walked, by their numbers

-- the numbers of the items before the index are those that were seen
abbrev pub HasSeen : {X : Type 0} → (X → Option ℤ) → List X → ℕ → List ℤ → Type 0
HasSeen number xs i ks = (q : ℤ) → has_key ks (Some q) ≡ list_any (λ x. are_equal (Some q) (number x)) (take i xs)

pub seen_more : {X : Type 0} (number : X → Option ℤ) (xs : List X) (i : ℕ) (x : X) (ks after : List ℤ) → i < length xs → x ≡ get_or xs i x → HasSeen number xs i ks
    → ((q : ℤ) → has_key after (Some q) ≡ (are_equal (Some q) (number x) || has_key ks (Some q))) → HasSeen number xs (i + 1) after
seen_more {X} number xs i x ks after lt is seen one q =
    one q ∙ ap (λ (b : Bool). are_equal (Some q) (number x) || b) (seen q) ∙ swap (are_equal (Some q) (number x)) (list_any (λ y. are_equal (Some q) (number y)) (take i xs))
    ∙ ap (λ (y : X). list_any (λ z. are_equal (Some q) (number z)) (take i xs) || are_equal (Some q) (number y)) is ∙ sym (list_any_more (λ y. are_equal (Some q) (number y)) xs i x lt)

pub seen_is : {X : Type 0} (number : X → Option ℤ) (xs : List X) (i : ℕ) (ks : List ℤ) (n : Option ℤ) → HasSeen number xs i ks → has_key ks n ≡ list_any (λ x. are_equal n (number x)) (take i xs)
seen_is number xs i ks (Some q) seen = seen q
seen_is {X} number xs i ks None seen = none ks ∙ sym (none_before (take i xs))
  where
    none : (ls : List ℤ) → has_key ls None ≡ false
    none [] = refl
    none (l ∷ ls) = none ls

    none_before : (ys : List X) → list_any (λ x. are_equal None (number x)) ys ≡ false
    none_before [] = refl
    none_before (y ∷ ys) = none_before ys

-- ---- names

-- one name more in a set of names
pub names_more : {K : Type 0} (cmp : K → K → Ordering) (key : K → List ℕ) (tied : (x y : K) → is_eq (cmp x y) ≡ bytes_eq (key x) (key y)) (names : List (List ℕ)) (i : ℕ) (name : List ℕ) (k : K) (ks after : List K) (q : List ℕ)
    → i < length names → name ≡ get_or names i name → key k ≡ name → after ≡ insert_key cmp ks k → list_any (λ x. bytes_eq q (key x)) ks ≡ among (take i names) q
    → list_any (λ x. bytes_eq q (key x)) after ≡ among (take (i + 1) names) q
names_more {K} cmp key tied names i name k ks after q lt is same added so_far =
    ap (λ (l : List K). list_any (λ x. bytes_eq q (key x)) l) added
    ∙ has_inserted cmp key bytes_eq tied bytes_eq-Decides q k ks
    ∙ ap (λ (n : List ℕ). bytes_eq q n || list_any (λ x. bytes_eq q (key x)) ks) same
    ∙ ap (λ (b : Bool). b || list_any (λ x. bytes_eq q (key x)) ks) (either_way bytes_eq bytes_eq-Decides q name)
    ∙ ap (λ (b : Bool). bytes_eq name q || b) so_far
    ∙ swap (bytes_eq name q) (among (take i names) q)
    ∙ ap (λ (n : List ℕ). among (take i names) q || bytes_eq n q) is
    ∙ sym (list_any_more (λ other. bytes_eq other q) names i name lt)

pub name_there : {K : Type 0} (cmp : K → K → Ordering) (key : K → List ℕ) (tied : (x y : K) → is_eq (cmp x y) ≡ bytes_eq (key x) (key y)) (k : K) (ks : List K) → list_any (is_at (cmp k)) ks ≡ list_any (λ x. bytes_eq (key k) (key x)) ks
name_there cmp key tied k ks = contains_is cmp key bytes_eq tied bytes_eq-Decides k ks

pub no_key : (ks : List ℤ) → has_key ks None ≡ false
no_key [] = refl
no_key (k ∷ ks) = no_key ks
