-- Members of an object, and their keys in ascending order.
use Rattle.std.proofs.Common.{◌≡◌, ◌⊎◌, inl, inr, ℕ, ◌||◌, List, ◌∷◌, Bool, true, false, if◌then◌else◌, Some, Ordering, Less, Equal, Greater, nat_cmp, refl, ap, sym, ◌∙◌, subst}
use Rattle.std.specs.List.{list_any}
use Rattle.std.specs.Ordering.{match_ordering, is_lt, is_eq, ordering_reverse}
use Rattle.std.specs.Cmp.{IsTotalOrder}
use Rattle.std.specs.Cmp.Lexicographic.{slice_cmp}
use Rattle.std.proofs.lemmas.Cmp.{nat_list_cmp_total}
use Rattle.std.proofs.lemmas.Map.Text.{is_eq-slice_cmp}
use Rattle.std.proofs.lemmas.Slice.Eq.{bytes_eq-Decides}
use Rattle.serde_json.specs.Data.{Data, Members, no_members, member}
use Rattle.serde_json.specs.Find.{get_member}
use Rattle.pbx_json_meaning.specs.Faults.{lesser}
use Rattle.pbx_json_meaning.specs.Trees.{AreAboveKey, AreAscendingKeys}
use Rattle.pbx_json_laws.proofs.Parts.{of_some, or_right}
use Rattle.pbx_json_laws.proofs.Told.{same_key}

-- ---- keys

-- the first key is less by bytes
abbrev pub IsLess : List ℕ → List ℕ → Type 0
IsLess k l = is_lt (slice_cmp nat_cmp k l) ≡ true

pub equal_itself : (k : List ℕ) → slice_cmp nat_cmp k k ≡ Equal
equal_itself k = at (slice_cmp nat_cmp k k) (is_eq-slice_cmp k k ∙ (bytes_eq-Decides k k).1 refl)
  where
    at : (o : Ordering) → is_eq o ≡ true → o ≡ Equal
    at Less e = absurd (cc)
    at Equal e = refl
    at Greater e = absurd (cc)

less_from : (o : Ordering) → is_lt o ≡ true → o ≡ Less
less_from Less e = refl
less_from Equal e = absurd (cc)
less_from Greater e = absurd (cc)

pub less_through : (k l m : List ℕ) → IsLess k l → IsLess l m → IsLess k m
less_through k l m a b =
    ap is_lt (IsTotalOrder.trans nat_list_cmp_total k l m (less_from (slice_cmp nat_cmp k l) a) (less_from (slice_cmp nat_cmp l m) b))

-- a greater key compares the other way
pub greater : (k l : List ℕ) → IsLess l k → slice_cmp nat_cmp k l ≡ Greater
greater k l a = IsTotalOrder.antisymm nat_list_cmp_total k l ∙ ap ordering_reverse (less_from (slice_cmp nat_cmp l k) a)

pub less_apart : (k l : List ℕ) → IsLess k l → k ≡ l → ⊥
less_apart k l a e =
    let here : slice_cmp nat_cmp k l ≡ Equal = ap (λ x. slice_cmp nat_cmp k x) (sym e) ∙ equal_itself k in
    let bad : true ≡ false = sym a ∙ ap is_lt here in
    cc

-- of two keys one is less
pub in_order : (k l : List ℕ) → (k ≡ l → ⊥) → IsLess k l ⊎ IsLess l k
in_order k l n = at (slice_cmp nat_cmp k l) refl
  where
    at : (o : Ordering) → slice_cmp nat_cmp k l ≡ o → IsLess k l ⊎ IsLess l k
    at Less e = inl (ap is_lt e)
    at Equal e = absurd (n (same_key k l e))
    at Greater e = inr (ap is_lt (IsTotalOrder.antisymm nat_list_cmp_total l k ∙ ap ordering_reverse e))

-- ---- members

-- a member with this key and this tree
abbrev pub In : List ℕ → Data → Members → Type 0
In k d no_members = ⊥
In k d (member l e ms) = ((l ≡ k) × (e ≡ d)) ⊎ In k d ms

pub got_in : (k : List ℕ) (d : Data) (ms : Members) → get_member k ms ≡ Some d → In k d ms
got_in k d no_members h = absurd (cc)
got_in k d (member l e ms) h = at (slice_cmp nat_cmp k l) refl h (got_in k d ms)
  where
    at : (o : Ordering) → slice_cmp nat_cmp k l ≡ o → match_ordering o (get_member k ms) (Some e) (get_member k ms) ≡ Some d
        → (get_member k ms ≡ Some d → In k d ms) → ((l ≡ k) × (e ≡ d)) ⊎ In k d ms
    at Less q g ih = inr (ih g)
    at Equal q g ih = inl (sym (same_key k l q), of_some e d g)
    at Greater q g ih = inr (ih g)

-- a key that all are above is less than each
pub above_less : (j k : List ℕ) (d : Data) (ms : Members) → AreAboveKey j ms → In k d ms → IsLess j k
above_less j k d no_members a i = absurd i
above_less j k d (member l e ms) a (inl i) = subst (IsLess j) i.0 a.0
above_less j k d (member l e ms) a (inr i) = less_through j l k a.0 (above_less l k d ms a.1 i)

pub above_ascending : (j : List ℕ) (ms : Members) → AreAboveKey j ms → AreAscendingKeys ms
above_ascending j no_members a = tt
above_ascending j (member l e ms) a = a.1

pub in_got : (k : List ℕ) (d : Data) (ms : Members) → AreAscendingKeys ms → In k d ms → get_member k ms ≡ Some d
in_got k d no_members a i = absurd i
in_got k d (member l e ms) a (inl i) =
    let same : slice_cmp nat_cmp k l ≡ Equal = ap (λ x. slice_cmp nat_cmp k x) i.0 ∙ equal_itself k in
    rw same (ap (λ x. Some x) i.1)
in_got k d (member l e ms) a (inr i) =
    let later : slice_cmp nat_cmp k l ≡ Greater = greater k l (above_less l k d ms a i) in
    rw later (in_got k d ms (above_ascending l ms a) i)

-- a lesser member that passes
pub record Lesser (p : List ℕ × Data → Bool) (k : List ℕ) (ms : Members) : Type 0 where
  pub key : List ℕ
  pub tree : Data
  pub there : In key tree ms
  pub less : IsLess key k
  pub passes : p (key, tree) ≡ true

pub lesser_in : (p : List ℕ × Data → Bool) (k : List ℕ) (ms : Members) → list_any p (lesser k ms) ≡ true → Lesser p k ms
lesser_in p k no_members h = absurd (cc)
lesser_in p k (member l e ms) h = at (is_lt (slice_cmp nat_cmp l k)) refl h (λ g. behind (lesser_in p k ms g))
  where
    behind : Lesser p k ms → Lesser p k (member l e ms)
    behind it = record { key = it.key; tree = it.tree; there = inr it.there; less = it.less; passes = it.passes }

    or_case : (b : Bool) → p (l, e) ≡ b → is_lt (slice_cmp nat_cmp l k) ≡ true → (b || list_any p (lesser k ms)) ≡ true
        → (list_any p (lesser k ms) ≡ true → Lesser p k (member l e ms)) → Lesser p k (member l e ms)
    or_case true q less g ih = record { key = l; tree = e; there = inl (refl, refl); less = less; passes = q }
    or_case false q less g ih = ih g

    at : (b : Bool) → is_lt (slice_cmp nat_cmp l k) ≡ b → list_any p (if b then (l, e) ∷ lesser k ms else lesser k ms) ≡ true
        → (list_any p (lesser k ms) ≡ true → Lesser p k (member l e ms)) → Lesser p k (member l e ms)
    at true less g ih = or_case (p (l, e)) refl less g ih
    at false less g ih = ih g

pub in_lesser : (p : List ℕ × Data → Bool) (k l : List ℕ) (e : Data) (ms : Members) → In l e ms → IsLess l k → p (l, e) ≡ true → list_any p (lesser k ms) ≡ true
in_lesser p k l e no_members i less passes = absurd i
in_lesser p k l e (member m f ms) (inl i) less passes =
    let here : is_lt (slice_cmp nat_cmp m k) ≡ true = ap (λ x. is_lt (slice_cmp nat_cmp x k)) i.0 ∙ less in
    let own : p (m, f) ≡ true = ap (λ x. p (x, f)) i.0 ∙ ap (λ x. p (l, x)) i.1 ∙ passes in
    rw (here, own) refl
in_lesser p k l e (member m f ms) (inr i) less passes = at (is_lt (slice_cmp nat_cmp m k)) (in_lesser p k l e ms i less passes)
  where
    at : (b : Bool) → list_any p (lesser k ms) ≡ true → list_any p (if b then (m, f) ∷ lesser k ms else lesser k ms) ≡ true
    at true ih = ap (λ x. p (m, f) || x) ih ∙ or_right (p (m, f)) true refl
    at false ih = ih
