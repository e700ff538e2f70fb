-- Names that are free.
use Rattle.std.proofs.Common.{◌≡◌, ◌≢◌, inl, inr, ℕ, zero, suc, ◌+◌, ◌<◌, ◌≤◌, List, [], ◌∷◌, ◌++◌, length, map, get_or, Bool, true, false, not, refl, sym, ap, ◌∙◌, arith, subst}
use Rattle.std.proofs.Common.{if◌then◌else◌, cond, Option, Some, unwrap_or, Bor}
use Rattle.std.specs.BTreeMap.{BTreeMap, get_by}
use Rattle.std.specs.Cmp.Lexicographic.{slice_cmp}
use Rattle.std.specs.Ordering.{nat_cmp}
use Rattle.std.specs.Map.{update}
use Rattle.pbx_parse_translation.proofs.Taken.{among_more}
use Rattle.std.specs.List.{IsDistinct, range_with_len}
use Rattle.std.specs.Set.{is_member}
use Rattle.std.specs.Str.{bytes_eq}
use Rattle.std.proofs.lemmas.Cmp.{nat_list_eq_equiv}
use Rattle.std.proofs.lemmas.Bool.{cases_lt, false_from_ne_true, not-true, not-false}
use Rattle.std.proofs.lemmas.List.Folds.{Any-from_list_any}
use Rattle.std.proofs.lemmas.List.FromFn.{length-map-range_with_len, get_or-map-range_with_len, length-range_with_len, get_or-range_with_len}
use Rattle.std.proofs.lemmas.List.Sums.{position_or_len_is, fails_before_first, passes_at_first, prefix_len-le-length}
use Rattle.std.proofs.lemmas.Map.Made.{length-le_from_is_member}
use Rattle.std.proofs.lemmas.Map.Keys.{IsDistinct-from_apart}
use Rattle.std.proofs.lemmas.Slice.Eq.{bytes_eq-Decides}
use Rattle.pbx_parse_translation.specs.Synthetic.{is_among, name_with, fewest_x, free_name}
use Rattle.pbx_parse_translation.specs.Scope.{AreTaken, BeginsWell}

-- ---- names by how many `X` they have

length_name_with : (x_count : ℕ) (field : List ℕ) → length (name_with x_count field) ≡ x_count + (1 + length field)
unfolding name_with
length_name_with zero field = omega arith
length_name_with (suc x_count) field = let e = length_name_with x_count field in omega arith

-- fewer `X` make another name
pub other_name : (i j : ℕ) (field : List ℕ) → i < j → name_with i field ≢ name_with j field
other_name i j field below e = let same = ap length e in let a = length_name_with i field in let b = length_name_with j field in absurd (omega arith)

names_below : ℕ → List ℕ → List (List ℕ)
names_below x_count field = map (λ k. name_with k field) (range_with_len 0 x_count)

named_at : (x_count : ℕ) (field : List ℕ) (k : ℕ) (d : List ℕ) → k < x_count → get_or (names_below x_count field) k d ≡ name_with k field
unfolding names_below
named_at x_count field k d below = get_or-map-range_with_len (λ n. name_with n field) 0 x_count k k d below (omega arith)

length_names : (x_count : ℕ) (field : List ℕ) → length (names_below x_count field) ≡ x_count
unfolding names_below
length_names x_count field = length-map-range_with_len (λ n. name_with n field) 0 x_count

apart : (x_count : ℕ) (field : List ℕ) → IsDistinct bytes_eq (names_below x_count field)
apart x_count field = IsDistinct-from_apart bytes_eq (names_below x_count field) (λ i j d below within.
    let n = length_names x_count field in
    false_from_ne_true _ (λ e. other_name i j field below (sym (named_at x_count field i d (omega arith)) ∙ (bytes_eq-Decides _ _).0 e ∙ named_at x_count field j d (omega arith))))

-- no more names are taken than there are
pub few_taken : (names : List (List ℕ)) (field : List ℕ) (x_count : ℕ) → AreTaken names field x_count → x_count ≤ length names
few_taken names field x_count taken =
    let among : (q : List ℕ) → is_member bytes_eq (names_below x_count field) q ≡ true → is_member bytes_eq names q ≡ true = λ q e.
    let w = Any-from_list_any (bytes_eq q) (names_below x_count field) e in
    let n = length_names x_count field in
    let at : w.1 ≡ name_with w.0 field = sym w.3 ∙ named_at x_count field w.0 w.1 (omega arith) in
    ap (is_among names) ((bytes_eq-Decides q w.1).0 w.4 ∙ at) ∙ taken w.0 (omega arith) in
    let small = length-le_from_is_member nat_list_eq_equiv (names_below x_count field) names (apart x_count field) among in
    let n = length_names x_count field in
    omega arith

-- ---- the fewest `X`

module _ (names : List (List ℕ)) (field : List ℕ) where
  abbrev is_free : ℕ → Bool
  is_free x_count = not (is_among names (name_with x_count field))

  abbrev tries : List ℕ
  tries = range_with_len 0 (length names)

  at_count : (k : ℕ) → k < length names → get_or tries k 0 ≡ k
  at_count k below = get_or-range_with_len 0 (length names) k 0 below ∙ (let e : 0 + k ≡ k = omega arith in e)

  pub fewest_taken : AreTaken names field (fewest_x names field)
  fewest_taken k below =
      let n = prefix_len-le-length (λ x. not (is_free x)) tries in
      let m = length-range_with_len 0 (length names) in
      let e : get_or tries k 0 ≡ k = at_count k (omega arith) in
      not-false _ (sym (ap is_free e) ∙ fails_before_first is_free tries k 0 below)

  pub fewest_free : is_among names (free_name names field) ≡ false
  fewest_free =
      let n = prefix_len-le-length (λ x. not (is_free x)) tries in
      let m = length-range_with_len 0 (length names) in
      elim (cases_lt (fewest_x names field) (length names)) [
        | inl below ↦ not-true _ (sym (ap is_free (at_count (fewest_x names field) below)) ∙ passes_at_first is_free tries 0 (omega arith))
        | inr past ↦ false_from_ne_true _ (λ e.
            let all : AreTaken names field (fewest_x names field + 1) = λ k below. elim (cases_lt k (fewest_x names field)) [
              | inl before ↦ fewest_taken k before
              | inr last ↦ let same : k ≡ fewest_x names field = omega arith in ap (λ (j : ℕ). is_among names (name_with j field)) same ∙ e
            ] in
            let small = few_taken names field (fewest_x names field + 1) all in
            absurd (omega arith))
      ]

  -- so many `X`, where fewer make names that are taken, and they do not
  pub fewest_are : (x_count : ℕ) → AreTaken names field x_count → is_among names (name_with x_count field) ≡ false → x_count ≡ fewest_x names field
  fewest_are x_count taken free =
      let small = few_taken names field x_count taken in
      let m = length-range_with_len 0 (length names) in
      sym (position_or_len_is is_free tries x_count 0 (omega arith)
      (λ k below. ap is_free (at_count k (omega arith)) ∙ ap not (taken k below))
      (λ below. ap is_free (at_count x_count (omega arith)) ∙ ap not free))

  -- as many as there are names, where fewer make names that are taken
  pub fewest_last : (x_count : ℕ) → AreTaken names field x_count → length names ≤ x_count → length names ≡ fewest_x names field
  fewest_last x_count taken past =
      let small = few_taken names field x_count taken in
      let m = length-range_with_len 0 (length names) in
      sym (position_or_len_is is_free tries (length names) 0 (omega arith)
      (λ k below. ap is_free (at_count k below) ∙ ap not (taken k (omega arith)))
      (λ below. absurd (omega arith)))

-- ---- where searches begin

pub more_taken : (names : List (List ℕ)) (name q : List ℕ) → is_among names q ≡ true → is_among (names ++ name ∷ []) q ≡ true
more_taken names name q e = among_more names name q ∙ at (bytes_eq q name)
  where
    at : (b : Bool) → (if b then true else is_among names q) ≡ true
    at true = refl
    at false = e

pub last_taken : (names : List (List ℕ)) (name : List ℕ) → is_among (names ++ name ∷ []) name ≡ true
last_taken names name = among_more names name name ∙ ap (λ (b : Bool). if b then true else is_among names name) ((bytes_eq-Decides name name).1 refl)

-- a search for the field's next name begins with the last name that was taken for it
pub begins_after : (old new : BTreeMap (Bor (List ℕ)) ℕ) (names : List (List ℕ)) (field name : List ℕ) (x_count : ℕ)
    → ((q : List ℕ) → get_by (λ k. slice_cmp nat_cmp q k.now) new ≡ update bytes_eq (λ r. get_by (λ k. slice_cmp nat_cmp r k.now) old) field (Some x_count) q)
    → x_count ≡ fewest_x names field → BeginsWell old names → BeginsWell new (names ++ name ∷ [])
begins_after old new names field name x_count found fewest begun = λ q k below.
    more_taken names name (name_with k q) (at q k (bytes_eq field q) refl (subst (λ (o : Option ℕ). k < unwrap_or o 0) (found q) below))
  where
    at : (q : List ℕ) (k : ℕ) (b : Bool) → bytes_eq field q ≡ b → k < unwrap_or (cond b (Some x_count) (get_by (λ n. slice_cmp nat_cmp q n.now) old)) 0 → is_among names (name_with k q) ≡ true
    at q k true e below = ap (λ f. is_among names (name_with k f)) (sym ((bytes_eq-Decides field q).0 e)) ∙ fewest_taken names field k (omega arith)
    at q k false e below = begun q k below
