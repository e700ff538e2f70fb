-- The members beside the type of an `Any`, and the member `value`, and what their trees say.
use Rattle.std.proofs.Common.{◌≡◌, inl, inr, ℕ, ◌&&◌, List, ◌∷◌, Bool, true, false, codes, if◌then◌else◌, Option, Some, option_and_then, find, Ordering, Less, Equal, Greater, nat_cmp, refl, ap, sym, ◌∙◌}
use Rattle.std.specs.Prelude.{not}
use Rattle.std.specs.List.{list_all}
use Rattle.std.specs.Ordering.{match_ordering}
use Rattle.std.specs.Cmp.Lexicographic.{slice_cmp}
use Rattle.std.proofs.lemmas.Slice.Eq.{bytes_eq-Decides}
use Rattle.serde_json.specs.Data.{Data, Members, no_members, member}
use Rattle.serde_json.specs.Find.{get_member}
use Rattle.pbx_content.specs.Content.{Content}
use Rattle.pbx_content.specs.declared.shape.Kind.{Kind}
use Rattle.pbx_content.specs.declared.shape.Shape.{Shape}
use Rattle.pbx_wkt_types.specs.declared.form.Form.{Form}
use Rattle.pbx_wkt_types.specs.declared.form.Form.TheVariants as forms
use Rattle.pbx_json_meaning.specs.Asked.{one}
use Rattle.pbx_json_meaning.specs.Stands.{Entry, beside_type, value_said, message_in, said, entries_said}
use Rattle.pbx_json_meaning.specs.Trees.{AreAboveKey, AreAscendingKeys}
use Rattle.pbx_json_meaning.specs.Urls.{is_type_key, is_value_key, is_type_or_value, without_type, is_beside_type}
use Rattle.pbx_json_laws.proofs.In.{In, IsLess, equal_itself, less_through}
use Rattle.pbx_json_laws.proofs.Parts.{both}
use Rattle.pbx_json_laws.proofs.Told.{same_key}

-- only an ordinary message stands beside the type
pub beside_is : (form : Form) → is_beside_type form ≡ true → form ≡ forms.Fields
beside_is forms.Fields h = refl
beside_is _ h = absurd (cc)

-- ---- keys

pub value_key : (k : List ℕ) → is_value_key k ≡ true → k ≡ codes "value"
value_key k h = (bytes_eq-Decides k (codes "value")).0 h

-- ---- the members beside the type

above_from : (j k : List ℕ) (ms : Members) → IsLess j k → AreAboveKey k ms → AreAboveKey j ms
above_from j k no_members less a = tt
above_from j k (member l d ms) less a = (less_through j k l less a.0, a.1)

above_without : (j : List ℕ) (ms : Members) → AreAboveKey j ms → AreAboveKey j (without_type ms)
above_without j no_members a = tt
above_without j (member l d ms) a = at (is_type_key l) (above_without j ms (above_from j l ms a.0 a.1)) (above_without l ms a.1)
  where
    at : (b : Bool) → AreAboveKey j (without_type ms) → AreAboveKey l (without_type ms)
        → AreAboveKey j (if b then without_type ms else member l d (without_type ms))
    at true p q = p
    at false p q = (a.0, q)

above_any : (k : List ℕ) (ms : Members) → AreAboveKey k ms → AreAscendingKeys ms
above_any k no_members a = tt
above_any k (member l d ms) a = a.1

pub ascending_without : (ms : Members) → AreAscendingKeys ms → AreAscendingKeys (without_type ms)
ascending_without no_members a = tt
ascending_without (member k d ms) a = at (is_type_key k) (above_without k ms a)
  where
    at : (b : Bool) → AreAboveKey k (without_type ms) → AreAscendingKeys (if b then without_type ms else member k d (without_type ms))
    at true p = above_any k (without_type ms) p
    at false p = p

module _ (shape : Shape) (allow : Bool) where
  abbrev entry : List ℕ → Data → Entry
  entry k d = record { key = k; says = said shape allow d }

  -- the entries beside the type are those of the members beside it
  pub beside-said : (ms : Members) → beside_type (entries_said shape allow ms) ≡ entries_said shape allow (without_type ms)
  beside-said no_members = refl
  beside-said (member k d ms) = at (is_type_key k) (beside-said ms)
    where
      at : (b : Bool) → beside_type (entries_said shape allow ms) ≡ entries_said shape allow (without_type ms)
          → (if not b then entry k d ∷ beside_type (entries_said shape allow ms) else beside_type (entries_said shape allow ms))
          ≡ entries_said shape allow (if b then without_type ms else member k d (without_type ms))
      at true ih = ih
      at false ih = ap (λ es. entry k d ∷ es) ih

  -- ---- the member `value`

  -- the entry `value` is that of the member
  pub value-said : (k : Kind) (ms : Members)
      → value_said k (entries_said shape allow ms) ≡ option_and_then (λ d. message_in (said shape allow d (one k))) (get_member (codes "value") ms)
  value-said k no_members = refl
  value-said k (member l d ms) = at (is_value_key l) refl (value-said k ms)
    where
      of_entry : Entry → Option Content
      of_entry e = message_in (e.says (one k))

      of_tree : Data → Option Content
      of_tree e = message_in (said shape allow e (one k))

      other : is_value_key l ≡ false → (o : Ordering) → slice_cmp nat_cmp (codes "value") l ≡ o
          → value_said k (entries_said shape allow ms) ≡ option_and_then of_tree (get_member (codes "value") ms)
          → value_said k (entries_said shape allow ms)
          ≡ option_and_then of_tree (match_ordering o (get_member (codes "value") ms) (Some d) (get_member (codes "value") ms))
      other n Less e ih = ih
      other n Greater e ih = ih
      other n Equal e ih =
          let yes' : is_value_key l ≡ true = (bytes_eq-Decides l (codes "value")).1 (sym (same_key (codes "value") l e)) in
          absurd (let bad : false ≡ true = sym n ∙ yes' in cc)

      at : (b : Bool) → is_value_key l ≡ b
          → value_said k (entries_said shape allow ms) ≡ option_and_then of_tree (get_member (codes "value") ms)
          → option_and_then of_entry (if b then Some (entry l d) else find (λ e. is_value_key e.key) (entries_said shape allow ms))
          ≡ option_and_then of_tree
          (match_ordering (slice_cmp nat_cmp (codes "value") l) (get_member (codes "value") ms) (Some d) (get_member (codes "value") ms))
      at true q ih =
          let equal : slice_cmp nat_cmp (codes "value") l ≡ Equal =
          ap (λ x. slice_cmp nat_cmp (codes "value") x) (value_key l q) ∙ equal_itself (codes "value") in
          rw equal refl
      at false q ih = other q (slice_cmp nat_cmp (codes "value") l) refl ih

  -- ---- the other members

  abbrev pub are_expected : Members → Bool
  are_expected ms = list_all (λ (e : Entry). is_type_or_value e.key) (entries_said shape allow ms)

  pub expected_in : (k : List ℕ) (d : Data) (ms : Members) → are_expected ms ≡ true → In k d ms → is_type_or_value k ≡ true
  expected_in k d no_members h i = absurd i
  expected_in k d (member l e ms) h (inl i) = ap is_type_or_value (sym i.0) ∙ (both (is_type_or_value l) (are_expected ms) h).0
  expected_in k d (member l e ms) h (inr i) = expected_in k d ms (both (is_type_or_value l) (are_expected ms) h).1 i

  pub other_there : (ms : Members) → are_expected ms ≡ false → (k : List ℕ) × (d : Data) × In k d ms × (is_type_or_value k ≡ false)
  other_there no_members h = absurd (cc)
  other_there (member k d ms) h = at (is_type_or_value k) refl h (λ q. behind (other_there ms q))
    where
      There : Members → Type 0
      There ms = (l : List ℕ) × (e : Data) × In l e ms × (is_type_or_value l ≡ false)

      behind : There ms → There (member k d ms)
      behind it = (it.0, it.1, inr it.2, it.3)

      at : (b : Bool) → is_type_or_value k ≡ b → (b && are_expected ms) ≡ false → (are_expected ms ≡ false → There (member k d ms)) → There (member k d ms)
      at true e q ih = ih q
      at false e q ih = (k, d, inl (refl, refl), e)
