-- Full names that stand twice.
use Rattle.std.proofs.Common.{◌≡◌, ◌∙◌, ◌⊎◌, ℕ, ◌+◌, ◌<◌, ◌≤◌, ◌||◌, not, pos, List, [], ◌∷◌, ◌++◌, map}
use Rattle.std.proofs.Common.{length, take, get_or, Bool, true, false, Option, Some, None, refl, ap, sym, subst, inl, inr, arith}
use Rattle.std.proofs.Common.{below_more}
use Rattle.std.specs.Prelude.{Contains}
use Rattle.std.specs.List.{list_any}
use Rattle.std.specs.Str.{bytes_eq}
use Rattle.std.proofs.lemmas.Bool.{false≢true}
use Rattle.std.proofs.lemmas.List.{get_or_default}
use Rattle.std.proofs.lemmas.List.Elements.{Contains-append_left, Contains-append_right}
use Rattle.std.proofs.lemmas.List.Folds.{list_any_more}
use Rattle.pbx_desc_records.specs.declared.file.FileDescriptorProto.{FileDescriptorProto}
use Rattle.pbx_link_definitions.specs.Names.{among}
use Rattle.pbx_link_definitions.specs.Definitions.{Place, Defined, full_name, name_place, definitions}
use Rattle.pbx_link_definitions.specs.Places.{places_where, repeated}
use Rattle.pbx_link_scope.specs.Pooled.{like_named}
use Rattle.pbx_link_definitions.specs.Found.{IsIndex, is_earlier}
use Rattle.pbx_link_rules_record.proofs.Among.{among_right, passing, none_pass, again, none_again}
use Rattle.pbx_link_definitions.proofs.Seen.{swap}
use Rattle.pbx_link_rules.specs.Rules.{taken_names, definitions_twice}

-- ---- names that are walked

-- the test finds the names before the index
abbrev pub HasSeen : List (List ℕ) → ℕ → (List ℕ → Bool) → Type 0
HasSeen names i has = (q : List ℕ) → has q ≡ list_any (bytes_eq q) (take i names)

-- none of the names before the index equals an earlier one
abbrev pub NoneAgain : List (List ℕ) → ℕ → Type 0
NoneAgain names i = (k : ℕ) → k < i → (d : List ℕ) → is_earlier bytes_eq names k (get_or names k d) ≡ false

was_there : (added there : Bool) → added ≡ not there → added ≡ false → there ≡ true
was_there added true e h = refl
was_there added false e h = absurd (cc)

was_new : (added there : Bool) → added ≡ not there → added ≡ true → there ≡ false
was_new added false e h = refl
was_new added true e h = absurd (cc)

module _ (names : List (List ℕ)) (i : ℕ) (name : List ℕ) (within : i < length names) (is : name ≡ get_or names i name)
    (has : List ℕ → Bool) (seen : HasSeen names i has) where
  pub seen_more : (after : List ℕ → Bool) → ((q : List ℕ) → after q ≡ (bytes_eq q name || has q)) → HasSeen names (i + 1) after
  seen_more after more q =
      more q ∙ ap (λ (b : Bool). bytes_eq q name || b) (seen q) ∙ swap (bytes_eq q name) (list_any (bytes_eq q) (take i names))
      ∙ ap (λ (n : List ℕ). list_any (bytes_eq q) (take i names) || bytes_eq q n) is ∙ sym (list_any_more (bytes_eq q) names i name within)

  module _ (added : Bool) (new : added ≡ not (has name)) where
    at_index : (d : List ℕ) → is_earlier bytes_eq names i (get_or names i d) ≡ has name
    at_index d = ap (λ (n : List ℕ). list_any (bytes_eq n) (take i names)) (get_or_default names i d name within ∙ sym is) ∙ sym (seen name)

    pub again_here : added ≡ false → IsIndex (is_earlier bytes_eq names) names (Some i)
    again_here h = (within, λ d. at_index d ∙ was_there added (has name) new h)

    pub none_more : added ≡ true → NoneAgain names i → NoneAgain names (i + 1)
    none_more h none =
        below_more (λ k. (d : List ℕ) → is_earlier bytes_eq names k (get_or names k d) ≡ false) i none
        (λ d. at_index d ∙ was_new added (has name) new h)

pub none_at_end : (names : List (List ℕ)) (i : ℕ) → length names ≤ i → NoneAgain names i → IsIndex (is_earlier bytes_eq names) names None
none_at_end names i done none = λ k d lt. none k (omega (arith, lt, done)) d

-- ---- from names to definitions

or_cases : (a b : Bool) → (a || b) ≡ true → (a ≡ true) ⊎ (b ≡ true)
or_cases true b h = inl refl
or_cases false b h = inr h

neither : (a b : Bool) → (a || b) ≡ false → (a ≡ false) × (b ≡ false)
neither true b h = absurd (false≢true (sym h))
neither false b h = (refl, h)

module _ (files : List FileDescriptorProto) (f : FileDescriptorProto) where
  abbrev names : List (List ℕ)
  names = map full_name (definitions f)

  abbrev taken : List ℕ → Bool
  taken = among (taken_names files f)

  abbrev taken_places : List Place
  taken_places = places_where (λ (d : Defined). taken (full_name d)) name_place (definitions f)

  abbrev again_places : List Place
  again_places = map name_place (repeated like_named [] (definitions f))

  pub twice_here : (i : ℕ) (d : Defined) → IsIndex (λ k name. taken name || is_earlier bytes_eq names k name) names (Some i)
      → Contains (definitions_twice files f) (name_place (get_or (definitions f) i d))
  twice_here i d h = at (or_cases (taken it) (is_earlier bytes_eq names i it) (h.1 (full_name d)))
    where
      it : List ℕ
      it = get_or names i (full_name d)

      at : (taken it ≡ true) ⊎ (is_earlier bytes_eq names i it ≡ true) → Contains (definitions_twice files f) (name_place (get_or (definitions f) i d))
      at (inl e) =
          Contains-append_left taken_places again_places (name_place (get_or (definitions f) i d))
          (passing full_name name_place (definitions f) taken i d h.0 (λ n. ap taken (get_or_default names i n (full_name d) h.0) ∙ e))
      at (inr e) =
          Contains-append_right taken_places again_places (name_place (get_or (definitions f) i d))
          (again full_name name_place (definitions f) bytes_eq i d h.0
          (λ n. ap (is_earlier bytes_eq names i) (get_or_default names i n (full_name d) h.0) ∙ e))

  pub twice_none : IsIndex (λ k name. taken name || is_earlier bytes_eq names k name) names None → definitions_twice files f ≡ []
  twice_none h =
      among_right taken_places again_places None
      (none_pass full_name name_place (definitions f) taken (λ k n lt. (neither (taken (get_or names k n)) _ (h k n lt)).0))
      (none_again full_name name_place (definitions f) bytes_eq (λ k n lt. (neither (taken (get_or names k n)) _ (h k n lt)).1))

  -- an index that a search finds in lists that are lent
  module _ (ds : List Defined) (is_ds : ds ≡ definitions f) (ns : List (List ℕ)) (is_ns : ns ≡ map full_name ds) (o : Option ℕ)
      (h : IsIndex (λ k name. taken name || is_earlier bytes_eq ns k name) ns o) where
    at_names : IsIndex (λ k name. taken name || is_earlier bytes_eq names k name) names o
    at_names = subst (λ (l : List (List ℕ)). IsIndex (λ k name. taken name || is_earlier bytes_eq l k name) l o) (is_ns ∙ ap (map full_name) is_ds) h

    pub found_here : (i : ℕ) (d : Defined) (above there : Place) → o ≡ Some i → d ≡ get_or ds i d → above ≡ d.place → there ≡ above ++ pos 1 ∷ []
        → Contains (definitions_twice files f) there
    found_here i d above there found is_d over e =
        let item : d ≡ get_or (definitions f) i d = is_d ∙ ap (λ (l : List Defined). get_or l i d) is_ds in
        subst (λ (p : Place). Contains (definitions_twice files f) p)
        (sym (e ∙ ap (λ (a : Place). a ++ pos 1 ∷ []) (over ∙ ap (λ (x : Defined). x.place) item)))
        (twice_here i d (subst (λ (r : Option ℕ). IsIndex (λ k name. taken name || is_earlier bytes_eq names k name) names r) found at_names))

    pub found_none : o ≡ None → definitions_twice files f ≡ []
    found_none found = twice_none (subst (λ (r : Option ℕ). IsIndex (λ k name. taken name || is_earlier bytes_eq names k name) names r) found at_names)
