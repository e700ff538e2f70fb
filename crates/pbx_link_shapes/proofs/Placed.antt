-- Where the first part of a name stands among the parts of all files.
use Rattle.std.proofs.Common.{◌≡◌, ◌∙◌, ℕ, suc, ◌+◌, ◌<◌, List, [], ◌∷◌, ◌++◌, map, length, Bool, Option, Some, None, refl, ap, sym, subst, arith}
use Rattle.std.specs.Prelude.{find, position, option_map, option_and_then, unwrap_or, slice_get}
use Rattle.std.specs.List.{flat_map, enumerate_from}
use Rattle.std.specs.Option.{option_or}
use Rattle.std.specs.Str.{bytes_eq}
use Rattle.std.proofs.lemmas.List.{length-append, length-map}
use Rattle.std.proofs.lemmas.List.Folds.{find-append}
use Rattle.pbx_link_definitions.specs.Definitions.{Part}
use Rattle.pbx_link_meaning.specs.Descriptors.{Described, all_parts}
use Rattle.pbx_link_pool.specs.Places.{place_with_file}
use Rattle.pbx_link_pool.proofs.Found.{told_from}
use Rattle.pbx_link_shapes.specs.Starts.{starts_from, total, counts, AreStarts}
use Rattle.pbx_link_shapes.specs.declared.starts.Starts.{Starts}
use Rattle.pbx_link_meaning.proofs.DescribedLists.{File, parts_back}
use Rattle.pbx_link_shapes.proofs.Lists.{first_at, first_append, first_map, first_within, position_is, enumerated, find_mapped, map_map, no_image}

-- ---- starts

pub starts_push : (s : ℕ) (ns : List ℕ) (n : ℕ) → starts_from s (ns ++ n ∷ []) ≡ starts_from s ns ++ (s + total ns) ∷ []
unfolding starts_from total
starts_push s [] n = ap (λ (k : ℕ). k ∷ []) (omega arith)
starts_push s (m ∷ ns) n =
    ap (λ (ks : List ℕ). s ∷ ks)
    (starts_push (s + m) ns n ∙ ap (λ (k : ℕ). starts_from (s + m) ns ++ k ∷ []) (omega arith))

pub total_push : (ns : List ℕ) (n : ℕ) → total (ns ++ n ∷ []) ≡ total ns + n
unfolding total
total_push [] n = omega arith
total_push (m ∷ ns) n = let ih = total_push ns n in omega (arith, ih)

pub no_starts : (s : Starts) → s.starts ≡ [] → s.count ≡ 0 → AreStarts [] s
unfolding starts_from total
no_starts s starts count = record { starts = starts; count = count }

pub more_starts : (old new : Starts) (n : ℕ) → new.starts ≡ old.starts ++ old.count ∷ [] → new.count ≡ old.count + n
    → (ns : List ℕ) → AreStarts ns old → AreStarts (ns ++ n ∷ []) new
more_starts old new n starts count ns h = record {
  starts =
      starts ∙ ap (λ (ks : List ℕ). ks ++ old.count ∷ []) h.starts
      ∙ ap (λ (k : ℕ). starts_from 0 ns ++ k ∷ []) (let c = h.count in omega (arith, c)) ∙ sym (starts_push 0 ns n);
  count = count ∙ ap (λ (k : ℕ). k + n) h.count ∙ sym (total_push ns n);
}

pub total_is : {X : Type 0} (tell : File → List X) (files : List File) → total (counts tell files) ≡ length (flat_map tell files)
unfolding total
total_is tell [] = refl
total_is tell (f ∷ fs) = let ih = total_is tell fs in let both = length-append (tell f) (flat_map tell fs) in omega (arith, ih, both)

-- ---- the part that is found, by the number of its file and its own

module _ {X : Type 0} (tell : File → List X) (test : X → Bool) where
  abbrev numbered : File → List (ℕ × X)
  numbered f = enumerate_from 0 (tell f)

  abbrev found : ℕ → List File → Option (ℕ × (ℕ × X))
  found k files = find (λ (x : ℕ × (ℕ × X)). test x.1.1) (told_from numbered k files)

  found_or : (k : ℕ) (f : File) (fs : List File)
      → found k (f ∷ fs) ≡ option_or (option_map (λ y. (k, y)) (find (λ (y : ℕ × X). test y.1) (numbered f))) (found (k + 1) fs)
  found_or k f fs =
      find-append (λ (x : ℕ × (ℕ × X)). test x.1.1) (map (λ y. (k, y)) (numbered f)) (told_from numbered (k + 1) fs)
      ∙ ap (λ (o : Option (ℕ × (ℕ × X))). option_or o (found (k + 1) fs)) (find_mapped (λ (x : ℕ × (ℕ × X)). test x.1.1) (λ y. (k, y)) (numbered f))

  -- the first part of the files, which begin at s
  abbrev place_from : ℕ → List File → Option ℕ
  place_from s files = option_map (λ n. s + n) (first_at test (flat_map tell files))

  record IsPlaced (k s : ℕ) (files : List File) (e : ℕ × (ℕ × X)) : Type 0 where
    n : ℕ
    number : e.0 ≡ k + n
    start : ℕ
    at : slice_get (starts_from s (counts tell files)) n ≡ Some start
    place : place_from s files ≡ Some (start + e.1.0)

  own_first : (f : File) (o : Option (ℕ × X)) → find (λ (y : ℕ × X). test y.1) (numbered f) ≡ o
      → option_map (λ (y : ℕ × X). y.0) o ≡ option_map (λ n. 0 + n) (first_at test (tell f))
  own_first f o w = ap (option_map (λ (y : ℕ × X). y.0)) (sym w) ∙ enumerated test 0 (tell f)

  behind : (s : ℕ) (f : File) (fs : List File) → first_at test (tell f) ≡ None → place_from s (f ∷ fs) ≡ place_from (s + length (tell f)) fs
  behind s f fs none =
      ap (option_map (λ n. s + n))
      (first_append test (tell f) (flat_map tell fs) ∙ ap (λ (o : Option ℕ). option_or o (option_map (λ n. length (tell f) + n) (first_at test (flat_map tell fs)))) none)
      ∙ map_map (λ n. s + n) (λ n. length (tell f) + n) (λ n. s + length (tell f) + n) (λ n. omega arith) (first_at test (flat_map tell fs))

  here : (s m : ℕ) (f : File) (fs : List File) → first_at test (tell f) ≡ Some m → place_from s (f ∷ fs) ≡ Some (s + m)
  here s m f fs some =
      ap (option_map (λ n. s + n))
      (first_append test (tell f) (flat_map tell fs) ∙ ap (λ (o : Option ℕ). option_or o (option_map (λ n. length (tell f) + n) (first_at test (flat_map tell fs)))) some)

  first_is : (o : Option ℕ) (m : ℕ) → Some m ≡ option_map (λ n. 0 + n) o → o ≡ Some m
  first_is None m e = absurd (cc)
  first_is (Some n) m e = let same : m ≡ 0 + n = cc in ap (λ (k : ℕ). Some k) (omega (arith, same))

  placed : (k s : ℕ) (files : List File) (e : ℕ × (ℕ × X)) → found k files ≡ Some e → IsPlaced k s files e
  unfolding starts_from
  placed k s [] e h = absurd (cc)
  placed k s (f ∷ fs) e h = by_own (find (λ (y : ℕ × X). test y.1) (numbered f)) refl (sym (found_or k f fs) ∙ h) (placed (k + 1) (s + length (tell f)) fs e)
    where
      by_own : (o : Option (ℕ × X)) → find (λ (y : ℕ × X). test y.1) (numbered f) ≡ o → option_or (option_map (λ y. (k, y)) o) (found (k + 1) fs) ≡ Some e
          → (found (k + 1) fs ≡ Some e → IsPlaced (k + 1) (s + length (tell f)) fs e) → IsPlaced k s (f ∷ fs) e
      by_own None w g ih =
          let r = ih g in
          record {
            n = suc r.n;
            number = omega (arith, r.number);
            start = r.start;
            at = r.at;
            place = behind s f fs (no_image (λ n. 0 + n) (first_at test (tell f)) (sym (own_first f None w))) ∙ r.place;
          }
      by_own (Some y) w g ih =
          let same : (k, y) ≡ e = cc in
          subst (IsPlaced k s (f ∷ fs)) same
          (record { n = 0; number = omega arith; start = s; at = refl; place = here s y.0 f fs (first_is (first_at test (tell f)) y.0 (own_first f (Some y) w)) })

  missed : (k : ℕ) (files : List File) → found k files ≡ None → first_at test (flat_map tell files) ≡ None
  missed k [] h = refl
  missed k (f ∷ fs) h = by_own (find (λ (y : ℕ × X). test y.1) (numbered f)) refl (sym (found_or k f fs) ∙ h) (missed (k + 1) fs)
    where
      by_own : (o : Option (ℕ × X)) → find (λ (y : ℕ × X). test y.1) (numbered f) ≡ o → option_or (option_map (λ y. (k, y)) o) (found (k + 1) fs) ≡ None
          → (found (k + 1) fs ≡ None → first_at test (flat_map tell fs) ≡ None) → first_at test (flat_map tell (f ∷ fs)) ≡ None
      by_own None w g ih =
          first_append test (tell f) (flat_map tell fs)
          ∙ ap (λ (o : Option ℕ). option_or o (option_map (λ n. length (tell f) + n) (first_at test (flat_map tell fs))))
          (no_image (λ n. 0 + n) (first_at test (tell f)) (sym (own_first f None w)))
          ∙ ap (option_map (λ n. length (tell f) + n)) (ih g)
      by_own (Some y) w g ih = absurd (cc)

-- ---- the part of a name

abbrev numbers : {X : Type 0} → ℕ × (ℕ × X) → ℕ × ℕ
numbers x = (x.0, x.1.0)

module _ {X : Type 0} (tell : File → List (Part X)) (name : Part X → List ℕ) (pool : List File) (q : List ℕ) where
  abbrev is_it : Part X → Bool
  is_it p = bytes_eq (name p) q

  -- the place of the part of the name
  abbrev pub place : Option ℕ
  place = position (λ (d : Described X). bytes_eq (name d.part) q) (all_parts tell pool)

  place_is : place ≡ first_at is_it (flat_map tell pool)
  place_is =
      position_is (λ (d : Described X). bytes_eq (name d.part) q) (all_parts tell pool)
      ∙ sym (first_map is_it (λ (d : Described X). d.part) (all_parts tell pool)) ∙ ap (first_at is_it) (parts_back pool tell pool)

  pub no_place : (o : Option (ℕ × ℕ)) → o ≡ place_with_file tell name pool q → o ≡ None → None ≡ place
  no_place o is h = sym (place_is ∙ missed tell is_it 0 pool (no_image numbers (found tell is_it 0 pool) (sym is ∙ h)))

  pub record PlacedAt (s : Starts) (i j : ℕ) : Type 0 where
    pub start : ℕ
    pub at : slice_get s.starts i ≡ Some start
    pub within : start + j < s.count
    pub is : Some (start + j) ≡ place

  pub placed_at : (s : Starts) (o : Option (ℕ × ℕ)) (i j : ℕ) → AreStarts (counts tell pool) s → o ≡ place_with_file tell name pool q → o ≡ Some (i, j) → PlacedAt s i j
  placed_at s o i j h is some = by_found (found tell is_it 0 pool) refl (sym is ∙ some)
    where
      at_place : (o : Option ℕ) (m : ℕ) → option_map (λ n. 0 + n) o ≡ Some m → o ≡ Some m
      at_place None m e = absurd (cc)
      at_place (Some n) m e = let same : 0 + n ≡ m = cc in ap (λ (k : ℕ). Some k) (omega (arith, same))

      there : (e : ℕ × (ℕ × Part X)) → i ≡ e.0 → j ≡ e.1.0 → found tell is_it 0 pool ≡ Some e → PlacedAt s i j
      there e a b w =
          let r = placed tell is_it 0 0 pool e w in
          let n : r.n ≡ i = omega (arith, r.number, a) in
          let first : first_at is_it (flat_map tell pool) ≡ Some (r.start + j) =
          at_place (first_at is_it (flat_map tell pool)) (r.start + j) (r.place ∙ ap (λ (k : ℕ). Some (r.start + k)) (sym b)) in
          let lt : r.start + j < length (flat_map tell pool) = first_within is_it (flat_map tell pool) (r.start + j) first in
          record {
            start = r.start;
            at = ap (λ (ks : List ℕ). slice_get ks i) h.starts ∙ subst (λ (m : ℕ). slice_get (starts_from 0 (counts tell pool)) m ≡ Some r.start) n r.at;
            within = let c : s.count ≡ total (counts tell pool) = h.count in let t = total_is tell pool in omega (arith, c, t, lt);
            is = sym (place_is ∙ first);
          }

      by_found : (d : Option (ℕ × (ℕ × Part X))) → found tell is_it 0 pool ≡ d → option_map numbers d ≡ Some (i, j) → PlacedAt s i j
      by_found None w e = absurd (cc)
      by_found (Some d) w e =
          let both : (d.0, d.1.0) ≡ (i, j) = cc in
          there d (sym (ap (λ (x : ℕ × ℕ). x.0) both)) (sym (ap (λ (x : ℕ × ℕ). x.1) both)) w

  -- the place that is counted from the start of a file, where contracts see the pool as `other`
  pub placed_is : (other : List File) (s : Starts) (o : Option (ℕ × ℕ)) (i j : ℕ) (r : Option ℕ) → pool ≡ other → AreStarts (counts tell pool) s
      → o ≡ place_with_file tell name pool q → o ≡ Some (i, j) → ((start : ℕ) → slice_get s.starts i ≡ Some start → start + j < s.count → r ≡ Some (start + j))
      → r ≡ position (λ (d : Described X). bytes_eq (name d.part) q) (all_parts tell other)
  placed_is other s o i j r view h is some told =
      let p = placed_at s o i j h is some in
      told p.start p.at p.within ∙ p.is ∙ ap (λ (fs : List File). position (λ (d : Described X). bytes_eq (name d.part) q) (all_parts tell fs)) view

  pub unplaced_is : (other : List File) (o : Option (ℕ × ℕ)) → pool ≡ other → o ≡ place_with_file tell name pool q → o ≡ None
      → None ≡ position (λ (d : Described X). bytes_eq (name d.part) q) (all_parts tell other)
  unplaced_is other o view is none =
      no_place o is none ∙ ap (λ (fs : List File). position (λ (d : Described X). bytes_eq (name d.part) q) (all_parts tell fs)) view

  -- all parts are as many as the starts count
  pub count_is : (s : Starts) → AreStarts (counts tell pool) s → s.count ≡ length (all_parts tell pool)
  count_is s h =
      h.count ∙ total_is tell pool ∙ sym (ap length (parts_back pool tell pool)) ∙ length-map (all_parts tell pool) (λ (d : Described X). d.part)

module _ {X : Type 0} (tell : File → List (Part X)) (name : Part X → List ℕ) (pool other : List File) (view : pool ≡ other) (s : Starts) (h : AreStarts (counts tell pool) s) where
  abbrev place_of : List ℕ → Option ℕ
  place_of q = position (λ (d : Described X). bytes_eq (name d.part) q) (all_parts tell other)

  all_counted : s.count ≡ length (all_parts tell other)
  all_counted = count_is tell name pool [] s h ∙ ap (λ (fs : List File). length (all_parts tell fs)) view

  -- the place that a reference names, or else that behind the last
  pub place_or_count : (reference : Option (List ℕ)) (q : List ℕ) (o : Option ℕ) (r : ℕ) → Some q ≡ reference → o ≡ place_of q → r ≡ unwrap_or o s.count
      → r ≡ unwrap_or (option_and_then place_of reference) (length (all_parts tell other))
  place_or_count reference q o r named is told =
      told ∙ ap (unwrap_or o) all_counted ∙ ap (λ (p : Option ℕ). unwrap_or p (length (all_parts tell other))) is
      ∙ ap (λ (e : Option (List ℕ)). unwrap_or (option_and_then place_of e) (length (all_parts tell other))) named

  pub unnamed_count : (reference : Option (List ℕ)) → None ≡ reference → s.count ≡ unwrap_or (option_and_then place_of reference) (length (all_parts tell other))
  unnamed_count reference none = all_counted ∙ ap (λ (e : Option (List ℕ)). unwrap_or (option_and_then place_of e) (length (all_parts tell other))) none
