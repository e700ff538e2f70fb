-- What is found in the files that are seen, by what is found in all files of a pool.
use Rattle.std.proofs.Common.{◌≡◌, ◌∙◌, ℕ, zero, suc, ◌+◌, ◌≤◌, List, [], ◌∷◌, ◌++◌, map, Bool, true, false, ◌||◌, ◌&&◌, if◌then◌else◌, Option, Some, None, refl, ap, sym, subst, arith}
use Rattle.std.specs.Prelude.{◌==◌, slice_get, find, option_map}
use Rattle.std.specs.List.{list_any, flat_map, enumerate_from}
use Rattle.std.specs.Option.{option_or}
use Rattle.std.proofs.lemmas.Bool.Decides.{nat_tests}
use Rattle.std.proofs.lemmas.List.Folds.{find-append, list_any-append}
use Rattle.pbx_desc_records.specs.declared.file.FileDescriptorProto.{FileDescriptorProto}
use Rattle.pbx_link_scope.specs.Pooled.{by_file}
use Rattle.pbx_link_visible.specs.Names.{is_among, if_seen, is_seen}
use Rattle.pbx_link_visible.proofs.Counted.{count, count_append}

-- ---- counts and what is found

found_counted : {X : Type 0} (test : X → Bool) (xs : List X) (x : X) → find test xs ≡ Some x → 1 ≤ count test xs
found_counted test [] x e = absurd (cc)
found_counted {X} test (y ∷ xs) x e = by_test (test y) e (found_counted test xs x)
  where
    by_test : (b : Bool) → (if b then Some y else find test xs) ≡ Some x → (find test xs ≡ Some x → 1 ≤ count test xs) → 1 ≤ (if b then 1 else 0) + count test xs
    by_test true h ih = omega arith
    by_test false h ih = let rest = ih h in omega (arith, rest)

none_counted : {X : Type 0} (test : X → Bool) (xs : List X) → count test xs ≤ 0 → find test xs ≡ None
none_counted {X} test xs h = by_found (find test xs) refl
  where
    by_found : (o : Option X) → find test xs ≡ o → o ≡ None
    by_found None e = refl
    by_found (Some x) e = absurd (let some = found_counted test xs x e in omega (arith, some))

any_counted : {X : Type 0} (s test : X → Bool) (xs : List X) → count test xs ≤ 0 → list_any (λ x. s x && test x) xs ≡ false
any_counted s test [] h = refl
any_counted {X} s test (x ∷ xs) h = by_test (test x) h (any_counted s test xs)
  where
    neither : (a : Bool) {b : Bool} → b ≡ false → ((a && false) || b) ≡ false
    neither true e = e
    neither false e = e

    by_test : (b : Bool) → (if b then 1 else 0) + count test xs ≤ 0 → (count test xs ≤ 0 → list_any (λ y. s y && test y) xs ≡ false) → ((s x && b) || list_any (λ y. s y && test y) xs) ≡ false
    by_test true h ih = absurd (omega (arith, h))
    by_test false h ih = neither (s x) (ih (omega (arith, h)))

-- what was found has the property
abbrev pub is_so : {X : Type 0} → (X → Bool) → Option X → Bool
is_so s None = false
is_so s (Some x) = s x

-- where at most one passes the test, one that passes has the property exactly if the first has
any_of_found : {X : Type 0} (s test : X → Bool) (xs : List X) → count test xs ≤ 1 → list_any (λ x. s x && test x) xs ≡ is_so s (find test xs)
any_of_found s test [] h = refl
any_of_found {X} s test (x ∷ xs) h = by_test (test x) h (any_counted s test xs) (any_of_found s test xs)
  where
    alone : (a : Bool) {b : Bool} → b ≡ false → ((a && true) || b) ≡ a
    alone true e = refl
    alone false e = e

    passed : (a : Bool) {b c : Bool} → b ≡ c → ((a && false) || b) ≡ c
    passed true e = e
    passed false e = e

    by_test : (b : Bool) → (if b then 1 else 0) + count test xs ≤ 1 → (count test xs ≤ 0 → list_any (λ y. s y && test y) xs ≡ false)
        → (count test xs ≤ 1 → list_any (λ y. s y && test y) xs ≡ is_so s (find test xs)) → ((s x && b) || list_any (λ y. s y && test y) xs) ≡ is_so s (if b then Some x else find test xs)
    by_test true h none ih = alone (s x) (none (omega (arith, h)))
    by_test false h none ih = passed (s x) (ih (omega (arith, h)))

-- ---- file by file

-- what was found, if it was found in the file at the index
abbrev pub at_index : {X : Type 0} → ℕ → Option (ℕ × X) → Option X
at_index j None = None
at_index j (Some e) = if e.0 == j then Some e.1 else None

module _ {X : Type 0} (tell : FileDescriptorProto → List X) (test : X → Bool) where
  -- what is told of files, beside their numbers
  abbrev numbered : ℕ → List FileDescriptorProto → List (ℕ × X)
  numbered k files = flat_map (λ f. map (λ x. (f.0, x)) (tell f.1)) (enumerate_from k files)

  abbrev first : ℕ → List FileDescriptorProto → Option (ℕ × X)
  first k files = find (λ (e : ℕ × X). test e.1) (numbered k files)

  abbrev pair : ℕ → X → ℕ × X
  pair k x = (k, x)

  find_paired : (k : ℕ) (xs : List X) → find (λ (e : ℕ × X). test e.1) (map (pair k) xs) ≡ option_map (pair k) (find test xs)
  find_paired k [] = refl
  find_paired k (x ∷ xs) = by_test (test x) (find_paired k xs)
    where
      by_test : (b : Bool) → find (λ (e : ℕ × X). test e.1) (map (pair k) xs) ≡ option_map (pair k) (find test xs)
          → (if b then Some (pair k x) else find (λ (e : ℕ × X). test e.1) (map (pair k) xs)) ≡ option_map (pair k) (if b then Some x else find test xs)
      by_test true ih = refl
      by_test false ih = ih

  first_is : (k : ℕ) (f : FileDescriptorProto) (files : List FileDescriptorProto) → first k (f ∷ files) ≡ option_or (option_map (pair k) (find test (tell f))) (first (k + 1) files)
  first_is k f files =
      find-append (λ (e : ℕ × X). test e.1) (map (pair k) (tell f)) (numbered (k + 1) files)
      ∙ ap (λ (o : Option (ℕ × X)). option_or o (first (k + 1) files)) (find_paired k (tell f))

  later : (k : ℕ) (files : List FileDescriptorProto) (e : ℕ × X) → first k files ≡ Some e → k ≤ e.0
  later k [] e h = absurd (cc)
  later k (f ∷ files) e h = by_found (find test (tell f)) (sym (first_is k f files) ∙ h) (later (k + 1) files e)
    where
      by_found : (o : Option X) → option_or (option_map (pair k) o) (first (k + 1) files) ≡ Some e → (first (k + 1) files ≡ Some e → k + 1 ≤ e.0) → k ≤ e.0
      by_found (Some x) h ih = let same : pair k x ≡ e = cc in subst (λ (d : ℕ × X). k ≤ d.0) same (omega arith)
      by_found None h ih = let above = ih h in omega (arith, above)

  not_before : (k : ℕ) (files : List FileDescriptorProto) → at_index k (first (k + 1) files) ≡ None
  not_before k files = by_found (first (k + 1) files) refl
    where
      by_test : (e : ℕ × X) (b : Bool) → (e.0 == k) ≡ b → k + 1 ≤ e.0 → (if b then Some e.1 else None) ≡ None
      by_test e true w above = absurd (grind (arith, nat_tests, w, above))
      by_test e false w above = refl

      by_found : (o : Option (ℕ × X)) → first (k + 1) files ≡ o → at_index k o ≡ None
      by_found None w = refl
      by_found (Some e) w = by_test e (e.0 == k) refl (later (k + 1) files e w)

  told_counted : (files : List FileDescriptorProto) (j : ℕ) (g : FileDescriptorProto) → slice_get files j ≡ Some g → count test (tell g) ≤ count test (flat_map tell files)
  told_counted [] j g e = absurd (cc)
  told_counted (f ∷ files) zero g e =
      let same : f ≡ g = cc in
      let all = count_append test (tell f) (flat_map tell files) in
      subst (λ (h : FileDescriptorProto). count test (tell h) ≤ count test (tell f ++ flat_map tell files)) same (omega (arith, all))
  told_counted (f ∷ files) (suc j) g e =
      let less = told_counted files j g e in
      let all = count_append test (tell f) (flat_map tell files) in
      omega (arith, less, all)

  -- what a file has is what is found of all files, if it is found there
  told_at : (k : ℕ) (files : List FileDescriptorProto) → count test (flat_map tell files) ≤ 1 → (j : ℕ) (g : FileDescriptorProto) → slice_get files j ≡ Some g
      → find test (tell g) ≡ at_index (k + j) (first k files)
  told_at k [] once j g e = absurd (cc)
  told_at k (f ∷ files) once zero g e =
      let same : f ≡ g = cc in
      subst (λ (h : FileDescriptorProto). find test (tell h) ≡ at_index (k + 0) (first k (f ∷ files))) same
      (by_found (find test (tell f)) ∙ sym (ap (at_index (k + 0)) (first_is k f files)))
    where
      here : (x : X) (b : Bool) → (k == k + 0) ≡ b → Some x ≡ (if b then Some x else None)
      here x true w = refl
      here x false w = absurd (grind (arith, nat_tests, w))

      by_found : (o : Option X) → o ≡ at_index (k + 0) (option_or (option_map (pair k) o) (first (k + 1) files))
      by_found (Some x) = here x (k == k + 0) refl
      by_found None = let all : k + 0 ≡ k = omega arith in sym (ap (λ (n : ℕ). at_index n (first (k + 1) files)) all ∙ not_before k files)
  told_at k (f ∷ files) once (suc j) g e =
      let all = count_append test (tell f) (flat_map tell files) in
      by_found (find test (tell f)) refl (told_at (k + 1) files (omega (arith, once, all)) j g e) ∙ sym (ap (at_index (k + suc j)) (first_is k f files))
    where
      elsewhere : (x : X) (b : Bool) → (k == k + suc j) ≡ b → None ≡ (if b then Some x else None)
      elsewhere x true w = absurd (grind (arith, nat_tests, w))
      elsewhere x false w = refl

      by_found : (o : Option X) → find test (tell f) ≡ o → find test (tell g) ≡ at_index ((k + 1) + j) (first (k + 1) files)
          → find test (tell g) ≡ at_index (k + suc j) (option_or (option_map (pair k) o) (first (k + 1) files))
      by_found (Some x) w ih =
          let some = found_counted test (tell f) x w in
          let less = told_counted files j g e in
          let all = count_append test (tell f) (flat_map tell files) in
          none_counted test (tell g) (omega (arith, some, less, all, once)) ∙ elsewhere x (k == k + suc j) refl
      by_found None w ih = let same : (k + 1) + j ≡ k + suc j = omega arith in ih ∙ ap (λ (n : ℕ). at_index n (first (k + 1) files)) same

  -- ---- in the files that are seen

  module _ (files : List FileDescriptorProto) (once : count test (flat_map tell files) ≤ 1) where
    told_there : (j : ℕ) (g : FileDescriptorProto) → slice_get files j ≡ Some g → find test (tell g) ≡ at_index j (first 0 files)
    told_there j g e = let all : 0 + j ≡ j = omega arith in told_at 0 files once j g e ∙ ap (λ (n : ℕ). at_index n (first 0 files)) all

    pub seen_found : (indexes : List ℕ) (fs : List FileDescriptorProto) → map (slice_get files) indexes ≡ map Some fs
        → find test (flat_map tell fs) ≡ if_seen (is_among indexes) (find (λ (e : ℕ × X). test e.1) (by_file tell files))
    seen_found [] [] e = by_found (first 0 files)
      where
        by_found : (o : Option (ℕ × X)) → None ≡ if_seen (is_among []) o
        by_found None = refl
        by_found (Some d) = refl
    seen_found [] (g ∷ fs) e = absurd (cc)
    seen_found (i ∷ indexes) [] e = absurd (cc)
    seen_found (i ∷ indexes) (g ∷ fs) e =
        let here : slice_get files i ≡ Some g = cc in
        let others : map (slice_get files) indexes ≡ map Some fs = cc in
        find-append test (tell g) (flat_map tell fs)
        ∙ ap (λ (o : Option X). option_or o (find test (flat_map tell fs))) (told_there i g here)
        ∙ ap (option_or (at_index i (first 0 files))) (seen_found indexes fs others)
        ∙ by_found (first 0 files)
      where
        by_tests : (x : X) (b c : Bool) → option_or (if b then Some x else None) (if c then Some x else None) ≡ (if b || c then Some x else None)
        by_tests x true c = refl
        by_tests x false c = none_or (if c then Some x else None)
          where
            none_or : (o : Option X) → option_or None o ≡ o
            none_or None = refl
            none_or (Some y) = refl

        by_found : (o : Option (ℕ × X)) → option_or (at_index i o) (if_seen (is_among indexes) o) ≡ if_seen (is_among (i ∷ indexes)) o
        by_found None = refl
        by_found (Some d) = by_tests d.1 (d.0 == i) (is_among indexes d.0)

    pub seen_any : (s : X → Bool) (indexes : List ℕ) (fs : List FileDescriptorProto) → map (slice_get files) indexes ≡ map Some fs
        → list_any (λ x. s x && test x) (flat_map tell fs) ≡ is_seen (is_among indexes) (option_map (λ (e : ℕ × X). (e.0, s e.1)) (find (λ (e : ℕ × X). test e.1) (by_file tell files)))
    seen_any s [] [] e = by_found (first 0 files)
      where
        by_found : (o : Option (ℕ × X)) → false ≡ is_seen (is_among []) (option_map (λ (e : ℕ × X). (e.0, s e.1)) o)
        by_found None = refl
        by_found (Some d) = refl
    seen_any s [] (g ∷ fs) e = absurd (cc)
    seen_any s (i ∷ indexes) [] e = absurd (cc)
    seen_any s (i ∷ indexes) (g ∷ fs) e =
        let here : slice_get files i ≡ Some g = cc in
        let others : map (slice_get files) indexes ≡ map Some fs = cc in
        let few = told_counted files i g here in
        list_any-append (λ x. s x && test x) (tell g) (flat_map tell fs)
        ∙ ap (λ (b : Bool). b || list_any (λ x. s x && test x) (flat_map tell fs)) (any_of_found s test (tell g) (omega (arith, few, once)) ∙ ap (is_so s) (told_there i g here))
        ∙ ap (λ (b : Bool). is_so s (at_index i (first 0 files)) || b) (seen_any s indexes fs others)
        ∙ by_found (first 0 files)
      where
        by_tests : (x : X) (b c : Bool) → (is_so s (if b then Some x else None) || (c && s x)) ≡ ((b || c) && s x)
        by_tests x true c = absorbed (s x) c
          where
            absorbed : (a c : Bool) → (a || (c && a)) ≡ a
            absorbed true c = refl
            absorbed false true = refl
            absorbed false false = refl
        by_tests x false c = refl

        by_found : (o : Option (ℕ × X))
            → (is_so s (at_index i o) || is_seen (is_among indexes) (option_map (λ (e : ℕ × X). (e.0, s e.1)) o)) ≡ is_seen (is_among (i ∷ indexes)) (option_map (λ (e : ℕ × X). (e.0, s e.1)) o)
        by_found None = refl
        by_found (Some d) = by_tests d.1 (d.0 == i) (is_among indexes d.0)
