-- More look-ups let a walk go on where it ended for want of one, and change nothing else.
use Rattle.std.proofs.Common.{◌≡◌, ◌⊎◌, inl, inr, ◌+◌, ◌-◌, ◌∷◌, ◌++◌, ◌∙◌, [], ℕ, zero, suc, List, Bool, true, false, refl, sym, ap, subst, length}
use Rattle.std.specs.Prelude.{nat_lt, if◌then◌else◌, reverse, Option, Some, None}
use Rattle.std.specs.Str.{bytes_eq}
use Rattle.pbx_link_definitions.specs.Names.{among}
use Rattle.protox_io.specs.FileNames.{path_equal, escapes}
use Rattle.protox_file_sources.specs.Told.{Entry, Lookup, NoFile, IsFile, TextFault, Unread}
use Rattle.protox_compile_walk.specs.Places.{place_of_import}
use Rattle.protox_compile_walk.specs.Walk.{Done, Fault, Limit, Mismatch, Shadowed, Duplicate, Escapes, Circular, NotRead, Visited, Finished, Missing, Faulted, imports_of, declared_name, is_done, chain_text, after_visit, visit_imports, finish, unless_shadowed, visit_lookup, visit, visits}
use Rattle.protox_compile_walk.specs.Opening.{Ended, Accepted, NotIncluded, Refused, IsDecided, path_in, root_of, open_done, open_root, open_name, opening, after_opening, closure, grown}
use Rattle.protox_compile_walk.specs.Refusals.{Extends}
use Rattle.protox_compile_walk.specs.Resume.{IsMore}
use Rattle.protox_compile_walk.proofs.Extends.{extends_same, after_extends, imports_extend, finish_extends, lookup_extends, visit_extends}

-- a walk ended at a name that was not looked up
abbrev IsCut : Visited → Type 0
IsCut (Faulted (NotRead n)) = Unit {0}
IsCut v = ⊥

abbrev IsCutBy : Option Fault → Type 0
IsCutBy (Some (NotRead n)) = Unit {0}
IsCutBy f = ⊥

-- the second is the first, or goes on where that was cut
abbrev Further : List Done × Visited → List Done × Visited → Type 0
Further a b = (b ≡ a) ⊎ (IsCut a.1 × Extends a.0 b.0)

abbrev FurtherBy : List Done × Option Fault → List Done × Option Fault → Type 0
FurtherBy a b = (b ≡ a) ⊎ (IsCutBy a.1 × Extends a.0 b.0)

further_cond : (b : Bool) (x y v w : List Done × Visited) → Further x v → Further y w → Further (if b then x else y) (if b then v else w)
further_cond true x y v w p q = p
further_cond false x y v w p q = q

further_cond_by : (b : Bool) (x y v w : List Done × Option Fault) → FurtherBy x v → FurtherBy y w → FurtherBy (if b then x else y) (if b then v else w)
further_cond_by true x y v w p q = p
further_cond_by false x y v w p q = q

-- ---- the parts of a visit

after_further : (n : List ℕ) (i : ℕ) (place : Option (ℕ × ℕ)) (m : List ℕ) (v w : List Done × Visited) (rest later : List Done → List Done × Option Fault) → Further v w → ((d : List Done) → FurtherBy (rest d) (later d)) → ((d : List Done) → Extends d (later d).0)
    → FurtherBy (after_visit n i place m v rest) (after_visit n i place m w later)
after_further n i place m v w rest later (inl e) k x = let P : List Done × Visited → Type 0 = λ u. FurtherBy (after_visit n i place m v rest) (after_visit n i place m u later) in subst P (sym e) (same v)
  where
    same : (u : List Done × Visited) → FurtherBy (after_visit n i place m u rest) (after_visit n i place m u later)
    same (d, Finished) = k d
    same (d, Missing) = inl refl
    same (d, Faulted fault) = inl refl
after_further n i place m v w rest later (inr c) k x = cut v c.0 c.1
  where
    cut : (u : List Done × Visited) → IsCut u.1 → Extends u.0 w.0 → FurtherBy (after_visit n i place m u rest) (after_visit n i place m w later)
    cut (d, Faulted (NotRead q)) c e = inr (tt, after_extends n i place m d w later e x)
    cut _ c e = absurd c

module _ (v w : List Done → List ℕ → List Done × Visited) (k : (d : List Done) (m : List ℕ) → Further (v d m) (w d m)) (x : (d : List Done) (m : List ℕ) → Extends d (w d m).0) (chain : List (List ℕ)) (n : List ℕ) (places : ℕ → Option (ℕ × ℕ)) where
  imports_further : (seen ms : List (List ℕ)) (done : List Done) → FurtherBy (visit_imports v chain n places seen ms done) (visit_imports w chain n places seen ms done)
  imports_further seen [] done = inl refl
  imports_further seen (m ∷ ms) done =
      further_cond_by (among seen m) (done, Some (Duplicate n (length seen) (places (length seen)) m)) _ (done, Some (Duplicate n (length seen) (places (length seen)) m)) _ (inl refl)
      (further_cond_by (escapes m) (done, Some (Escapes n (length seen) (places (length seen)) m)) _ (done, Some (Escapes n (length seen) (places (length seen)) m)) _ (inl refl)
      (further_cond_by (among chain m) (done, Some (Circular m (chain_text (reverse (m ∷ chain))))) _ (done, Some (Circular m (chain_text (reverse (m ∷ chain))))) _ (inl refl)
      (further_cond_by (is_done done m) (visit_imports v chain n places (seen ++ m ∷ []) ms done) _ (visit_imports w chain n places (seen ++ m ∷ []) ms done) _
      (imports_further (seen ++ m ∷ []) ms done)
      (after_further n (length seen) (places (length seen)) m (v done m) (w done m) (visit_imports v chain n places (seen ++ m ∷ []) ms) (visit_imports w chain n places (seen ++ m ∷ []) ms)
      (k done m) (imports_further (seen ++ m ∷ []) ms) (imports_extend w x chain n places (seen ++ m ∷ []) ms)))))

finish_further : (n : List ℕ) (entry : Entry) (r s : List Done × Option Fault) → FurtherBy r s → Further (finish n entry r) (finish n entry s)
finish_further n entry r s (inl e) = inl (ap (finish n entry) e)
finish_further n entry r s (inr c) = cut r c.0 c.1
  where
    cut : (u : List Done × Option Fault) → IsCutBy u.1 → Extends u.0 s.0 → Further (finish n entry u) (finish n entry s)
    cut (d, Some (NotRead q)) c e = inr (tt, finish_extends n entry d s e)
    cut _ c e = absurd c

shadow_further : (n : List ℕ) (asked path : Option (List ℕ)) (done : List Done) (v w : List Done × Visited) → Further v w → Further (unless_shadowed n asked path done v) (unless_shadowed n asked path done w)
shadow_further n None path done v w k = k
shadow_further n (Some asked) None done v w k = k
shadow_further n (Some asked) (Some path) done v w k = further_cond (path_equal path asked) v (done, Faulted (Shadowed n asked path)) w (done, Faulted (Shadowed n asked path)) k (inl refl)

lookup_further : (n : List ℕ) (asked : Option (List ℕ)) (a b : Lookup) (done : List Done) (imports later : Entry → List Done × Visited) → (a ≡ Unread) ⊎ (b ≡ a) → ((entry : Entry) → Further (imports entry) (later entry)) → ((entry : Entry) → Extends done (later entry).0)
    → Further (visit_lookup n asked a done imports) (visit_lookup n asked b done later)
lookup_further n asked a b done imports later (inl e) k x = let P : Lookup → Type 0 = λ l. Further (visit_lookup n asked l done imports) (visit_lookup n asked b done later) in subst P (sym e) (inr (tt, lookup_extends n asked b done later x))
lookup_further n asked a b done imports later (inr e) k x = let P : Lookup → Type 0 = λ l. Further (visit_lookup n asked a done imports) (visit_lookup n asked l done later) in subst P (sym e) (same a)
  where
    same : (l : Lookup) → Further (visit_lookup n asked l done imports) (visit_lookup n asked l done later)
    same NoFile = inl refl
    same (TextFault kind) = inl refl
    same Unread = inl refl
    same (IsFile entry) =
        further_cond (bytes_eq (declared_name entry) n) (unless_shadowed n asked entry.path done (imports entry)) (done, Faulted (Mismatch n (declared_name entry))) (unless_shadowed n asked entry.path done (later entry)) (done, Faulted (Mismatch n (declared_name entry)))
        (shadow_further n asked entry.path done (imports entry) (later entry) (k entry)) (inl refl)

visit_further : (some others : List ℕ → Lookup) → IsMore some others → (limit room : ℕ) (chain : List (List ℕ)) (asked : Option (List ℕ)) (n : List ℕ) (done : List Done) → Further (visit some limit room chain asked n done) (visit others limit room chain asked n done)
unfolding visit
visit_further some others more limit zero chain asked n done = inl refl
visit_further some others more limit (suc room) chain asked n done =
    further_cond (nat_lt limit (length done + length chain + 1)) (done, Faulted (Limit limit)) _ (done, Faulted (Limit limit)) _ (inl refl)
    (lookup_further n asked (some n) (others n) done _ _ (more n)
    (λ entry. finish_further n entry _ _ (imports_further (λ d m. visit some limit room (n ∷ chain) None m d) (λ d m. visit others limit room (n ∷ chain) None m d) (λ d m. visit_further some others more limit room (n ∷ chain) None m d) (λ d m. visit_extends others limit room (n ∷ chain) None m d) (n ∷ chain) n (place_of_import entry) [] (imports_of entry) done))
    (λ entry. finish_extends n entry done _ (imports_extend (λ d m. visit others limit room (n ∷ chain) None m d) (λ d m. visit_extends others limit room (n ∷ chain) None m d) (n ∷ chain) n (place_of_import entry) [] (imports_of entry) done)))

-- ---- openings

further_extends : (a b : List Done × Visited) → Further a b → Extends a.0 b.0
further_extends a b (inl e) = let P : List Done × Visited → Type 0 = λ w. Extends a.0 w.0 in subst P (sym e) (extends_same a.0)
further_extends a b (inr c) = c.1

root_decided : (name : List ℕ) (v w : List Done × Visited) → Further v w → IsDecided (open_root name v).1 → open_root name w ≡ open_root name v
root_decided name v w (inl e) d = ap (open_root name) e
root_decided name v w (inr c) d = cut v c.0 d
  where
    cut : (u : List Done × Visited) → IsCut u.1 → IsDecided (open_root name u).1 → open_root name w ≡ open_root name u
    cut (done, Faulted (NotRead q)) c d = absurd d
    cut _ c d = absurd c

after_decided : (o p : List Done × Ended) (rest later : List Done → List Done × Ended) → (IsDecided o.1 → p ≡ o) → ((d : List Done) → IsDecided (rest d).1 → later d ≡ rest d)
    → IsDecided (after_opening o rest).1 → after_opening p later ≡ after_opening o rest
after_decided (d, Accepted) p rest later h k g = ap (λ x. after_opening x later) (h tt) ∙ k d g
after_decided (d, NotIncluded) p rest later h k g = ap (λ x. after_opening x later) (h tt)
after_decided (d, Refused fault) p rest later h k g = ap (λ x. after_opening x later) (h g)

module _ (some others : List ℕ → Lookup) (more : IsMore some others) where
  name_decided : (limit : ℕ) (root : Option (List ℕ × Option (List ℕ))) (done : List Done) → IsDecided (open_name some limit root done).1 → open_name others limit root done ≡ open_name some limit root done
  name_decided limit None done d = refl
  name_decided limit (Some root) done d = by_case (is_done done root.0) d
    where
      by_case : (b : Bool) → IsDecided (if b then open_done root.0 root.1 (path_in root.0 done) done else open_root root.0 (visits some limit [] root.1 root.0 done)).1
          → (if b then open_done root.0 root.1 (path_in root.0 done) done else open_root root.0 (visits others limit [] root.1 root.0 done)) ≡ (if b then open_done root.0 root.1 (path_in root.0 done) done else open_root root.0 (visits some limit [] root.1 root.0 done))
      by_case true g = refl
      by_case false g = root_decided root.0 (visits some limit [] root.1 root.0 done) (visits others limit [] root.1 root.0 done) (visit_further some others more limit (limit - 0) [] root.1 root.0 done) g

  -- what an opening comes to stays, where each name that it asks for was looked up
  pub opening_decided : (resolves : List ℕ → Option (List ℕ)) (limit : ℕ) (path : List ℕ) (done : List Done) → IsDecided (opening some resolves limit path done).1 → opening others resolves limit path done ≡ opening some resolves limit path done
  opening_decided resolves limit path done d = name_decided limit (root_of resolves path) done d

  pub closure_decided : (resolves : List ℕ → Option (List ℕ)) (limit : ℕ) (paths : List (List ℕ)) (done : List Done) → IsDecided (closure some resolves limit paths done).1 → closure others resolves limit paths done ≡ closure some resolves limit paths done
  closure_decided resolves limit [] done d = refl
  closure_decided resolves limit (path ∷ paths) done d =
      after_decided (opening some resolves limit path done) (opening others resolves limit path done) (closure some resolves limit paths) (closure others resolves limit paths)
      (opening_decided resolves limit path done) (closure_decided resolves limit paths) d

  -- more files are finished at most
  pub grown_further : (limit : ℕ) (root : Option (List ℕ × Option (List ℕ))) (done : List Done) → Extends (grown some limit root done) (grown others limit root done)
  grown_further limit None done = extends_same done
  grown_further limit (Some root) done = by_case (is_done done root.0)
    where
      by_case : (b : Bool) → Extends (if b then done else (visits some limit [] root.1 root.0 done).0) (if b then done else (visits others limit [] root.1 root.0 done).0)
      by_case true = extends_same done
      by_case false = further_extends (visits some limit [] root.1 root.0 done) (visits others limit [] root.1 root.0 done) (visit_further some others more limit (limit - 0) [] root.1 root.0 done)
