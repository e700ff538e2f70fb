-- A walk where one name has no file: it ends at the name, behind fewer files, or it comes to the same.
use Rattle.std.proofs.Common.{◌≡◌, ◌⊎◌, inl, inr, ◌+◌, ◌-◌, ◌∷◌, ◌++◌, [], ℕ, zero, suc, List, Bool, true, false, refl, sym, ap, subst, length}
use Rattle.std.specs.Prelude.{nat_lt, if◌then◌else◌, reverse, Option, Some, None}
use Rattle.std.specs.Str.{bytes_eq}
use Rattle.pbx_link_definitions.specs.Names.{among}
use Rattle.protox_io.specs.FileNames.{path_equal, escapes}
use Rattle.protox_file_sources.specs.Told.{Entry, Lookup, NoFile, IsFile, TextFault, Unread}
use Rattle.protox_compile_walk.specs.Places.{place_of_import}
use Rattle.protox_compile_walk.specs.Walk.{Done, Fault, Limit, Mismatch, Shadowed, Duplicate, Escapes, Circular, NoImport, Visited, Finished, Missing, Faulted}
use Rattle.protox_compile_walk.specs.Walk.{imports_of, declared_name, is_done, chain_text, after_visit, visit_imports, finish, unless_shadowed, visit_lookup, visit, visits}
use Rattle.protox_compile_walk.specs.Opening.{Ended, path_in, open_done, open_root, open_name, grown}
use Rattle.protox_compile_walk.specs.Refusals.{Extends, without, EndsWithout, RefusedWithout}
use Rattle.protox_compile_walk.proofs.Right.{bytes_are}
use Rattle.protox_compile_walk.proofs.Extends.{after_extends, imports_extend, finish_extends, lookup_extends, visit_extends}

-- the imports ended since the name has no file
abbrev StopsWithout : List ℕ → Option Fault → Type 0
StopsWithout n (Some (NoImport file index place m)) = m ≡ n
StopsWithout n fault = ⊥

-- the first ends at the name, where the second may go on, or they are the same
abbrev Lacks : List ℕ → List ℕ → List Done × Visited → List Done × Visited → Type 0
Lacks root n a b = (b ≡ a) ⊎ (EndsWithout root n a.1 × Extends a.0 b.0)

abbrev LacksBy : List ℕ → List Done × Option Fault → List Done × Option Fault → Type 0
LacksBy n a b = (b ≡ a) ⊎ (StopsWithout n a.1 × Extends a.0 b.0)

-- ---- the parts of a visit

module _ (n : List ℕ) where
  lacks_cond : (root : List ℕ) (b : Bool) (x y v w : List Done × Visited) → Lacks root n x v → Lacks root n y w
      → Lacks root n (if b then x else y) (if b then v else w)
  lacks_cond root true x y v w p q = p
  lacks_cond root false x y v w p q = q

  lacks_cond_by : (b : Bool) (x y v w : List Done × Option Fault) → LacksBy n x v → LacksBy n y w
      → LacksBy n (if b then x else y) (if b then v else w)
  lacks_cond_by true x y v w p q = p
  lacks_cond_by false x y v w p q = q

  after_lacks : (file : List ℕ) (i : ℕ) (place : Option (ℕ × ℕ)) (m : List ℕ) (v w : List Done × Visited)
      (rest later : List Done → List Done × Option Fault) → Lacks m n v w → ((d : List Done) → LacksBy n (rest d) (later d))
      → ((d : List Done) → Extends d (later d).0) → LacksBy n (after_visit file i place m v rest) (after_visit file i place m w later)
  after_lacks file i place m v w rest later (inl e) k x =
      let P : List Done × Visited → Type 0 = λ u. LacksBy n (after_visit file i place m v rest) (after_visit file i place m u later) in
      subst P (sym e) (same v)
    where
      same : (u : List Done × Visited) → LacksBy n (after_visit file i place m u rest) (after_visit file i place m u later)
      same (d, Finished) = k d
      same (d, Missing) = inl refl
      same (d, Faulted fault) = inl refl
  after_lacks file i place m v w rest later (inr c) k x = cut v c.0 c.1
    where
      cut : (u : List Done × Visited) → EndsWithout m n u.1 → Extends u.0 w.0
          → LacksBy n (after_visit file i place m u rest) (after_visit file i place m w later)
      cut (d, Missing) c e = inr (sym c, after_extends file i place m d w later e x)
      cut (d, Faulted (NoImport f j p q)) c e = inr (c, after_extends file i place m d w later e x)
      cut _ c e = absurd c

  module _ (v w : List Done → List ℕ → List Done × Visited) (k : (d : List Done) (m : List ℕ) → Lacks m n (v d m) (w d m))
      (x : (d : List Done) (m : List ℕ) → Extends d (w d m).0) (chain : List (List ℕ)) (file : List ℕ) (places : ℕ → Option (ℕ × ℕ)) where
    imports_lack : (seen ms : List (List ℕ)) (done : List Done)
        → LacksBy n (visit_imports v chain file places seen ms done) (visit_imports w chain file places seen ms done)
    imports_lack seen [] done = inl refl
    imports_lack seen (m ∷ ms) done =
        let duplicate : List Done × Option Fault = (done, Some (Duplicate file (length seen) (places (length seen)) m)) in
        let escaped : List Done × Option Fault = (done, Some (Escapes file (length seen) (places (length seen)) m)) in
        let circular : List Done × Option Fault = (done, Some (Circular m (chain_text (reverse (m ∷ chain))))) in
        lacks_cond_by (among seen m) duplicate _ duplicate _ (inl refl)
        (lacks_cond_by (escapes m) escaped _ escaped _ (inl refl)
        (lacks_cond_by (among chain m) circular _ circular _ (inl refl)
        (lacks_cond_by (is_done done m) (visit_imports v chain file places (seen ++ m ∷ []) ms done) _
        (visit_imports w chain file places (seen ++ m ∷ []) ms done) _ (imports_lack (seen ++ m ∷ []) ms done)
        (after_lacks file (length seen) (places (length seen)) m (v done m) (w done m) (visit_imports v chain file places (seen ++ m ∷ []) ms)
        (visit_imports w chain file places (seen ++ m ∷ []) ms) (k done m) (imports_lack (seen ++ m ∷ []) ms)
        (imports_extend w x chain file places (seen ++ m ∷ []) ms)))))

  finish_lacks : (root : List ℕ) (entry : Entry) (r s : List Done × Option Fault) → LacksBy n r s → Lacks root n (finish root entry r) (finish root entry s)
  finish_lacks root entry r s (inl e) = inl (ap (finish root entry) e)
  finish_lacks root entry r s (inr c) = cut r c.0 c.1
    where
      cut : (u : List Done × Option Fault) → StopsWithout n u.1 → Extends u.0 s.0 → Lacks root n (finish root entry u) (finish root entry s)
      cut (d, Some (NoImport f i p q)) c e = inr (c, finish_extends root entry d s e)
      cut _ c e = absurd c

  shadow_lacks : (root : List ℕ) (asked path : Option (List ℕ)) (done : List Done) (v w : List Done × Visited) → Lacks root n v w
      → Lacks root n (unless_shadowed root asked path done v) (unless_shadowed root asked path done w)
  shadow_lacks root None path done v w k = k
  shadow_lacks root (Some asked) None done v w k = k
  shadow_lacks root (Some asked) (Some path) done v w k =
      lacks_cond root (path_equal path asked) v (done, Faulted (Shadowed root asked path)) w (done, Faulted (Shadowed root asked path)) k (inl refl)

  lookup_lacks : (root : List ℕ) (asked : Option (List ℕ)) (lookup : Lookup) (done : List Done) (imports later : Entry → List Done × Visited)
      → ((entry : Entry) → Lacks root n (imports entry) (later entry)) → ((entry : Entry) → Extends done (later entry).0)
      → Lacks root n (visit_lookup root asked (if bytes_eq root n then NoFile else lookup) done imports) (visit_lookup root asked lookup done later)
  lookup_lacks root asked lookup done imports later k x = at (bytes_eq root n) refl
    where
      same : (l : Lookup) → Lacks root n (visit_lookup root asked l done imports) (visit_lookup root asked l done later)
      same NoFile = inl refl
      same (TextFault kind) = inl refl
      same Unread = inl refl
      same (IsFile entry) =
          let other : List Done × Visited = (done, Faulted (Mismatch root (declared_name entry))) in
          lacks_cond root (bytes_eq (declared_name entry) root) (unless_shadowed root asked entry.path done (imports entry)) other
          (unless_shadowed root asked entry.path done (later entry)) other
          (shadow_lacks root asked entry.path done (imports entry) (later entry) (k entry)) (inl refl)

      at : (b : Bool) → bytes_eq root n ≡ b
          → Lacks root n (visit_lookup root asked (if b then NoFile else lookup) done imports) (visit_lookup root asked lookup done later)
      at true e = inr (sym (bytes_are root n e), lookup_extends root asked lookup done later x)
      at false e = same lookup

  visit_lacks : (lookups : List ℕ → Lookup) (limit room : ℕ) (chain : List (List ℕ)) (asked : Option (List ℕ)) (root : List ℕ) (done : List Done)
      → Lacks root n (visit (without n lookups) limit room chain asked root done) (visit lookups limit room chain asked root done)
  unfolding visit
  visit_lacks lookups limit zero chain asked root done = inl refl
  visit_lacks lookups limit (suc room) chain asked root done =
      lacks_cond root (nat_lt limit (length done + length chain + 1)) (done, Faulted (Limit limit)) _ (done, Faulted (Limit limit)) _ (inl refl)
      (lookup_lacks root asked (lookups root) done _ _
      (λ entry. finish_lacks root entry _ _ (imports_lack (λ d m. visit (without n lookups) limit room (root ∷ chain) None m d)
      (λ d m. visit lookups limit room (root ∷ chain) None m d) (λ d m. visit_lacks lookups limit room (root ∷ chain) None m d)
      (λ d m. visit_extends lookups limit room (root ∷ chain) None m d) (root ∷ chain) root (place_of_import entry) [] (imports_of entry) done))
      (λ entry. finish_extends root entry done _ (imports_extend (λ d m. visit lookups limit room (root ∷ chain) None m d)
      (λ d m. visit_extends lookups limit room (root ∷ chain) None m d) (root ∷ chain) root (place_of_import entry) [] (imports_of entry) done)))

-- ---- openings

-- how one opening ends, and the files that it finishes, against another: they are the same, or the first ends at the name
abbrev pub AreApart : Option (List ℕ × Option (List ℕ)) → List ℕ → List Done × Ended → List Done × Ended → List Done → List Done → Type 0
AreApart root n o p few all = ((o ≡ p) × (few ≡ all)) ⊎ (RefusedWithout root n o.1 × (o.0 ≡ few) × Extends few all)

root_apart : (root : List ℕ × Option (List ℕ)) (n : List ℕ) (v w : List Done × Visited) → Lacks root.0 n v w
    → AreApart (Some root) n (open_root root.0 v) (open_root root.0 w) v.0 w.0
root_apart root n v w (inl e) = inl (sym (ap (open_root root.0) e), sym (ap (λ (u : List Done × Visited). u.0) e))
root_apart root n v w (inr c) = cut v c.0 c.1
  where
    cut : (u : List Done × Visited) → EndsWithout root.0 n u.1 → Extends u.0 w.0
        → AreApart (Some root) n (open_root root.0 u) (open_root root.0 w) u.0 w.0
    cut (d, Missing) c e = inr ((root.1, ap (λ (m : List ℕ). Some (m, root.1)) (sym c)), refl, e)
    cut (d, Faulted (NoImport f i p q)) c e = inr (c, refl, e)
    cut _ c e = absurd c

root_or_again : (root : List ℕ × Option (List ℕ)) (n : List ℕ) (b : Bool) (again : List Done × Ended) (done : List Done) (v w : List Done × Visited)
    → Lacks root.0 n v w
    → AreApart (Some root) n (if b then again else open_root root.0 v) (if b then again else open_root root.0 w)
    (if b then done else v.0) (if b then done else w.0)
root_or_again root n true again done v w k = inl (refl, refl)
root_or_again root n false again done v w k = root_apart root n v w k

pub name_apart : (n : List ℕ) (lookups : List ℕ → Lookup) (limit : ℕ) (root : Option (List ℕ × Option (List ℕ))) (done : List Done)
    → AreApart root n (open_name (without n lookups) limit root done) (open_name lookups limit root done)
    (grown (without n lookups) limit root done) (grown lookups limit root done)
name_apart n lookups limit None done = inl (refl, refl)
name_apart n lookups limit (Some root) done =
    root_or_again root n (is_done done root.0) (open_done root.0 root.1 (path_in root.0 done) done) done
    (visits (without n lookups) limit [] root.1 root.0 done) (visits lookups limit [] root.1 root.0 done)
    (visit_lacks n lookups limit (limit - 0) [] root.1 root.0 done)
