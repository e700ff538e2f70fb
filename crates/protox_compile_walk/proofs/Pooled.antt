-- What openings finish is a pool, in which each record has the name of its file.
use Rattle.std.proofs.Common.{◌≡◌, ◌+◌, ◌-◌, ◌∷◌, ◌++◌, ◌∙◌, [], ℕ, zero, suc, List, Bool, true, false, refl, sym, ap, subst, length, map}
use Rattle.std.specs.Prelude.{nat_lt, not, if◌then◌else◌, reverse, Option, Some, None}
use Rattle.std.specs.Str.{bytes_eq}
use Rattle.std.proofs.lemmas.List.{map-append}
use Rattle.pbx_desc_records.specs.declared.file.FileDescriptorProto.{FileDescriptorProto}
use Rattle.pbx_link_definitions.specs.Names.{among}
use Rattle.pbx_link_rules.specs.Breaches.{keeps_rules}
use Rattle.pbx_link_rules.specs.Pool.{ArePooled}
use Rattle.pbx_link_rules.proofs.Grown.{pooled_grow, empty_is_pooled}
use Rattle.protox_io.specs.FileNames.{path_equal, escapes}
use Rattle.protox_file_sources.specs.Told.{Entry, Lookup, NoFile, IsFile, TextFault, Unread}
use Rattle.protox_compile_walk.specs.Places.{place_of_import}
use Rattle.protox_compile_walk.specs.Walk.{Done, Fault, Limit, Mismatch, Shadowed, Duplicate, Escapes, Circular, Unlinked}
use Rattle.protox_compile_walk.specs.Walk.{Visited, Finished, Missing, Faulted, records, imports_of, declared_name, done_as, is_done, chain_text}
use Rattle.protox_compile_walk.specs.Walk.{after_visit, visit_imports, finish, unless_shadowed, visit_lookup, visit, visits}
use Rattle.protox_compile_walk.specs.Opening.{Ended, Accepted, NotIncluded, Refused, mark, path_in, root_of}
use Rattle.protox_compile_walk.specs.Opening.{open_done, open_root, open_name, opening, after_opening, closure}
use Rattle.protox_compile_walk.specs.Compiled.{done_by, done_of, AreRecorded, metadata_of, IsOrdered}
use Rattle.protox_compile_walk.specs.Laws.{ClosedAreOrdered}
use Rattle.protox_compile_walk.proofs.Recorded.{linked_name, ordered}

-- each record has the name of its file
abbrev AreNamed : List Done → Type 0
AreNamed [] = Unit {0}
AreNamed (d ∷ ds) = (d.file.name ≡ Some d.name) × AreNamed ds

-- so they have, and they are a pool
abbrev IsPool : List Done → Type 0
IsPool done = AreNamed done × ArePooled [] (records done)

-- ---- one file more, or a mark

named_push : (done : List Done) (d : Done) → AreNamed done → d.file.name ≡ Some d.name → AreNamed (done ++ d ∷ [])
named_push [] d h e = (e, tt)
named_push (x ∷ xs) d h e = (h.0, named_push xs d h.1 e)

pool_push : (done : List Done) (n : List ℕ) (entry : Entry) → IsPool done → bytes_eq (declared_name entry) n ≡ true
    → keeps_rules (records done) entry.file ≡ true → IsPool (done ++ done_as done n entry ∷ [])
pool_push done n entry h named keeps =
    let P : List FileDescriptorProto → Type 0 = λ fs. ArePooled [] fs in (
      named_push done (done_as done n entry) h.0 (linked_name (records done) entry.file n keeps named),
      subst P (sym (map-append (λ (d : Done). d.file) done (done_as done n entry ∷ []))) (pooled_grow (records done) entry.file h.1 keeps),
    )

named_marked : (name : List ℕ) (done : List Done) → AreNamed done → AreNamed (mark name done)
named_marked name [] h = h
named_marked name (d ∷ ds) h = at (bytes_eq d.name name) (named_marked name ds h.1)
  where
    at : (b : Bool) → AreNamed (mark name ds) → AreNamed (if b then record d { opened = true } ∷ ds else d ∷ mark name ds)
    at true k = h
    at false k = (h.0, k)

records_marked : (name : List ℕ) (done : List Done) → records (mark name done) ≡ records done
records_marked name [] = refl
records_marked name (d ∷ ds) = at (bytes_eq d.name name) (records_marked name ds)
  where
    at : (b : Bool) → records (mark name ds) ≡ records ds → records (if b then record d { opened = true } ∷ ds else d ∷ mark name ds) ≡ records (d ∷ ds)
    at true h = refl
    at false h = ap (λ fs. d.file ∷ fs) h

pool_marked : (name : List ℕ) (done : List Done) → IsPool done → IsPool (mark name done)
pool_marked name done h =
    let P : List FileDescriptorProto → Type 0 = λ fs. ArePooled [] fs in
    (named_marked name done h.0, subst P (sym (records_marked name done)) h.1)

-- ---- a walk

pool_cond : {B : Type 0} (b : Bool) (x y : List Done × B) → (b ≡ true → IsPool x.0) → IsPool y.0 → IsPool (if b then x else y).0
pool_cond true x y p q = p refl
pool_cond false x y p q = q

after_pool : (n : List ℕ) (i : ℕ) (place : Option (ℕ × ℕ)) (m : List ℕ) (v : List Done × Visited) (rest : List Done → List Done × Option Fault)
    → IsPool v.0 → ((d : List Done) → IsPool d → IsPool (rest d).0) → IsPool (after_visit n i place m v rest).0
after_pool n i place m (d, Finished) rest h k = k d h
after_pool n i place m (d, Missing) rest h k = h
after_pool n i place m (d, Faulted fault) rest h k = h

imports_pool : (v : List Done → List ℕ → List Done × Visited) → ((d : List Done) (m : List ℕ) → IsPool d → IsPool (v d m).0)
    → (chain : List (List ℕ)) (n : List ℕ) (places : ℕ → Option (ℕ × ℕ)) (seen ms : List (List ℕ)) (done : List Done) → IsPool done
    → IsPool (visit_imports v chain n places seen ms done).0
imports_pool v k chain n places seen [] done h = h
imports_pool v k chain n places seen (m ∷ ms) done h =
    pool_cond (among seen m) (done, Some (Duplicate n (length seen) (places (length seen)) m)) _ (λ e. h)
    (pool_cond (escapes m) (done, Some (Escapes n (length seen) (places (length seen)) m)) _ (λ e. h)
    (pool_cond (among chain m) (done, Some (Circular m (chain_text (reverse (m ∷ chain))))) _ (λ e. h)
    (pool_cond (is_done done m) (visit_imports v chain n places (seen ++ m ∷ []) ms done)
    (after_visit n (length seen) (places (length seen)) m (v done m) (visit_imports v chain n places (seen ++ m ∷ []) ms))
    (λ e. imports_pool v k chain n places (seen ++ m ∷ []) ms done h)
    (after_pool n (length seen) (places (length seen)) m (v done m) (visit_imports v chain n places (seen ++ m ∷ []) ms)
    (k done m h) (imports_pool v k chain n places (seen ++ m ∷ []) ms)))))

finish_pool : (n : List ℕ) (entry : Entry) (r : List Done × Option Fault) → bytes_eq (declared_name entry) n ≡ true → IsPool r.0
    → IsPool (finish n entry r).0
finish_pool n entry (d, None) named h =
    pool_cond (keeps_rules (records d) entry.file) (d ++ done_as d n entry ∷ [], Finished) (d, Faulted (Unlinked entry.file))
    (pool_push d n entry h named) h
finish_pool n entry (d, Some fault) named h = h

shadow_pool : (n : List ℕ) (asked path : Option (List ℕ)) (done : List Done) (v : List Done × Visited) → IsPool done → IsPool v.0
    → IsPool (unless_shadowed n asked path done v).0
shadow_pool n None path done v h k = k
shadow_pool n (Some asked) None done v h k = k
shadow_pool n (Some asked) (Some path) done v h k = pool_cond (path_equal path asked) v (done, Faulted (Shadowed n asked path)) (λ e. k) h

lookup_pool : (n : List ℕ) (asked : Option (List ℕ)) (lookup : Lookup) (done : List Done) (imports : Entry → List Done × Visited) → IsPool done
    → ((entry : Entry) → bytes_eq (declared_name entry) n ≡ true → IsPool (imports entry).0) → IsPool (visit_lookup n asked lookup done imports).0
lookup_pool n asked Unread done imports h k = h
lookup_pool n asked NoFile done imports h k = h
lookup_pool n asked (TextFault kind) done imports h k = h
lookup_pool n asked (IsFile entry) done imports h k =
    pool_cond (bytes_eq (declared_name entry) n) (unless_shadowed n asked entry.path done (imports entry)) (done, Faulted (Mismatch n (declared_name entry)))
    (λ e. shadow_pool n asked entry.path done (imports entry) h (k entry e)) h

visit_pool : (lookups : List ℕ → Lookup) (limit room : ℕ) (chain : List (List ℕ)) (asked : Option (List ℕ)) (n : List ℕ) (done : List Done)
    → IsPool done → IsPool (visit lookups limit room chain asked n done).0
unfolding visit
visit_pool lookups limit zero chain asked n done h = h
visit_pool lookups limit (suc room) chain asked n done h =
    pool_cond (nat_lt limit (length done + length chain + 1)) (done, Faulted (Limit limit)) _ (λ e. h)
    (lookup_pool n asked (lookups n) done _ h (λ entry named. finish_pool n entry _ named
    (imports_pool (λ d m. visit lookups limit room (n ∷ chain) None m d) (λ d m. visit_pool lookups limit room (n ∷ chain) None m d)
    (n ∷ chain) n (place_of_import entry) [] (imports_of entry) done h)))

-- ---- openings

done_pool : (name : List ℕ) (asked known : Option (List ℕ)) (done : List Done) → IsPool done → IsPool (open_done name asked known done).0
done_pool name None known done h = pool_marked name done h
done_pool name (Some asked) None done h = pool_marked name done h
done_pool name (Some asked) (Some path) done h =
    pool_cond (path_equal path asked) (mark name done, Accepted) (done, Refused (Shadowed name asked path)) (λ e. pool_marked name done h) h

root_pool : (name : List ℕ) (v : List Done × Visited) → IsPool v.0 → IsPool (open_root name v).0
root_pool name (d, Finished) h = pool_marked name d h
root_pool name (d, Missing) h = h
root_pool name (d, Faulted fault) h = h

module _ (lookups : List ℕ → Lookup) (limit : ℕ) where
  name_pool : (root : Option (List ℕ × Option (List ℕ))) (done : List Done) → IsPool done → IsPool (open_name lookups limit root done).0
  name_pool None done h = h
  name_pool (Some root) done h =
      pool_cond (is_done done root.0) (open_done root.0 root.1 (path_in root.0 done) done) (open_root root.0 (visits lookups limit [] root.1 root.0 done))
      (λ e. done_pool root.0 root.1 (path_in root.0 done) done h)
      (root_pool root.0 (visits lookups limit [] root.1 root.0 done) (visit_pool lookups limit (limit - 0) [] root.1 root.0 done h))

  then_pool : (o : List Done × Ended) (rest : List Done → List Done × Ended) → IsPool o.0 → ((d : List Done) → IsPool d → IsPool (rest d).0)
      → IsPool (after_opening o rest).0
  then_pool (d, Accepted) rest h k = k d h
  then_pool (d, NotIncluded) rest h k = h
  then_pool (d, Refused fault) rest h k = h

  closure_pool : (resolves : List ℕ → Option (List ℕ)) (paths : List (List ℕ)) (done : List Done) → IsPool done
      → IsPool (closure lookups resolves limit paths done).0
  closure_pool resolves [] done h = h
  closure_pool resolves (path ∷ paths) done h =
      then_pool (opening lookups resolves limit path done) (closure lookups resolves limit paths) (name_pool (root_of resolves path) done h)
      (closure_pool resolves paths)

-- ---- a pool is in order

recorded : (done : List Done) → AreNamed done → AreRecorded (map metadata_of done) (records done)
recorded [] h = tt
recorded (d ∷ ds) h = (h.0, recorded ds h.1)

twice : (b : Bool) → not (not b) ≡ b
twice true = refl
twice false = refl

-- files are those of what is known of them and of their records
remade : (done : List Done) → done_of (map metadata_of done) (records done) ≡ done
remade [] = refl
remade (d ∷ ds) =
    let same : done_by (metadata_of d) d.file ≡ d = ap (λ b. record d { opened = b }) (twice d.opened) in
    ap (λ x. x ∷ done_of (map metadata_of ds) (records ds)) same ∙ ap (λ xs. d ∷ xs) (remade ds)

in_order : (done : List Done) → IsPool done → IsOrdered [] done
in_order done h =
    let P : List Done → Type 0 = λ ds. IsOrdered [] ds in
    subst P (remade done) (ordered (map metadata_of done) (records done) (recorded done h.0) h.1)

pub closed_are_ordered : ClosedAreOrdered
closed_are_ordered lookups resolves limit paths later end closed =
    let P : List Done × Ended → Type 0 = λ o. IsPool o.0 in
    let pool : IsPool later = subst P closed (closure_pool lookups limit resolves paths [] (tt, empty_is_pooled)) in
    (in_order later pool, pool.1)
