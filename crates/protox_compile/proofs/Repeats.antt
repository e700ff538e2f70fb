-- Paths that are given again.
use Rattle.std.proofs.Common.{◌≡◌, ◌+◌, ◌<◌, ◌∷◌, ◌++◌, ◌∙◌, [], ℕ, zero, suc, List, Bool, true, false, refl, sym, ap, ap₂, length, take, drop, get_or, add-one, arith}
use Rattle.std.specs.Prelude.{◌||◌, nat_lt, option_map, option_and_then, if◌then◌else◌, reverse, Option, Some, None}
use Rattle.std.specs.Str.{bytes_eq}
use Rattle.std.proofs.lemmas.List.{length_push, append-nil, append_assoc, drop_more, take_more, length-take-le}
use Rattle.std.proofs.lemmas.List.Folds.{list_any-append}
use Rattle.pbx_link_rules.specs.Breaches.{keeps_rules}
use Rattle.pbx_link_definitions.specs.Names.{among}
use Rattle.protox_io.specs.FileNames.{escapes, name_of, path_equal}
use Rattle.protox_file_sources.specs.Told.{Entry, Lookup, NoFile, IsFile, TextFault, Unread}
use Rattle.protox_compile_walk.specs.Places.{place_of_import}
use Rattle.protox_compile_walk.specs.Walk.{Done, Fault, Limit, Mismatch, Shadowed, Duplicate, Escapes, Circular, Unlinked, Visited, Finished, Missing, Faulted, records, imports_of, declared_name, done_as, is_done, chain_text, after_visit, visit_imports, finish, unless_shadowed, visit_lookup, visit, visits}
use Rattle.protox_compile_walk.specs.Opening.{Ended, Accepted, NotIncluded, Refused, mark, is_opened, path_in, open_done, open_root, open_name, root_by, root_of, opening, after_opening, closure, report_in, report_of}
use Rattle.protox_compile_walk.specs.declared.root.Opened.{Opened}
use Rattle.protox_compile_walk.specs.declared.root.Opened.TheVariants.{Compiled, Import, Again}
use Rattle.protox_compile_walk.proofs.Closures.{closure_push, first_accepted}
use Rattle.protox_compile_walk.proofs.Right.{same_bytes, bytes_are}
use Rattle.protox_compile.specs.Repeats.{is_root, is_asked, is_asked_by, index_if, repeats_behind, repeats, is_again, opened_again, RepeatsAreAgain}

-- ---- a walk marks nothing

-- the same names are marked as opened
abbrev pub SameMarks : List Done → List Done → Type 0
SameMarks old new = (m : List ℕ) → is_opened m new ≡ is_opened m old

same_marks : (done : List Done) → SameMarks done done
same_marks done m = refl

marks_join : (a b c : List Done) → SameMarks a b → SameMarks b c → SameMarks a c
marks_join a b c e f m = f m ∙ e m

-- a file behind others that is not marked
marks_push : (done : List Done) (d : Done) → d.opened ≡ false → SameMarks done (done ++ d ∷ [])
marks_push [] d e m = at (bytes_eq d.name m)
  where
    at : (b : Bool) → (if b then d.opened else false) ≡ false
    at true = e
    at false = refl
marks_push (x ∷ done) d e m = ap (λ r. if bytes_eq x.name m then x.opened else r) (marks_push done d e m)

marks_cond : {B : Type 0} (b : Bool) (done : List Done) (x y : List Done × B) → SameMarks done x.0 → SameMarks done y.0 → SameMarks done (if b then x else y).0
marks_cond true done x y p q = p
marks_cond false done x y p q = q

after_marks : (n : List ℕ) (i : ℕ) (place : Option (ℕ × ℕ)) (m : List ℕ) (done : List Done) (v : List Done × Visited) (rest : List Done → List Done × Option Fault) → SameMarks done v.0 → ((d : List Done) → SameMarks d (rest d).0)
    → SameMarks done (after_visit n i place m v rest).0
after_marks n i place m done (d, Finished) rest e k = marks_join done d (rest d).0 e (k d)
after_marks n i place m done (d, Missing) rest e k = e
after_marks n i place m done (d, Faulted fault) rest e k = e

imports_marks : (v : List Done → List ℕ → List Done × Visited) → ((d : List Done) (m : List ℕ) → SameMarks d (v d m).0) → (chain : List (List ℕ)) (n : List ℕ) (places : ℕ → Option (ℕ × ℕ)) (seen ms : List (List ℕ)) (done : List Done)
    → SameMarks done (visit_imports v chain n places seen ms done).0
imports_marks v k chain n places seen [] done = same_marks done
imports_marks v k chain n places seen (m ∷ ms) done =
    marks_cond (among seen m) done (done, Some (Duplicate n (length seen) (places (length seen)) m)) _ (same_marks done)
    (marks_cond (escapes m) done (done, Some (Escapes n (length seen) (places (length seen)) m)) _ (same_marks done)
    (marks_cond (among chain m) done (done, Some (Circular m (chain_text (reverse (m ∷ chain))))) _ (same_marks done)
    (marks_cond (is_done done m) done (visit_imports v chain n places (seen ++ m ∷ []) ms done) (after_visit n (length seen) (places (length seen)) m (v done m) (visit_imports v chain n places (seen ++ m ∷ []) ms))
    (imports_marks v k chain n places (seen ++ m ∷ []) ms done)
    (after_marks n (length seen) (places (length seen)) m done (v done m) (visit_imports v chain n places (seen ++ m ∷ []) ms) (k done m) (imports_marks v k chain n places (seen ++ m ∷ []) ms)))))

finish_marks : (n : List ℕ) (entry : Entry) (done : List Done) (r : List Done × Option Fault) → SameMarks done r.0 → SameMarks done (finish n entry r).0
finish_marks n entry done (d, None) e =
    marks_join done d _ e (marks_cond (keeps_rules (records d) entry.file) d (d ++ done_as d n entry ∷ [], Finished) (d, Faulted (Unlinked entry.file)) (marks_push d (done_as d n entry) refl) (same_marks d))
finish_marks n entry done (d, Some fault) e = e

shadow_marks : (n : List ℕ) (asked path : Option (List ℕ)) (done : List Done) (v : List Done × Visited) → SameMarks done v.0 → SameMarks done (unless_shadowed n asked path done v).0
shadow_marks n None path done v e = e
shadow_marks n (Some asked) None done v e = e
shadow_marks n (Some asked) (Some path) done v e = marks_cond (path_equal path asked) done v (done, Faulted (Shadowed n asked path)) e (same_marks done)

lookup_marks : (n : List ℕ) (asked : Option (List ℕ)) (lookup : Lookup) (done : List Done) (imports : Entry → List Done × Visited) → ((entry : Entry) → SameMarks done (imports entry).0) → SameMarks done (visit_lookup n asked lookup done imports).0
lookup_marks n asked Unread done imports k = same_marks done
lookup_marks n asked NoFile done imports k = same_marks done
lookup_marks n asked (TextFault kind) done imports k = same_marks done
lookup_marks n asked (IsFile entry) done imports k = marks_cond (bytes_eq (declared_name entry) n) done (unless_shadowed n asked entry.path done (imports entry)) (done, Faulted (Mismatch n (declared_name entry))) (shadow_marks n asked entry.path done (imports entry) (k entry)) (same_marks done)

visit_marks : (lookups : List ℕ → Lookup) (limit room : ℕ) (chain : List (List ℕ)) (asked : Option (List ℕ)) (n : List ℕ) (done : List Done) → SameMarks done (visit lookups limit room chain asked n done).0
unfolding visit
visit_marks lookups limit zero chain asked n done = same_marks done
visit_marks lookups limit (suc room) chain asked n done =
    marks_cond (nat_lt limit (length done + length chain + 1)) done (done, Faulted (Limit limit)) _ (same_marks done)
    (lookup_marks n asked (lookups n) done _ (λ entry. finish_marks n entry done _ (imports_marks (λ d m. visit lookups limit room (n ∷ chain) None m d) (λ d m. visit_marks lookups limit room (n ∷ chain) None m d) (n ∷ chain) n (place_of_import entry) [] (imports_of entry) done)))

-- ---- a walk that ends well has finished its root

abbrev HasRoot : List ℕ → List Done × Visited → Type 0
HasRoot n (done, Finished) = is_done done n ≡ true
HasRoot n (done, Missing) = Unit {0}
HasRoot n (done, Faulted fault) = Unit {0}

root_cond : (b : Bool) (n : List ℕ) (x y : List Done × Visited) → HasRoot n x → HasRoot n y → HasRoot n (if b then x else y)
root_cond true n x y p q = p
root_cond false n x y p q = q

or_true : (a : Bool) → (a || true) ≡ true
or_true true = refl
or_true false = refl

finish_root : (n : List ℕ) (entry : Entry) (r : List Done × Option Fault) → HasRoot n (finish n entry r)
finish_root n entry (d, None) =
    root_cond (keeps_rules (records d) entry.file) n (d ++ done_as d n entry ∷ [], Finished) (d, Faulted (Unlinked entry.file))
    (list_any-append (λ (x : Done). bytes_eq x.name n) d (done_as d n entry ∷ []) ∙ ap (λ b. is_done d n || (b || false)) (same_bytes n) ∙ or_true (is_done d n)) tt
finish_root n entry (d, Some fault) = tt

shadow_root : (n : List ℕ) (asked path : Option (List ℕ)) (done : List Done) (v : List Done × Visited) → HasRoot n v → HasRoot n (unless_shadowed n asked path done v)
shadow_root n None path done v e = e
shadow_root n (Some asked) None done v e = e
shadow_root n (Some asked) (Some path) done v e = root_cond (path_equal path asked) n v (done, Faulted (Shadowed n asked path)) e tt

lookup_root : (n : List ℕ) (asked : Option (List ℕ)) (lookup : Lookup) (done : List Done) (imports : Entry → List Done × Visited) → ((entry : Entry) → HasRoot n (imports entry)) → HasRoot n (visit_lookup n asked lookup done imports)
lookup_root n asked Unread done imports k = tt
lookup_root n asked NoFile done imports k = tt
lookup_root n asked (TextFault kind) done imports k = tt
lookup_root n asked (IsFile entry) done imports k = root_cond (bytes_eq (declared_name entry) n) n (unless_shadowed n asked entry.path done (imports entry)) (done, Faulted (Mismatch n (declared_name entry))) (shadow_root n asked entry.path done (imports entry) (k entry)) tt

visit_root : (lookups : List ℕ → Lookup) (limit room : ℕ) (chain : List (List ℕ)) (asked : Option (List ℕ)) (n : List ℕ) (done : List Done) → HasRoot n (visit lookups limit room chain asked n done)
unfolding visit
visit_root lookups limit zero chain asked n done = tt
visit_root lookups limit (suc room) chain asked n done =
    root_cond (nat_lt limit (length done + length chain + 1)) n (done, Faulted (Limit limit)) _ tt (lookup_root n asked (lookups n) done _ (λ entry. finish_root n entry _))

-- ---- an opening marks the name that its path asks for

mark_opened : (n m : List ℕ) (done : List Done) → is_done done n ≡ true → is_opened m (mark n done) ≡ (bytes_eq n m || is_opened m done)
mark_opened n m [] h = absurd (cc)
mark_opened n m (d ∷ ds) h = at (λ k. mark_opened n m ds k) (bytes_eq d.name n) refl h
  where
    own : (b c : Bool) → b ≡ c → (if b then true else is_opened m ds) ≡ (c || (if b then d.opened else is_opened m ds))
    own true c e = rw (← e) refl
    own false c e = rw (← e) refl

    other : (b c : Bool) → (b ≡ true → c ≡ false) → (if b then d.opened else (c || is_opened m ds)) ≡ (c || (if b then d.opened else is_opened m ds))
    other true c e = rw (e refl) refl
    other false c e = refl

    apart : (c : Bool) → bytes_eq n m ≡ c → bytes_eq d.name n ≡ false → bytes_eq d.name m ≡ true → c ≡ false
    apart false e k l = refl
    apart true e k l =
        let both : d.name ≡ n = bytes_are d.name m l ∙ sym (bytes_are n m e) in
        let no : true ≡ false = sym (same_bytes n) ∙ ap (λ x. bytes_eq x n) (sym both) ∙ k in
        absurd (cc)

    at : (is_done ds n ≡ true → is_opened m (mark n ds) ≡ (bytes_eq n m || is_opened m ds))
        → (b : Bool) → bytes_eq d.name n ≡ b → (b || is_done ds n) ≡ true → is_opened m (if b then record d { opened = true } ∷ ds else d ∷ mark n ds) ≡ (bytes_eq n m || is_opened m (d ∷ ds))
    at rest true e k = own (bytes_eq d.name m) (bytes_eq n m) (ap (λ x. bytes_eq x m) (bytes_are d.name n e))
    at rest false e k =
        ap (λ r. if bytes_eq d.name m then d.opened else r) (rest k)
        ∙ other (bytes_eq d.name m) (bytes_eq n m) (apart (bytes_eq n m) refl e)

pub done_marked : (n : List ℕ) (asked known : Option (List ℕ)) (done new : List Done) → open_done n asked known done ≡ (new, Accepted) → new ≡ mark n done
done_marked n None known done new h = sym (ap (λ o. o.0) h)
done_marked n (Some asked) None done new h = sym (ap (λ o. o.0) h)
done_marked n (Some asked) (Some path) done new h = at (path_equal path asked) h
  where
    at : (b : Bool) → ◌≡◌ {A = List Done × Ended} (if b then (mark n done, Accepted) else (done, Refused (Shadowed n asked path))) (new, Accepted) → new ≡ mark n done
    at true e = sym (ap (λ o. o.0) e)
    at false e = let no : Refused (Shadowed n asked path) ≡ Accepted = ap (λ o. o.1) e in absurd (cc)

root_marked : (n m : List ℕ) (done new : List Done) (v : List Done × Visited) → HasRoot n v → SameMarks done v.0 → open_root n v ≡ (new, Accepted) → is_opened m new ≡ (bytes_eq n m || is_opened m done)
root_marked n m done new (d, Finished) there same h = ap (is_opened m) (sym (ap (λ o. o.0) h)) ∙ mark_opened n m d there ∙ ap (λ b. bytes_eq n m || b) (same m)
root_marked n m done new (d, Missing) there same h = let no : NotIncluded ≡ Accepted = ap (λ o. o.1) h in absurd (cc)
root_marked n m done new (d, Faulted fault) there same h = let no : Refused fault ≡ Accepted = ap (λ o. o.1) h in absurd (cc)

module _ (lookups : List ℕ → Lookup) (limit : ℕ) where
  name_marked : (m : List ℕ) (root : Option (List ℕ × Option (List ℕ))) (done new : List Done) → open_name lookups limit root done ≡ (new, Accepted) → is_opened m new ≡ (is_root m root || is_opened m done)
  name_marked m None done new h = let no : NotIncluded ≡ Accepted = ap (λ o. o.1) h in absurd (cc)
  name_marked m (Some root) done new h = at (is_done done root.0) refl h
    where
      at : (b : Bool) → is_done done root.0 ≡ b
          → (if b then open_done root.0 root.1 (path_in root.0 done) done else open_root root.0 (visits lookups limit [] root.1 root.0 done)) ≡ (new, Accepted)
          → is_opened m new ≡ (bytes_eq root.0 m || is_opened m done)
      at true e k = ap (is_opened m) (done_marked root.0 root.1 (path_in root.0 done) done new k) ∙ mark_opened root.0 m done e
      at false e k =
          root_marked root.0 m done new (visits lookups limit [] root.1 root.0 done) (visit_root lookups limit _ [] root.1 root.0 done)
          (visit_marks lookups limit _ [] root.1 root.0 done) k

  module _ (resolves : List ℕ → Option (List ℕ)) where
    swapped : (a b c : Bool) → ((a || b) || c) ≡ (b || (a || c))
    swapped true true c = refl
    swapped true false c = refl
    swapped false b c = refl

    nothing_more : (b : Bool) → b ≡ (b || false)
    nothing_more true = refl
    nothing_more false = refl

    closure_marked : (m : List ℕ) (paths : List (List ℕ)) (done later : List Done) → closure lookups resolves limit paths done ≡ (later, Accepted) → is_opened m later ≡ (is_opened m done || is_asked resolves paths m)
    closure_marked m [] done later h = ap (is_opened m) (sym (ap (λ o. o.0) h)) ∙ nothing_more (is_opened m done)
    closure_marked m (path ∷ paths) done later h =
        let first = first_accepted (opening lookups resolves limit path done) (closure lookups resolves limit paths) later h in
        closure_marked m paths first.0 later first.2
        ∙ ap (λ b. b || is_asked resolves paths m) (name_marked m (root_of resolves path) done first.0 first.1)
        ∙ swapped (is_root m (root_of resolves path)) (is_opened m done) (is_asked resolves paths m)

    opened_done : (m : List ℕ) (done : List Done) → is_opened m done ≡ true → is_done done m ≡ true
    opened_done m [] h = absurd (cc)
    opened_done m (d ∷ ds) h = at (λ k. opened_done m ds k) (bytes_eq d.name m) h
      where
        at : (is_opened m ds ≡ true → is_done ds m ≡ true) → (b : Bool) → (if b then d.opened else is_opened m ds) ≡ true → (b || is_done ds m) ≡ true
        at rest true k = refl
        at rest false k = rest k

    report_again : (m : List ℕ) (done : List Done) → is_again (Some (report_in m done)) ≡ is_opened m done
    report_again m done = at (is_done done m) (is_opened m done) (opened_done m done)
      where
        at : (b o : Bool) → (o ≡ true → b ≡ true) → is_again (Some (if b then (if o then Again else Import) else Compiled)) ≡ o
        at true true h = refl
        at true false h = refl
        at false true h = let no : false ≡ true = h refl in absurd (cc)
        at false false h = refl

    -- a path is opened again where an earlier one asks for its name
    pub again_asked : (before : List (List ℕ)) (path : List ℕ) (done : List Done) → closure lookups resolves limit before [] ≡ (done, Accepted) → is_again (report_of resolves path done) ≡ is_asked_by resolves before (root_of resolves path)
    again_asked before path done h = at (root_of resolves path)
      where
        at : (root : Option (List ℕ × Option (List ℕ))) → is_again (option_map (λ r. report_in r.0 done) root) ≡ is_asked_by resolves before root
        at None = refl
        at (Some root) = report_again root.0 done ∙ closure_marked root.0 before [] done h

    again_behind : (paths before : List (List ℕ)) (done later : List Done) → closure lookups resolves limit before [] ≡ (done, Accepted) → closure lookups resolves limit paths done ≡ (later, Accepted)
        → opened_again lookups resolves limit (length before) paths done ≡ repeats_behind resolves before paths
    again_behind [] before done later h k = refl
    again_behind (path ∷ paths) before done later h k =
        let first = first_accepted (opening lookups resolves limit path done) (closure lookups resolves limit paths) later k in
        let longer : closure lookups resolves limit (before ++ path ∷ []) [] ≡ (first.0, Accepted) =
        closure_push lookups resolves limit before path [] ∙ ap (λ o. after_opening o (opening lookups resolves limit path)) h ∙ first.1 in
        let one : suc (length before) ≡ length (before ++ path ∷ []) = sym (length_push before path ∙ add-one (length before)) in
        let rest : opened_again lookups resolves limit (suc (length before)) paths (opening lookups resolves limit path done).0 ≡ repeats_behind resolves (before ++ path ∷ []) paths =
        ap₂ (λ i d. opened_again lookups resolves limit i paths d) one (ap (λ o. o.0) first.1) ∙ again_behind paths (before ++ path ∷ []) first.0 later longer first.2 in
        ap₂ (λ b r. index_if b (length before) r) (again_asked before path done h) rest

pub repeats_are_again : RepeatsAreAgain
repeats_are_again lookups resolves limit paths later h = again_behind lookups limit resolves paths [] [] later refl h

-- ---- the paths one after another

index_apart : (b : Bool) (i : ℕ) (found rest : List ℕ) → (found ++ index_if b i []) ++ rest ≡ found ++ index_if b i rest
index_apart true i found rest = append_assoc found (i ∷ []) rest
index_apart false i found rest = ap (λ xs. xs ++ rest) (append-nil found)

-- ---- by other names that are the same

module _ (f g : List ℕ → Option (List ℕ)) (same : (path : List ℕ) → f path ≡ g path) where
  root_alike : (path : List ℕ) → root_of f path ≡ root_of g path
  root_alike path = ap (λ name. root_by (option_and_then name_of name) path (name_of path)) (same path)

  asked_alike : (paths : List (List ℕ)) (name : List ℕ) → is_asked f paths name ≡ is_asked g paths name
  asked_alike [] name = refl
  asked_alike (path ∷ paths) name = ap₂ (λ a b. a || b) (ap (is_root name) (root_alike path)) (asked_alike paths name)

  asked_by_alike : (paths : List (List ℕ)) (root : Option (List ℕ × Option (List ℕ))) → is_asked_by f paths root ≡ is_asked_by g paths root
  asked_by_alike paths None = refl
  asked_by_alike paths (Some root) = asked_alike paths root.0

  behind_alike : (before paths : List (List ℕ)) → repeats_behind f before paths ≡ repeats_behind g before paths
  behind_alike before [] = refl
  behind_alike before (path ∷ paths) =
      ap₂ (λ b rest. index_if b (length before) rest) (asked_by_alike before (root_of f path) ∙ ap (is_asked_by g before) (root_alike path))
      (behind_alike (before ++ path ∷ []) paths)

  pub repeats_alike : (paths : List (List ℕ)) → repeats f paths ≡ repeats g paths
  repeats_alike paths = behind_alike [] paths

-- ---- one path more

repeats_push : (resolves : List ℕ → Option (List ℕ)) (paths : List (List ℕ)) (i : ℕ) (path : List ℕ) (found : List ℕ) → i < length paths → path ≡ get_or paths i path
    → found ++ repeats_behind resolves (take i paths) (drop i paths) ≡ repeats resolves paths
    → (found ++ index_if (is_asked_by resolves (take i paths) (root_of resolves path)) i []) ++ repeats_behind resolves (take (i + 1) paths) (drop (i + 1) paths) ≡ repeats resolves paths
repeats_push resolves paths i path found fits is h =
    let next : drop i paths ≡ path ∷ drop (i + 1) paths = drop_more paths i path fits ∙ ap (λ p. p ∷ drop (i + 1) paths) (sym is) in
    let longer : take (i + 1) paths ≡ take i paths ++ path ∷ [] = take_more paths i path fits ∙ ap (λ p. take i paths ++ p ∷ []) (sym is) in
    let here : length (take i paths) ≡ i = length-take-le i paths (omega (arith, fits)) in
    let asked : Bool = is_asked_by resolves (take i paths) (root_of resolves path) in
    index_apart asked i found (repeats_behind resolves (take (i + 1) paths) (drop (i + 1) paths))
    ∙ ap (λ before. found ++ index_if asked i (repeats_behind resolves before (drop (i + 1) paths))) longer
    ∙ ap (λ k. found ++ index_if asked k (repeats_behind resolves (take i paths ++ path ∷ []) (drop (i + 1) paths))) (sym here)
    ∙ ap (λ ps. found ++ repeats_behind resolves (take i paths) ps) (sym next) ∙ h

-- the path at the index is noted where its report is Again
pub noted_next : (lookups : List ℕ → Lookup) (limit : ℕ) (resolves : List ℕ → Option (List ℕ)) (paths : List (List ℕ)) (i : ℕ) (path : List ℕ) (found : List ℕ) (done : List Done) (report : Opened)
    → i < length paths → path ≡ get_or paths i path
    → closure lookups resolves limit (take i paths) [] ≡ (done, Accepted) → report_of resolves path done ≡ Some report
    → found ++ repeats_behind resolves (take i paths) (drop i paths) ≡ repeats resolves paths
    → (found ++ index_if (is_again (Some report)) i []) ++ repeats_behind resolves (take (i + 1) paths) (drop (i + 1) paths) ≡ repeats resolves paths
noted_next lookups limit resolves paths i path found done report fits is before told h =
    let again : is_again (Some report) ≡ is_asked_by resolves (take i paths) (root_of resolves path) = ap is_again (sym told) ∙ again_asked lookups limit resolves (take i paths) path done before in
    ap (λ b. (found ++ index_if b i []) ++ repeats_behind resolves (take (i + 1) paths) (drop (i + 1) paths)) again ∙ repeats_push resolves paths i path found fits is h
