-- A walk keeps the files that are finished.
use Rattle.std.proofs.Common.{◌≡◌, ◌+◌, ◌-◌, ◌∷◌, ◌++◌, [], ℕ, zero, suc, List, Bool, true, false, refl, sym, length, take, drop, append_assoc}
use Rattle.std.specs.List.{list_all}
use Rattle.std.specs.Prelude.{nat_lt, ◌&&◌, if◌then◌else◌, reverse, Option, Some, None}
use Rattle.std.proofs.lemmas.List.{append-nil}
use Rattle.std.specs.Str.{bytes_eq}
use Rattle.pbx_link_rules.specs.Breaches.{keeps_rules}
use Rattle.pbx_link_definitions.specs.Names.{among}
use Rattle.protox_io.specs.FileNames.{path_equal, escapes}
use Rattle.protox_file_sources.specs.Told.{Entry, Lookup, NoFile, IsFile, TextFault, Unread}
use Rattle.protox_compile_walk.specs.Places.{place_of_import}
use Rattle.protox_compile_walk.specs.Walk.{Done, Fault, Limit, Mismatch, Shadowed, Duplicate, Escapes, Circular, Unlinked, Visited, Finished, Missing, Faulted, Open, records, imports_of, declared_name, done_as, is_done, chain_text, after_visit, visit_imports, finish, unless_shadowed, visit_lookup, visit, visits}
use Rattle.protox_compile_walk.specs.Resume.{names_of, go_on, resume}
use Rattle.protox_compile_walk.specs.Refusals.{Extends, Grows, is_imported}

pub extends_same : (done : List Done) → Extends done done
extends_same done = record { more = []; is = sym (append-nil done) }

pub extends_push : (done : List Done) (d : Done) → Extends done (done ++ d ∷ [])
extends_push done d = record { more = d ∷ []; is = refl }

pub extends_join : {a b c : List Done} → Extends a b → Extends b c → Extends a c
extends_join {a} e f = record { more = e.more ++ f.more; is = rw (f.is, e.is) (append_assoc a e.more f.more) }

extends_cond : {B : Type 0} (b : Bool) (done : List Done) (x y : List Done × B) → Extends done x.0 → Extends done y.0 → Extends done (if b then x else y).0
extends_cond true done x y p q = p
extends_cond false done x y p q = q

pub after_extends : (n : List ℕ) (i : ℕ) (place : Option (ℕ × ℕ)) (m : List ℕ) (done : List Done) (v : List Done × Visited) (rest : List Done → List Done × Option Fault) → Extends done v.0 → ((d : List Done) → Extends d (rest d).0) → Extends done (after_visit n i place m v rest).0
after_extends n i place m done (d, Finished) rest e k = extends_join e (k d)
after_extends n i place m done (d, Missing) rest e k = e
after_extends n i place m done (d, Faulted fault) rest e k = e

pub imports_extend : (v : List Done → List ℕ → List Done × Visited) → ((d : List Done) (m : List ℕ) → Extends d (v d m).0) → (chain : List (List ℕ)) (n : List ℕ) (places : ℕ → Option (ℕ × ℕ)) (seen ms : List (List ℕ)) (done : List Done) → Extends done (visit_imports v chain n places seen ms done).0
imports_extend v k chain n places seen [] done = extends_same done
imports_extend v k chain n places seen (m ∷ ms) done =
    extends_cond (among seen m) done (done, Some (Duplicate n (length seen) (places (length seen)) m)) _ (extends_same done)
    (extends_cond (escapes m) done (done, Some (Escapes n (length seen) (places (length seen)) m)) _ (extends_same done)
    (extends_cond (among chain m) done (done, Some (Circular m (chain_text (reverse (m ∷ chain))))) _ (extends_same done)
    (extends_cond (is_done done m) done (visit_imports v chain n places (seen ++ m ∷ []) ms done) (after_visit n (length seen) (places (length seen)) m (v done m) (visit_imports v chain n places (seen ++ m ∷ []) ms))
    (imports_extend v k chain n places (seen ++ m ∷ []) ms done)
    (after_extends n (length seen) (places (length seen)) m done (v done m) (visit_imports v chain n places (seen ++ m ∷ []) ms) (k done m) (imports_extend v k chain n places (seen ++ m ∷ []) ms)))))

pub finish_extends : (n : List ℕ) (entry : Entry) (done : List Done) (r : List Done × Option Fault) → Extends done r.0 → Extends done (finish n entry r).0
finish_extends n entry done (d, None) e = extends_join e (extends_cond (keeps_rules (records d) entry.file) d (d ++ done_as d n entry ∷ [], Finished) (d, Faulted (Unlinked entry.file)) (extends_push d (done_as d n entry)) (extends_same d))
finish_extends n entry done (d, Some fault) e = e

shadow_extends : (n : List ℕ) (asked path : Option (List ℕ)) (done : List Done) (v : List Done × Visited) → Extends done v.0 → Extends done (unless_shadowed n asked path done v).0
shadow_extends n None path done v e = e
shadow_extends n (Some asked) None done v e = e
shadow_extends n (Some asked) (Some path) done v e = extends_cond (path_equal path asked) done v (done, Faulted (Shadowed n asked path)) e (extends_same done)

pub lookup_extends : (n : List ℕ) (asked : Option (List ℕ)) (lookup : Lookup) (done : List Done) (imports : Entry → List Done × Visited) → ((entry : Entry) → Extends done (imports entry).0) → Extends done (visit_lookup n asked lookup done imports).0
lookup_extends n asked Unread done imports k = extends_same done
lookup_extends n asked NoFile done imports k = extends_same done
lookup_extends n asked (TextFault kind) done imports k = extends_same done
lookup_extends n asked (IsFile entry) done imports k = extends_cond (bytes_eq (declared_name entry) n) done (unless_shadowed n asked entry.path done (imports entry)) (done, Faulted (Mismatch n (declared_name entry))) (shadow_extends n asked entry.path done (imports entry) (k entry)) (extends_same done)

pub visit_extends : (lookups : List ℕ → Lookup) (limit room : ℕ) (chain : List (List ℕ)) (asked : Option (List ℕ)) (n : List ℕ) (done : List Done) → Extends done (visit lookups limit room chain asked n done).0
unfolding visit
visit_extends lookups limit zero chain asked n done = extends_same done
visit_extends lookups limit (suc room) chain asked n done =
    extends_cond (nat_lt limit (length done + length chain + 1)) done (done, Faulted (Limit limit)) _ (extends_same done)
    (lookup_extends n asked (lookups n) done _ (λ entry. finish_extends n entry done _ (imports_extend (λ d m. visit lookups limit room (n ∷ chain) None m d) (λ d m. visit_extends lookups limit room (n ∷ chain) None m d) (n ∷ chain) n (place_of_import entry) [] (imports_of entry) done)))

go_on_extends : (done : List Done) (v : List Done × Visited) (rest : List Done → List Done × Visited) → Extends done v.0 → ((d : List Done) → Extends d (rest d).0) → Extends done (go_on v rest).0
go_on_extends done (d, Finished) rest e k = extends_join e (k d)
go_on_extends done (d, Missing) rest e k = e
go_on_extends done (d, Faulted fault) rest e k = e

pub resume_extends : (lookups : List ℕ → Lookup) (limit : ℕ) (fs : List Open) (done : List Done) → Extends done (resume lookups limit fs done).0
unfolding resume
resume_extends lookups limit [] done = extends_same done
resume_extends lookups limit (f ∷ fs) done =
    go_on_extends done _ _ (finish_extends f.name f.entry done _ (imports_extend (λ d m. visits lookups limit (f.name ∷ names_of fs) None m d) (λ d m. visit_extends lookups limit (limit - length (f.name ∷ names_of fs)) (f.name ∷ names_of fs) None m d) (f.name ∷ names_of fs) f.name (place_of_import f.entry) (take f.next (imports_of f.entry)) (drop f.next (imports_of f.entry)) done))
    (resume_extends lookups limit fs)

-- ---- files behind others, as imports

pub grows_same : (done : List Done) → Grows done done
grows_same done = record { more = []; is = sym (append-nil done); imported = refl }

all_push : (ds : List Done) (d : Done) → list_all is_imported ds ≡ true → is_imported d ≡ true → list_all is_imported (ds ++ d ∷ []) ≡ true
all_push [] d h e = rw e refl
all_push (x ∷ ds) d h e = at (is_imported x) h (λ k. all_push ds d k e)
  where
    at : (b : Bool) → (b && list_all is_imported ds) ≡ true → (list_all is_imported ds ≡ true → list_all is_imported (ds ++ d ∷ []) ≡ true) → (b && list_all is_imported (ds ++ d ∷ [])) ≡ true
    at true k later = later k
    at false k later = absurd (cc)

pub grows_push : (old done now : List Done) (d : Done) → Grows old done → now ≡ done ++ d ∷ [] → is_imported d ≡ true → Grows old now
grows_push old done now d g e h = record { more = g.more ++ d ∷ []; is = rw (e, g.is) (append_assoc old g.more (d ∷ [])); imported = all_push g.more d g.imported h }
