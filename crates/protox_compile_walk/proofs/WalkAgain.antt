-- The walk over linked records is the walk.
use Rattle.std.proofs.Common.{◌≡◌, ◌+◌, ◌-◌, ◌∷◌, ◌++◌, ◌∙◌, [], ℕ, zero, suc, List, Bool, true, false, refl, sym, ap, subst, length, append_assoc}
use Rattle.std.specs.Prelude.{◌||◌, nat_lt, if◌then◌else◌, reverse, Option, Some, None}
use Rattle.std.specs.Str.{bytes_eq}
use Rattle.std.proofs.lemmas.List.{append-nil, length-map, map-append}
use Rattle.pbx_desc_records.specs.declared.file.FileDescriptorProto.{FileDescriptorProto}
use Rattle.pbx_link_definitions.specs.Names.{among}
use Rattle.pbx_link_record.specs.Linked.{linked_record}
use Rattle.pbx_link_rules.specs.Breaches.{keeps_rules}
use Rattle.protox_io.specs.FileNames.{path_equal, escapes}
use Rattle.protox_file_sources.specs.Told.{Entry, Lookup, NoFile, IsFile, TextFault, Unread}
use Rattle.protox_file_sources.specs.Library.{resolves_nothing}
use Rattle.protox_compile_walk.specs.Places.{place_of_import}
use Rattle.protox_compile_walk.specs.Walk.{Done, Fault, Limit, Mismatch, Shadowed, Duplicate, Escapes, Circular, Unlinked}
use Rattle.protox_compile_walk.specs.Walk.{Visited, Finished, Missing, Faulted, records, imports_of, declared_name, done_as, is_done, chain_text}
use Rattle.protox_compile_walk.specs.Walk.{after_visit, visit_imports, finish, unless_shadowed, visit_lookup, visit, visits}
use Rattle.protox_compile_walk.specs.Opening.{Ended, Accepted, NotIncluded, Refused, mark, path_in, root_by, root_of}
use Rattle.protox_compile_walk.specs.Opening.{open_done, open_root, open_name, opening, after_opening, closure}
use Rattle.protox_compile_walk.specs.Refusals.{Extends}
use Rattle.protox_compile_walk.specs.Again.{without_path, without_paths, AsksFor, AskFor, LinksTo, ClosesAgain}
use Rattle.protox_compile_walk.proofs.Extends.{imports_extend, visit_extends}
use Rattle.protox_compile_walk.proofs.Rooted.{roots_named}

-- ---- files without their paths

pub records_kept : (done : List Done) → records (without_paths done) ≡ records done
records_kept [] = refl
records_kept (d ∷ ds) = ap (λ fs. d.file ∷ fs) (records_kept ds)

is_done_kept : (done : List Done) (name : List ℕ) → is_done (without_paths done) name ≡ is_done done name
is_done_kept [] name = refl
is_done_kept (d ∷ ds) name = ap (λ b. bytes_eq d.name name || b) (is_done_kept ds name)

mark_kept : (name : List ℕ) (done : List Done) → mark name (without_paths done) ≡ without_paths (mark name done)
mark_kept name [] = refl
mark_kept name (d ∷ ds) = at (bytes_eq d.name name) (mark_kept name ds)
  where
    at : (b : Bool) → mark name (without_paths ds) ≡ without_paths (mark name ds)
        → (if b then record (without_path d) { opened = true } ∷ without_paths ds else without_path d ∷ mark name (without_paths ds))
        ≡ without_paths (if b then record d { opened = true } ∷ ds else d ∷ mark name ds)
    at true h = refl
    at false h = ap (λ xs. without_path d ∷ xs) h

-- a file of this name, record and path that was only imported
abbrev imported : List ℕ → FileDescriptorProto → Option (List ℕ) → Done
imported name file path = record { name = name; file = file; path = path; opened = false }

done_again : (done : List Done) (n : List ℕ) (again entry : Entry) → linked_record (records done) again.file ≡ linked_record (records done) entry.file
    → again.path ≡ None → done_as (without_paths done) n again ≡ without_path (done_as done n entry)
done_again done n again entry link path =
    ap (λ (fs : List FileDescriptorProto). imported n (linked_record fs again.file) again.path) (records_kept done)
    ∙ ap (λ (f : FileDescriptorProto). imported n f again.path) link
    ∙ ap (imported n (linked_record (records done) entry.file)) path

-- ---- files whose names look up to what links to them

-- the name of each looks up to a file that is linked to its record, behind these records
abbrev Answered : (List ℕ → Lookup) → List FileDescriptorProto → List Done → Type 0
Answered others before [] = Unit {0}
Answered others before (d ∷ ds) = LinksTo before d.name d.file (others d.name) × Answered others (before ++ d.file ∷ []) ds

answered_all : (others : List ℕ → Lookup) (before ds : List Done)
    → ((b a : List Done) (d : Done) → before ++ ds ≡ b ++ d ∷ a → LinksTo (records b) d.name d.file (others d.name))
    → Answered others (records before) ds
answered_all others before [] h = tt
answered_all others before (d ∷ ds) h =
    let rest : Answered others (records (before ++ d ∷ [])) ds =
    answered_all others (before ++ d ∷ []) ds (λ b a x e. h b a x (sym (append_assoc before (d ∷ []) ds) ∙ e)) in
    let P : List FileDescriptorProto → Type 0 = λ fs. Answered others fs ds in
    (h before ds d refl, subst P (map-append (λ (x : Done). x.file) before (d ∷ [])) rest)

answered_front : (others : List ℕ → Lookup) (before : List FileDescriptorProto) (ds more : List Done) → Answered others before (ds ++ more)
    → Answered others before ds
answered_front others before [] more h = tt
answered_front others before (d ∷ ds) more h = (h.0, answered_front others (before ++ d.file ∷ []) ds more h.1)

answered_last : (others : List ℕ → Lookup) (before : List FileDescriptorProto) (ds : List Done) (d : Done) → Answered others before (ds ++ d ∷ [])
    → LinksTo (before ++ records ds) d.name d.file (others d.name)
answered_last others before [] d h =
    let P : List FileDescriptorProto → Type 0 = λ fs. LinksTo fs d.name d.file (others d.name) in subst P (sym (append-nil before)) h.0
answered_last others before (x ∷ ds) d h =
    let P : List FileDescriptorProto → Type 0 = λ fs. LinksTo fs d.name d.file (others d.name) in
    subst P (append_assoc before (x.file ∷ []) (records ds)) (answered_last others (before ++ x.file ∷ []) ds d h.1)

answered_unmarked : (others : List ℕ → Lookup) (name : List ℕ) (before : List FileDescriptorProto) (ds : List Done)
    → Answered others before (mark name ds) → Answered others before ds
answered_unmarked others name before [] h = tt
answered_unmarked others name before (d ∷ ds) h = at (bytes_eq d.name name) h (answered_unmarked others name (before ++ d.file ∷ []) ds)
  where
    at : (b : Bool) → Answered others before (if b then record d { opened = true } ∷ ds else d ∷ mark name ds)
        → (Answered others (before ++ d.file ∷ []) (mark name ds) → Answered others (before ++ d.file ∷ []) ds)
        → Answered others before (d ∷ ds)
    at true k rest = k
    at false k rest = (k.0, rest k.1)

answered_before : (others : List ℕ → Lookup) (old new : List Done) → Extends old new → Answered others [] new → Answered others [] old
answered_before others old new e h =
    let P : List Done → Type 0 = λ ds. Answered others [] ds in answered_front others [] old e.more (subst P e.is h)

-- ---- what a visit comes to is come to again

-- files that a visit, imports and an opening end with
abbrev as_finished : List Done → List Done × Visited
as_finished done = (done, Finished)

abbrev as_imported : List Done → List Done × Option Fault
as_imported done = (done, None)

abbrev as_accepted : List Done → List Done × Ended
as_accepted done = (done, Accepted)

-- where the first finished files whose names are answered, the second finished them without their paths
abbrev IsAgain : (List ℕ → Lookup) → List Done × Visited → List Done × Visited → Type 0
IsAgain others (done, Finished) again = Answered others [] done → again ≡ (without_paths done, Finished)
IsAgain others (done, Missing) again = Unit {0}
IsAgain others (done, Faulted fault) again = Unit {0}

abbrev IsAgainBy : (List ℕ → Lookup) → List Done × Option Fault → List Done × Option Fault → Type 0
IsAgainBy others (done, None) again = Answered others [] done → again ≡ (without_paths done, None)
IsAgainBy others (done, Some fault) again = Unit {0}

again_either : (others : List ℕ → Lookup) (c : Bool) (x y again : List Done × Visited) → IsAgain others x again → IsAgain others y again
    → IsAgain others (if c then x else y) again
again_either others true x y again p q = p
again_either others false x y again p q = q

again_cond : (others : List ℕ → Lookup) (c e : Bool) → e ≡ c → (x y v w : List Done × Visited) → IsAgain others x v → IsAgain others y w
    → IsAgain others (if c then x else y) (if e then v else w)
again_cond others c e same x y v w p q =
    let P : Bool → Type 0 = λ b. IsAgain others (if c then x else y) (if b then v else w) in subst P (sym same) (at c)
  where
    at : (b : Bool) → IsAgain others (if b then x else y) (if b then v else w)
    at true = p
    at false = q

again_cond_by : (others : List ℕ → Lookup) (c e : Bool) → e ≡ c → (x y v w : List Done × Option Fault) → IsAgainBy others x v → IsAgainBy others y w
    → IsAgainBy others (if c then x else y) (if e then v else w)
again_cond_by others c e same x y v w p q =
    let P : Bool → Type 0 = λ b. IsAgainBy others (if c then x else y) (if b then v else w) in subst P (sym same) (at c)
  where
    at : (b : Bool) → IsAgainBy others (if b then x else y) (if b then v else w)
    at true = p
    at false = q

after_again : (others : List ℕ → Lookup) (n : List ℕ) (i : ℕ) (place other : Option (ℕ × ℕ)) (m : List ℕ) (v w : List Done × Visited)
    (rest later : List Done → List Done × Option Fault) → IsAgain others v w → ((d : List Done) → Extends d (rest d).0)
    → ((d : List Done) → IsAgainBy others (rest d) (later (without_paths d)))
    → IsAgainBy others (after_visit n i place m v rest) (after_visit n i other m w later)
after_again others n i place other m (d, Finished) w rest later h x k = at (rest d) (x d) (k d)
  where
    at : (r : List Done × Option Fault) → Extends d r.0 → IsAgainBy others r (later (without_paths d))
        → IsAgainBy others r (after_visit n i other m w later)
    at (g, None) front s = λ answered. ap (λ u. after_visit n i other m u later) (h (answered_before others d g front answered)) ∙ s answered
    at (g, Some fault) front s = tt
after_again others n i place other m (d, Missing) w rest later h x k = tt
after_again others n i place other m (d, Faulted fault) w rest later h x k = tt

module _ (others : List ℕ → Lookup) (v w : List Done → List ℕ → List Done × Visited)
    (k : (d : List Done) (m : List ℕ) → IsAgain others (v d m) (w (without_paths d) m))
    (x : (d : List Done) (m : List ℕ) → Extends d (v d m).0) (chain : List (List ℕ)) (n : List ℕ) (places other : ℕ → Option (ℕ × ℕ)) where
  imports_again : (seen ms : List (List ℕ)) (done : List Done)
      → IsAgainBy others (visit_imports v chain n places seen ms done) (visit_imports w chain n other seen ms (without_paths done))
  imports_again seen [] done = λ answered. refl
  imports_again seen (m ∷ ms) done =
      again_cond_by others (among seen m) (among seen m) refl (done, Some (Duplicate n (length seen) (places (length seen)) m)) _
      (without_paths done, Some (Duplicate n (length seen) (other (length seen)) m)) _ tt
      (again_cond_by others (escapes m) (escapes m) refl (done, Some (Escapes n (length seen) (places (length seen)) m)) _
      (without_paths done, Some (Escapes n (length seen) (other (length seen)) m)) _ tt
      (again_cond_by others (among chain m) (among chain m) refl (done, Some (Circular m (chain_text (reverse (m ∷ chain))))) _
      (without_paths done, Some (Circular m (chain_text (reverse (m ∷ chain))))) _ tt
      (again_cond_by others (is_done done m) (is_done (without_paths done) m) (is_done_kept done m)
      (visit_imports v chain n places (seen ++ m ∷ []) ms done) _
      (visit_imports w chain n other (seen ++ m ∷ []) ms (without_paths done)) _
      (imports_again (seen ++ m ∷ []) ms done)
      (after_again others n (length seen) (places (length seen)) (other (length seen)) m (v done m) (w (without_paths done) m)
      (visit_imports v chain n places (seen ++ m ∷ []) ms) (visit_imports w chain n other (seen ++ m ∷ []) ms)
      (k done m) (imports_extend v x chain n places (seen ++ m ∷ []) ms) (imports_again (seen ++ m ∷ []) ms)))))

  -- the same of imports that are the same
  imports_alike : (ms same : List (List ℕ)) (done : List Done) → same ≡ ms
      → IsAgainBy others (visit_imports v chain n places [] ms done) (visit_imports w chain n other [] same (without_paths done))
  imports_alike ms same done e =
      let P : List (List ℕ) → Type 0 = λ ns. IsAgainBy others (visit_imports v chain n places [] ms done)
      (visit_imports w chain n other [] ns (without_paths done)) in
      subst P (sym e) (imports_again [] ms done)

-- the visit of a name behind these files, where the imports of an entry come to this
abbrev visit_by : (List ℕ → Lookup) → List ℕ → List Done → (Entry → List Done × Option Fault) → List Done × Visited
visit_by others n start imports = visit_lookup n None (others n) start (λ entry. finish n entry (imports entry))

module _ (others : List ℕ → Lookup) (n : List ℕ) (start : List Done) (imports : Entry → List Done × Option Fault) where
  visit_linked : (done : List Done) (file : FileDescriptorProto) (links : LinksTo (records done) n file (others n))
      → visit_by others n start imports ≡ finish n links.entry (imports links.entry)
  visit_linked done file links =
      ap (λ lookup. visit_lookup n None lookup start (λ entry. finish n entry (imports entry))) links.lookup_is
      ∙ ap (λ b. if b then finish n links.entry (imports links.entry) else (start, Faulted (Mismatch n (declared_name links.entry)))) links.declared

  finish_linked : (done : List Done) (entry : Entry) (links : LinksTo (records done) n (linked_record (records done) entry.file) (others n))
      → finish n links.entry (without_paths done, None) ≡ (without_paths (done ++ done_as done n entry ∷ []), Finished)
  finish_linked done entry links =
      let again : Entry = links.entry in
      let more : List Done = without_paths done ++ done_as (without_paths done) n again ∷ [] in
      let keeps : keeps_rules (records (without_paths done)) again.file ≡ true =
      ap (λ fs. keeps_rules fs again.file) (records_kept done) ∙ links.keeps in
      let accepted : finish n again (without_paths done, None) ≡ as_finished more =
      ap (λ b. if b then as_finished more else (without_paths done, Faulted (Unlinked again.file))) keeps in
      let same : more ≡ without_paths (done ++ done_as done n entry ∷ []) =
      ap (λ d. without_paths done ++ d ∷ []) (done_again done n again entry links.linked_is links.path_is)
      ∙ sym (map-append without_path done (done_as done n entry ∷ [])) in
      accepted ∙ ap as_finished same

  finish_again : (entry : Entry) (r : List Done × Option Fault) → ((e : Entry) → imports_of e ≡ imports_of entry → IsAgainBy others r (imports e))
      → IsAgain others (finish n entry r) (visit_by others n start imports)
  finish_again entry (done, None) k =
      again_either others (keeps_rules (records done) entry.file) (done ++ done_as done n entry ∷ [], Finished) (done, Faulted (Unlinked entry.file))
      (visit_by others n start imports) accepted tt
    where
      accepted : Answered others [] (done ++ done_as done n entry ∷ [])
          → visit_by others n start imports ≡ (without_paths (done ++ done_as done n entry ∷ []), Finished)
      accepted answered =
          let file : FileDescriptorProto = linked_record (records done) entry.file in
          let links : LinksTo (records done) n file (others n) = answered_last others [] done (done_as done n entry) answered in
          let same : imports_of links.entry ≡ imports_of entry = ap (λ (f : FileDescriptorProto). f.dependency) links.linked_is in
          let front : Answered others [] done = answered_front others [] done (done_as done n entry ∷ []) answered in
          visit_linked done file links ∙ ap (finish n links.entry) (k links.entry same front) ∙ finish_linked done entry links
  finish_again entry (done, Some fault) k = tt

shadow_again : (others : List ℕ → Lookup) (n : List ℕ) (asked path : Option (List ℕ)) (done : List Done) (v again : List Done × Visited)
    → IsAgain others v again → IsAgain others (unless_shadowed n asked path done v) again
shadow_again others n None path done v again h = h
shadow_again others n (Some asked) None done v again h = h
shadow_again others n (Some asked) (Some path) done v again h =
    again_either others (path_equal path asked) v (done, Faulted (Shadowed n asked path)) again h tt

lookup_again : (others : List ℕ → Lookup) (n : List ℕ) (asked : Option (List ℕ)) (lookup : Lookup) (done : List Done)
    (imports : Entry → List Done × Visited) (again : List Done × Visited) → ((entry : Entry) → IsAgain others (imports entry) again)
    → IsAgain others (visit_lookup n asked lookup done imports) again
lookup_again others n asked Unread done imports again k = tt
lookup_again others n asked NoFile done imports again k = tt
lookup_again others n asked (TextFault kind) done imports again k = tt
lookup_again others n asked (IsFile entry) done imports again k =
    again_either others (bytes_eq (declared_name entry) n) (unless_shadowed n asked entry.path done (imports entry))
    (done, Faulted (Mismatch n (declared_name entry))) again (shadow_again others n asked entry.path done (imports entry) again (k entry)) tt

visit_again : (lookups others : List ℕ → Lookup) (limit room : ℕ) (chain : List (List ℕ)) (asked : Option (List ℕ)) (n : List ℕ) (done : List Done)
    → IsAgain others (visit lookups limit room chain asked n done) (visit others limit room chain None n (without_paths done))
unfolding visit
visit_again lookups others limit zero chain asked n done = tt
visit_again lookups others limit (suc room) chain asked n done =
    again_cond others (nat_lt limit (length done + length chain + 1)) (nat_lt limit (length (without_paths done) + length chain + 1))
    (ap (λ l. nat_lt limit (l + length chain + 1)) (length-map done without_path)) (done, Faulted (Limit limit)) _
    (without_paths done, Faulted (Limit limit)) _ tt
    (lookup_again others n asked (lookups n) done _ _ (λ entry. finish_again others n (without_paths done)
    (λ e. visit_imports (λ d m. visit others limit room (n ∷ chain) None m d) (n ∷ chain) n (place_of_import e) [] (imports_of e) (without_paths done))
    entry (visit_imports (λ d m. visit lookups limit room (n ∷ chain) None m d) (n ∷ chain) n (place_of_import entry) [] (imports_of entry) done)
    (λ e same. imports_alike others (λ d m. visit lookups limit room (n ∷ chain) None m d) (λ d m. visit others limit room (n ∷ chain) None m d)
    (λ d m. visit_again lookups others limit room (n ∷ chain) None m d) (λ d m. visit_extends lookups limit room (n ∷ chain) None m d)
    (n ∷ chain) n (place_of_import entry) (place_of_import e) (imports_of entry) (imports_of e) done same)))

-- ---- what an opening comes to is come to again

-- where the first accepted files whose names are answered, the second accepted them without their paths
abbrev EndsAgain : (List ℕ → Lookup) → List Done × Ended → List Done × Ended → Type 0
EndsAgain others (done, Accepted) again = Answered others [] done → again ≡ (without_paths done, Accepted)
EndsAgain others (done, NotIncluded) again = Unit {0}
EndsAgain others (done, Refused fault) again = Unit {0}

ends_cond : (others : List ℕ → Lookup) (c e : Bool) → e ≡ c → (x y v w : List Done × Ended) → EndsAgain others x v → EndsAgain others y w
    → EndsAgain others (if c then x else y) (if e then v else w)
ends_cond others c e same x y v w p q =
    let P : Bool → Type 0 = λ b. EndsAgain others (if c then x else y) (if b then v else w) in subst P (sym same) (at c)
  where
    at : (b : Bool) → EndsAgain others (if b then x else y) (if b then v else w)
    at true = p
    at false = q

done_ends : (others : List ℕ → Lookup) (name : List ℕ) (asked known other : Option (List ℕ)) (done : List Done)
    → EndsAgain others (open_done name asked known done) (open_done name None other (without_paths done))
done_ends others name None known other done = λ answered. ap as_accepted (mark_kept name done)
done_ends others name (Some asked) None other done = λ answered. ap as_accepted (mark_kept name done)
done_ends others name (Some asked) (Some path) other done = at (path_equal path asked)
  where
    at : (b : Bool) → EndsAgain others (if b then (mark name done, Accepted) else (done, Refused (Shadowed name asked path)))
        (mark name (without_paths done), Accepted)
    at true = λ answered. ap as_accepted (mark_kept name done)
    at false = tt

root_ends : (others : List ℕ → Lookup) (name : List ℕ) (v w : List Done × Visited) → IsAgain others v w
    → EndsAgain others (open_root name v) (open_root name w)
root_ends others name (d, Finished) w h =
    λ answered. ap (open_root name) (h (answered_unmarked others name [] d answered)) ∙ ap as_accepted (mark_kept name d)
root_ends others name (d, Missing) w h = tt
root_ends others name (d, Faulted fault) w h = tt

name_ends : (lookups others : List ℕ → Lookup) (limit : ℕ) (name : List ℕ) (asked : Option (List ℕ)) (done : List Done)
    → EndsAgain others (open_name lookups limit (Some (name, asked)) done) (open_name others limit (Some (name, None)) (without_paths done))
name_ends lookups others limit name asked done =
    ends_cond others (is_done done name) (is_done (without_paths done) name) (is_done_kept done name)
    (open_done name asked (path_in name done) done) (open_root name (visits lookups limit [] asked name done))
    (open_done name None (path_in name (without_paths done)) (without_paths done)) (open_root name (visits others limit [] None name (without_paths done)))
    (done_ends others name asked (path_in name done) (path_in name (without_paths done)) done)
    (root_ends others name (visits lookups limit [] asked name done) (visits others limit [] None name (without_paths done))
    (visit_again lookups others limit (limit - 0) [] asked name done))

opening_ends : (lookups others : List ℕ → Lookup) (resolves : List ℕ → Option (List ℕ)) (limit : ℕ) (path name : List ℕ) (done : List Done)
    → AsksFor resolves path name
    → EndsAgain others (opening lookups resolves limit path done) (opening others resolves_nothing limit name (without_paths done))
opening_ends lookups others resolves limit path name done asks =
    let first : opening lookups resolves limit path done ≡ open_name lookups limit (Some (name, asks.asked)) done =
    ap (λ root. open_name lookups limit root done) asks.root_is in
    let second : opening others resolves_nothing limit name (without_paths done) ≡ open_name others limit (Some (name, None)) (without_paths done) =
    ap (λ own. open_name others limit (root_by None name own) (without_paths done)) (roots_named resolves path name asks.asked asks.root_is) in
    let P : List Done × Ended → Type 0 = λ o. EndsAgain others o (opening others resolves_nothing limit name (without_paths done)) in
    let Q : List Done × Ended → Type 0 = λ o. EndsAgain others (open_name lookups limit (Some (name, asks.asked)) done) o in
    subst P (sym first) (subst Q (sym second) (name_ends lookups others limit name asks.asked done))

-- ---- names that are answered were answered before

either_before : (others : List ℕ → Lookup) (b : Bool) (x y : List Done × Ended) (done : List Done)
    → (Answered others [] x.0 → Answered others [] done) → (Answered others [] y.0 → Answered others [] done)
    → Answered others [] (if b then x else y).0 → Answered others [] done
either_before others true x y done f g h = f h
either_before others false x y done f g h = g h

done_before : (others : List ℕ → Lookup) (name : List ℕ) (asked known : Option (List ℕ)) (done : List Done)
    → Answered others [] (open_done name asked known done).0 → Answered others [] done
done_before others name None known done h = answered_unmarked others name [] done h
done_before others name (Some asked) None done h = answered_unmarked others name [] done h
done_before others name (Some asked) (Some path) done h =
    either_before others (path_equal path asked) (mark name done, Accepted) (done, Refused (Shadowed name asked path)) done
    (answered_unmarked others name [] done) (λ k. k) h

root_before : (others : List ℕ → Lookup) (name : List ℕ) (done : List Done) (v : List Done × Visited) → Extends done v.0
    → Answered others [] (open_root name v).0 → Answered others [] done
root_before others name done (d, Finished) e h = answered_before others done d e (answered_unmarked others name [] d h)
root_before others name done (d, Missing) e h = answered_before others done d e h
root_before others name done (d, Faulted fault) e h = answered_before others done d e h

name_before : (lookups others : List ℕ → Lookup) (limit : ℕ) (root : Option (List ℕ × Option (List ℕ))) (done : List Done)
    → Answered others [] (open_name lookups limit root done).0 → Answered others [] done
name_before lookups others limit None done h = h
name_before lookups others limit (Some root) done h =
    either_before others (is_done done root.0) (open_done root.0 root.1 (path_in root.0 done) done)
    (open_root root.0 (visits lookups limit [] root.1 root.0 done)) done
    (done_before others root.0 root.1 (path_in root.0 done) done)
    (root_before others root.0 done (visits lookups limit [] root.1 root.0 done) (visit_extends lookups limit (limit - 0) [] root.1 root.0 done)) h

after_before : (others : List ℕ → Lookup) (o : List Done × Ended) (rest : List Done → List Done × Ended) (done : List Done)
    → ((d : List Done) → Answered others [] (rest d).0 → Answered others [] d) → (Answered others [] o.0 → Answered others [] done)
    → Answered others [] (after_opening o rest).0 → Answered others [] done
after_before others (d, Accepted) rest done k f h = f (k d h)
after_before others (d, NotIncluded) rest done k f h = f h
after_before others (d, Refused fault) rest done k f h = f h

module _ (lookups others : List ℕ → Lookup) (resolves : List ℕ → Option (List ℕ)) (limit : ℕ) where
  closure_before : (paths : List (List ℕ)) (done : List Done) → Answered others [] (closure lookups resolves limit paths done).0
      → Answered others [] done
  closure_before [] done h = h
  closure_before (path ∷ paths) done h =
      after_before others (opening lookups resolves limit path done) (closure lookups resolves limit paths) done (closure_before paths)
      (name_before lookups others limit (root_of resolves path) done) h

-- ---- openings one after another

after_ends : (others : List ℕ → Lookup) (o p : List Done × Ended) (rest later : List Done → List Done × Ended) → EndsAgain others o p
    → ((d : List Done) → Answered others [] (rest d).0 → Answered others [] d)
    → ((d : List Done) → EndsAgain others (rest d) (later (without_paths d)))
    → EndsAgain others (after_opening o rest) (after_opening p later)
after_ends others (d, Accepted) p rest later h back k = at (rest d) (back d) (k d)
  where
    at : (r : List Done × Ended) → (Answered others [] r.0 → Answered others [] d) → EndsAgain others r (later (without_paths d))
        → EndsAgain others r (after_opening p later)
    at (g, Accepted) front s = λ answered. ap (λ u. after_opening u later) (h (front answered)) ∙ s answered
    at (g, NotIncluded) front s = tt
    at (g, Refused fault) front s = tt
after_ends others (d, NotIncluded) p rest later h back k = tt
after_ends others (d, Refused fault) p rest later h back k = tt

module _ (lookups others : List ℕ → Lookup) (resolves : List ℕ → Option (List ℕ)) (limit : ℕ) where
  closure_ends : (paths names : List (List ℕ)) (done : List Done) → AskFor resolves paths names
      → EndsAgain others (closure lookups resolves limit paths done) (closure others resolves_nothing limit names (without_paths done))
  closure_ends [] [] done asks = λ answered. refl
  closure_ends [] (name ∷ names) done asks = absurd asks
  closure_ends (path ∷ paths) [] done asks = absurd asks
  closure_ends (path ∷ paths) (name ∷ names) done asks =
      after_ends others (opening lookups resolves limit path done) (opening others resolves_nothing limit name (without_paths done))
      (closure lookups resolves limit paths) (closure others resolves_nothing limit names)
      (opening_ends lookups others resolves limit path name done asks.0)
      (closure_before lookups others resolves limit paths)
      (λ d. closure_ends paths names d asks.1)

pub closes_again : ClosesAgain
closes_again lookups others resolves limit paths names later closed asks linked =
    let P : List Done × Ended → Type 0 = λ o. EndsAgain others o (closure others resolves_nothing limit names []) in
    subst P closed (closure_ends lookups others resolves limit paths names [] asks) (answered_all others [] later linked)
