-- What an accepted walk finished, and what the names of it look up to.
use Rattle.std.proofs.Common.{◌≡◌, ◌+◌, ◌≤◌, ◌∷◌, ◌++◌, ◌∙◌, [], ℕ, zero, suc, List, Bool, true, false, refl, sym, ap, subst, length, append_assoc}
use Rattle.std.proofs.Common.{append-nil, arith}
use Rattle.std.specs.Prelude.{◌||◌, nat_lt, if◌then◌else◌, reverse, Option, Some, None}
use Rattle.std.specs.Str.{bytes_eq}
use Rattle.std.proofs.lemmas.Bool.{ltb-false}
use Rattle.std.proofs.lemmas.List.{length-append}
use Rattle.std.proofs.lemmas.List.Folds.{list_any-append}
use Rattle.pbx_link_definitions.specs.Names.{among}
use Rattle.pbx_link_rules.specs.Breaches.{keeps_rules}
use Rattle.protox_io.specs.FileNames.{path_equal, escapes}
use Rattle.protox_file_sources.specs.Told.{Entry, Lookup, NoFile, IsFile, TextFault, Unread}
use Rattle.protox_compile_walk.specs.Places.{place_of_import}
use Rattle.protox_compile_walk.specs.Walk.{Done, Fault, Limit, Duplicate, Escapes, Circular, Unlinked}
use Rattle.protox_compile_walk.specs.Walk.{Visited, Finished, Missing, Faulted, records, imports_of, declared_name, done_as, is_done, chain_text}
use Rattle.protox_compile_walk.specs.Walk.{after_visit, visit_imports, finish, unless_shadowed, visit_lookup, visit}
use Rattle.protox_compile_walk.proofs.Right.{same_bytes, bytes_are}
use Rattle.protox_compile_walk.proofs.Fresh.{is_done_push}
use Rattle.protox_compile_walk.proofs.Recorded.{linked_name}
use Rattle.pbx_link_rules.proofs.Lists.{or_left, or_right, neither}
use Rattle.protox_compile_walk.specs.Opening.{path_in}
use Rattle.protox_compile_laws.proofs.Settled.{AreTaken, Settles, AllSettle, all_joined}

-- one of two, by a test
pub by_test : {A : Type 0} (P : A → Type 0) (b : Bool) (x y : A) → (b ≡ true → P x) → (b ≡ false → P y) → P (if b then x else y)
by_test P true x y p q = p refl
by_test P false x y p q = q refl

-- names of which one is finished and the other is not differ
pub differ : (chain : List (List ℕ)) (a b : List ℕ) → among chain a ≡ false → among chain b ≡ true → bytes_eq a b ≡ false
differ chain a b out there = at (bytes_eq a b) refl
  where
    at : (c : Bool) → bytes_eq a b ≡ c → c ≡ false
    at true e = let wrong : true ≡ false = sym there ∙ ap (among chain) (sym (bytes_are a b e)) ∙ out in absurd cc
    at false e = refl

-- what is finished stays so
pub done_more : (done more : List Done) (name : List ℕ) → is_done done name ≡ true → is_done (done ++ more) name ≡ true
done_more done more name h =
    list_any-append (λ (d : Done). bytes_eq d.name name) done more ∙ or_left (is_done done name) (is_done more name) h

pub done_last : (done : List Done) (d : Done) → is_done (done ++ d ∷ []) d.name ≡ true
done_last done d =
    list_any-append (λ (x : Done). bytes_eq x.name d.name) done (d ∷ [])
    ∙ or_right (is_done done d.name) (bytes_eq d.name d.name || false) (or_left (bytes_eq d.name d.name) false (same_bytes d.name))

-- the path of the last file, whose name is new
path_last : (done : List Done) (d : Done) (name : List ℕ) → is_done done name ≡ false → bytes_eq d.name name ≡ true
    → path_in name (done ++ d ∷ []) ≡ d.path
path_last [] d name new e = ap (λ b. if b then d.path else None) e
path_last (x ∷ xs) d name new e =
    ap (λ b. if b then x.path else path_in name (xs ++ d ∷ [])) (neither (bytes_eq x.name name) (is_done xs name) new).0
    ∙ path_last xs d name (neither (bytes_eq x.name name) (is_done xs name) new).1 e

-- a root's path is none other than the one that was asked
abbrev pub IsClear : Option (List ℕ) → Option (List ℕ) → Type 0
IsClear None path = Unit {0}
IsClear (Some asked) None = Unit {0}
IsClear (Some asked) (Some path) = path_equal path asked ≡ true

-- ---- what was finished behind others while the files of the chain were open

pub record Grew (lookups : List ℕ → Lookup) (limit : ℕ) (chain : List (List ℕ)) (now next : List Done) : Type 0 where
  pub more : List Done
  pub is : next ≡ now ++ more
  pub settle : AllSettle lookups now more
  pub away : (c : List ℕ) → among chain c ≡ true → is_done now c ≡ false → is_done next c ≡ false
  pub within : length now + length chain ≤ limit → length next + length chain ≤ limit

module _ {lookups : List ℕ → Lookup} {limit : ℕ} {chain : List (List ℕ)} where
  grew_same : (now : List Done) → Grew lookups limit chain now now
  grew_same now = record { more = []; is = sym (append-nil now); settle = tt; away = λ c held new. new; within = λ h. h }

  grew_joined : {a b c : List Done} → Grew lookups limit chain a b → Grew lookups limit chain b c → Grew lookups limit chain a c
  grew_joined {a} {b} {c} p q = record {
    more = p.more ++ q.more;
    is = q.is ∙ ap (λ (l : List Done). l ++ q.more) p.is ∙ append_assoc a p.more q.more;
    settle = all_joined lookups a p.more q.more p.settle (subst (λ (l : List Done). AllSettle lookups l q.more) p.is q.settle);
    away = λ n held new. q.away n held (p.away n held new);
    within = λ h. q.within (p.within h);
  }

  grew_done : {a b : List Done} → Grew lookups limit chain a b → (name : List ℕ) → is_done a name ≡ true → is_done b name ≡ true
  grew_done {a} {b} p name h = ap (λ (l : List Done). is_done l name) p.is ∙ done_more a p.more name h

-- where a name was finished, more files were finished behind these, and it is one of them
abbrev pub VisitGrew : (List ℕ → Lookup) → ℕ → List (List ℕ) → Option (List ℕ) → List Done → List ℕ → List Done × Visited → Type 0
VisitGrew lookups limit chain asked now n (next, Finished) =
    Grew lookups limit chain now next × (is_done next n ≡ true) × (length next + length chain ≤ limit) × IsClear asked (path_in n next)
VisitGrew lookups limit chain asked now n (next, Missing) = Unit {0}
VisitGrew lookups limit chain asked now n (next, Faulted fault) = Unit {0}

abbrev ImportsGrew : (List ℕ → Lookup) → ℕ → List (List ℕ) → List Done → List (List ℕ) → List (List ℕ) → List Done × Option Fault → Type 0
ImportsGrew lookups limit chain now seen ms (next, None) = Grew lookups limit chain now next × AreTaken next seen ms
ImportsGrew lookups limit chain now seen ms (next, Some fault) = Unit {0}

module _ (lookups : List ℕ → Lookup) (limit : ℕ) (chain : List (List ℕ)) where
  -- an import that is finished, before the others
  imports_more : (now next : List Done) (seen : List (List ℕ)) (m : List ℕ) (ms : List (List ℕ)) (r : List Done × Option Fault)
      → among seen m ≡ false → escapes m ≡ false → Grew lookups limit chain now next → is_done next m ≡ true
      → ImportsGrew lookups limit chain next (seen ++ m ∷ []) ms r → ImportsGrew lookups limit chain now seen (m ∷ ms) r
  imports_more now next seen m ms (last, None) once inside grew there h =
      (grew_joined grew h.0, (once, inside, grew_done h.0 m there, h.1))
  imports_more now next seen m ms (last, Some fault) once inside grew there h = tt

  after_grew : (now : List Done) (seen : List (List ℕ)) (m : List ℕ) (ms : List (List ℕ)) (n : List ℕ) (i : ℕ) (place : Option (ℕ × ℕ))
      (v : List Done × Visited) (rest : List Done → List Done × Option Fault) → among seen m ≡ false → escapes m ≡ false
      → VisitGrew lookups limit chain None now m v → ((d : List Done) → ImportsGrew lookups limit chain d (seen ++ m ∷ []) ms (rest d))
      → ImportsGrew lookups limit chain now seen (m ∷ ms) (after_visit n i place m v rest)
  after_grew now seen m ms n i place (next, Finished) rest once inside h k = imports_more now next seen m ms (rest next) once inside h.0 h.1 (k next)
  after_grew now seen m ms n i place (next, Missing) rest once inside h k = tt
  after_grew now seen m ms n i place (next, Faulted fault) rest once inside h k = tt

  imports_grew : (v : List Done → List ℕ → List Done × Visited)
      → ((d : List Done) (m : List ℕ) → among chain m ≡ false → is_done d m ≡ false → VisitGrew lookups limit chain None d m (v d m))
      → (n : List ℕ) (places : ℕ → Option (ℕ × ℕ)) (seen ms : List (List ℕ)) (now : List Done)
      → ImportsGrew lookups limit chain now seen ms (visit_imports v chain n places seen ms now)
  imports_grew v k n places seen [] now = (grew_same now, tt)
  imports_grew v k n places seen (m ∷ ms) now =
      by_test P (among seen m) (now, Some (Duplicate n (length seen) (places (length seen)) m)) _ (λ e. tt) (λ once.
      by_test P (escapes m) (now, Some (Escapes n (length seen) (places (length seen)) m)) _ (λ e. tt) (λ inside.
      by_test P (among chain m) (now, Some (Circular m (chain_text (reverse (m ∷ chain))))) _ (λ e. tt) (λ closed.
      by_test P (is_done now m) (visit_imports v chain n places (seen ++ m ∷ []) ms now)
      (after_visit n (length seen) (places (length seen)) m (v now m) (visit_imports v chain n places (seen ++ m ∷ []) ms))
      (λ there. imports_more now now seen m ms _ once inside (grew_same now) there (imports_grew v k n places (seen ++ m ∷ []) ms now))
      (λ new. after_grew now seen m ms n (length seen) (places (length seen)) (v now m) _ once inside (k now m closed new)
      (imports_grew v k n places (seen ++ m ∷ []) ms)))))
    where
      P : List Done × Option Fault → Type 0
      P r = ImportsGrew lookups limit chain now seen (m ∷ ms) r

  -- a file behind its imports
  finish_grew : (asked : Option (List ℕ)) (now next : List Done) (n : List ℕ) (entry : Entry) → IsClear asked entry.path
      → length now + length chain + 1 ≤ limit → among chain n ≡ false
      → is_done now n ≡ false → lookups n ≡ IsFile entry → bytes_eq (declared_name entry) n ≡ true → keeps_rules (records next) entry.file ≡ true
      → Grew lookups limit (n ∷ chain) now next → AreTaken next [] (imports_of entry)
      → VisitGrew lookups limit chain asked now n (next ++ done_as next n entry ∷ [], Finished)
  finish_grew asked now next n entry clear room closed new found declared keeps grew taken =
      (whole, done_last next d, fits, subst (IsClear asked) (sym (path_last next d n last_new (same_bytes n))) clear)
    where
      d : Done
      d = done_as next n entry

      last_new : is_done next n ≡ false
      last_new = grew.away n (or_left (bytes_eq n n) (among chain n) (same_bytes n)) new

      settles : Settles lookups next d
      settles = record {
        entry = entry;
        lookup_is = found;
        declared = declared;
        path_is = refl;
        imported = refl;
        linked = record { keeps = keeps; is = refl };
        taken = taken;
        new = last_new;
        named = linked_name (records next) entry.file n keeps declared;
      }

      fits : length (next ++ d ∷ []) + length chain ≤ limit
      fits =
          let first : length now + length (n ∷ chain) ≤ limit = omega arith in
          let all : length next + length (n ∷ chain) ≤ limit = grew.within first in
          let more : length (next ++ d ∷ []) ≡ length next + 1 = length-append next (d ∷ []) in
          omega arith

      away : (c : List ℕ) → among chain c ≡ true → is_done now c ≡ false → is_done (next ++ d ∷ []) c ≡ false
      away c held k =
          is_done_push next d c (grew.away c (or_right (bytes_eq n c) (among chain c) held) k) (differ chain n c closed held)

      whole : Grew lookups limit chain now (next ++ d ∷ [])
      whole = record {
        more = grew.more ++ d ∷ [];
        is = ap (λ (l : List Done). l ++ d ∷ []) grew.is ∙ append_assoc now grew.more (d ∷ []);
        settle = all_joined lookups now grew.more (d ∷ []) grew.settle (subst (λ (l : List Done). Settles lookups l d) grew.is settles, tt);
        away = away;
        within = λ h. fits;
      }

  finish_by : (asked : Option (List ℕ)) (now : List Done) (n : List ℕ) (entry : Entry) (r : List Done × Option Fault)
      → IsClear asked entry.path → length now + length chain + 1 ≤ limit
      → among chain n ≡ false → is_done now n ≡ false → lookups n ≡ IsFile entry → bytes_eq (declared_name entry) n ≡ true
      → ImportsGrew lookups limit (n ∷ chain) now [] (imports_of entry) r → VisitGrew lookups limit chain asked now n (finish n entry r)
  finish_by asked now n entry (next, None) clear room closed new found declared h =
      by_test (VisitGrew lookups limit chain asked now n) (keeps_rules (records next) entry.file) (next ++ done_as next n entry ∷ [], Finished)
      (next, Faulted (Unlinked entry.file)) (λ keeps. finish_grew asked now next n entry clear room closed new found declared keeps h.0 h.1) (λ e. tt)
  finish_by asked now n entry (next, Some fault) clear room closed new found declared h = tt

module _ (P : List Done × Visited → Type 0) (missing : (d : List Done) → P (d, Missing)) (faulted : (d : List Done) (f : Fault) → P (d, Faulted f)) where
  shadow_grew : (n : List ℕ) (asked path : Option (List ℕ)) (done : List Done) (v : List Done × Visited) → (IsClear asked path → P v)
      → P (unless_shadowed n asked path done v)
  shadow_grew n None path done v h = h tt
  shadow_grew n (Some asked) None done v h = h tt
  shadow_grew n (Some asked) (Some path) done v h = by_test P (path_equal path asked) v _ h (λ e. faulted done _)

  lookup_grew : (n : List ℕ) (asked : Option (List ℕ)) (lookup : Lookup) (done : List Done) (imports : Entry → List Done × Visited)
      → ((entry : Entry) → lookup ≡ IsFile entry → bytes_eq (declared_name entry) n ≡ true → IsClear asked entry.path → P (imports entry))
      → P (visit_lookup n asked lookup done imports)
  lookup_grew n asked Unread done imports k = faulted done _
  lookup_grew n asked NoFile done imports k = missing done
  lookup_grew n asked (TextFault kind) done imports k = faulted done _
  lookup_grew n asked (IsFile entry) done imports k =
      by_test P (bytes_eq (declared_name entry) n) (unless_shadowed n asked entry.path done (imports entry)) _
      (λ e. shadow_grew n asked entry.path done (imports entry) (k entry refl e)) (λ e. faulted done _)

pub visit_grew : (lookups : List ℕ → Lookup) (limit room : ℕ) (chain : List (List ℕ)) (asked : Option (List ℕ)) (n : List ℕ) (now : List Done)
    → among chain n ≡ false → is_done now n ≡ false → VisitGrew lookups limit chain asked now n (visit lookups limit room chain asked n now)
unfolding visit
visit_grew lookups limit zero chain asked n now closed new = tt
visit_grew lookups limit (suc room) chain asked n now closed new =
    by_test (VisitGrew lookups limit chain asked now n) (nat_lt limit (length now + length chain + 1)) (now, Faulted (Limit limit)) _ (λ full. tt) (λ fits.
    lookup_grew (VisitGrew lookups limit chain asked now n) (λ d. tt) (λ d f. tt) n asked (lookups n) now _ (λ entry found declared clear.
    finish_by lookups limit chain asked now n entry _ clear (ltb-false limit (length now + length chain + 1) fits) closed new found declared
    (imports_grew lookups limit (n ∷ chain) (λ d m. visit lookups limit room (n ∷ chain) None m d)
    (λ d m c e. visit_grew lookups limit room (n ∷ chain) None m d c e) n (place_of_import entry) [] (imports_of entry) now)))
