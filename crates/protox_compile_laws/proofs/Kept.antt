-- What a walk leaves, however it ends: names that are open stay unfinished, and the limit is kept.
use Rattle.std.proofs.Common.{◌≡◌, ◌+◌, ◌≤◌, ◌∷◌, ◌++◌, [], ℕ, zero, suc, List, true, false, refl, length, arith}
use Rattle.std.specs.Prelude.{nat_lt, reverse, Option, Some, None}
use Rattle.std.specs.Str.{bytes_eq}
use Rattle.std.proofs.lemmas.Bool.{ltb-false}
use Rattle.std.proofs.lemmas.List.{length-append}
use Rattle.pbx_link_definitions.specs.Names.{among}
use Rattle.pbx_link_rules.specs.Breaches.{keeps_rules}
use Rattle.pbx_link_rules.proofs.Lists.{or_left, or_right}
use Rattle.protox_io.specs.FileNames.{path_equal, escapes}
use Rattle.protox_file_sources.specs.Told.{Entry, Lookup, NoFile, IsFile, TextFault, Unread}
use Rattle.protox_compile_walk.specs.Places.{place_of_import}
use Rattle.protox_compile_walk.specs.Walk.{Done, Fault, Limit, Text, Mismatch, Shadowed, NotRead, Duplicate, Escapes, Circular, Unlinked}
use Rattle.protox_compile_walk.specs.Walk.{Visited, Finished, Missing, Faulted, records, imports_of, declared_name, done_as, is_done, chain_text}
use Rattle.protox_compile_walk.specs.Walk.{after_visit, visit_imports, finish, unless_shadowed, visit_lookup, visit}
use Rattle.protox_compile_walk.proofs.Right.{same_bytes}
use Rattle.protox_compile_walk.proofs.Fresh.{is_done_push}
use Rattle.protox_compile_laws.proofs.First.{by_test, differ}

pub record Kept (limit : ℕ) (chain : List (List ℕ)) (now next : List Done) : Type 0 where
  pub away : (c : List ℕ) → among chain c ≡ true → is_done now c ≡ false → is_done next c ≡ false
  pub within : length now + length chain ≤ limit → length next + length chain ≤ limit

-- the name that was visited stands last, where it was finished, and else nowhere, and there is room for it
abbrev pub EndsAt : ℕ → List (List ℕ) → List ℕ → List Done × Visited → Type 0
EndsAt limit chain n (next, Finished) =
    (front : List Done) × (d : Done) × (next ≡ front ++ d ∷ []) × (is_done front n ≡ false) × (d.name ≡ n) × (length next + length chain ≤ limit)
EndsAt limit chain n (next, Missing) = (is_done next n ≡ false) × (length next + length chain + 1 ≤ limit)
EndsAt limit chain n (next, Faulted fault) = (is_done next n ≡ false) × (length next + length chain + 1 ≤ limit)

-- the same, of a visit that there may be no room for
abbrev pub LeavesAt : List ℕ → List Done × Visited → Type 0
LeavesAt n (next, Finished) = (front : List Done) × (d : Done) × (next ≡ front ++ d ∷ []) × (is_done front n ≡ false) × (d.name ≡ n)
LeavesAt n (next, Missing) = is_done next n ≡ false
LeavesAt n (next, Faulted fault) = is_done next n ≡ false

leaves_at : (limit : ℕ) (chain : List (List ℕ)) (n : List ℕ) (v : List Done × Visited) → EndsAt limit chain n v → LeavesAt n v
leaves_at limit chain n (next, Finished) h = (h.0, h.1, h.2, h.3, h.4)
leaves_at limit chain n (next, Missing) h = h.0
leaves_at limit chain n (next, Faulted fault) h = h.0

module _ (limit : ℕ) (chain : List (List ℕ)) where
  kept_same : (now : List Done) → Kept limit chain now now
  kept_same now = record { away = λ c held new. new; within = λ h. h }

  kept_joined : {a b c : List Done} → Kept limit chain a b → Kept limit chain b c → Kept limit chain a c
  kept_joined p q = record { away = λ n held new. q.away n held (p.away n held new); within = λ h. q.within (p.within h) }

  abbrev VisitKept : List Done → List ℕ → List Done × Visited → Type 0
  VisitKept now n v = Kept limit chain now v.0 × LeavesAt n v

  after_kept : (now : List Done) (n : List ℕ) (i : ℕ) (place : Option (ℕ × ℕ)) (m : List ℕ) (v : List Done × Visited)
      (rest : List Done → List Done × Option Fault) → Kept limit chain now v.0 → ((d : List Done) → Kept limit chain d (rest d).0)
      → Kept limit chain now (after_visit n i place m v rest).0
  after_kept now n i place m (d, Finished) rest h k = kept_joined h (k d)
  after_kept now n i place m (d, Missing) rest h k = h
  after_kept now n i place m (d, Faulted fault) rest h k = h

  pub imports_kept : (v : List Done → List ℕ → List Done × Visited)
      → ((d : List Done) (m : List ℕ) → among chain m ≡ false → is_done d m ≡ false → Kept limit chain d (v d m).0)
      → (n : List ℕ) (places : ℕ → Option (ℕ × ℕ)) (seen ms : List (List ℕ)) (now : List Done)
      → Kept limit chain now (visit_imports v chain n places seen ms now).0
  imports_kept v k n places seen [] now = kept_same now
  imports_kept v k n places seen (m ∷ ms) now =
      by_test P (among seen m) (now, Some (Duplicate n (length seen) (places (length seen)) m)) _ (λ e. kept_same now) (λ once.
      by_test P (escapes m) (now, Some (Escapes n (length seen) (places (length seen)) m)) _ (λ e. kept_same now) (λ inside.
      by_test P (among chain m) (now, Some (Circular m (chain_text (reverse (m ∷ chain))))) _ (λ e. kept_same now) (λ closed.
      by_test P (is_done now m) (visit_imports v chain n places (seen ++ m ∷ []) ms now)
      (after_visit n (length seen) (places (length seen)) m (v now m) (visit_imports v chain n places (seen ++ m ∷ []) ms))
      (λ there. imports_kept v k n places (seen ++ m ∷ []) ms now)
      (λ new. after_kept now n (length seen) (places (length seen)) m (v now m) _ (k now m closed new)
      (imports_kept v k n places (seen ++ m ∷ []) ms)))))
    where
      P : List Done × Option Fault → Type 0
      P r = Kept limit chain now r.0

-- a visit for which there is room
abbrev pub InnerKept : ℕ → List (List ℕ) → List Done → List ℕ → List Done × Visited → Type 0
InnerKept limit chain now n v = Kept limit chain now v.0 × EndsAt limit chain n v

module _ (limit : ℕ) (chain : List (List ℕ)) (now : List Done) (n : List ℕ) (room : length now + length chain + 1 ≤ limit) (closed : among chain n ≡ false) (new : is_done now n ≡ false) where
  open_kept : (next : List Done) → Kept limit (n ∷ chain) now next
      → Kept limit chain now next × (is_done next n ≡ false) × (length next + length chain + 1 ≤ limit)
  open_kept next k =
      let first : length now + length (n ∷ chain) ≤ limit = omega arith in
      let all : length next + length (n ∷ chain) ≤ limit = k.within first in
      let more : length next + length chain + 1 ≤ limit = omega arith in (
        record { away = λ c held e. k.away c (or_right (bytes_eq n c) (among chain c) held) e; within = λ h. omega arith },
        k.away n (or_left (bytes_eq n n) (among chain n) (same_bytes n)) new,
        more,
      )

  faulted_kept : (next : List Done) (fault : Fault) → Kept limit (n ∷ chain) now next → InnerKept limit chain now n (next, Faulted fault)
  faulted_kept next fault k = let h = open_kept next k in (h.0, (h.1, h.2))

  finished_kept : (next : List Done) (entry : Entry) → Kept limit (n ∷ chain) now next
      → InnerKept limit chain now n (next ++ done_as next n entry ∷ [], Finished)
  finished_kept next entry k =
      let h = open_kept next k in
      let more : length (next ++ done_as next n entry ∷ []) ≡ length next + 1 = length-append next (done_as next n entry ∷ []) in
      let fits : length (next ++ done_as next n entry ∷ []) + length chain ≤ limit = (let few : length next + length chain + 1 ≤ limit = h.2 in omega arith) in (
        record {
          away = λ c held e. is_done_push next (done_as next n entry) c (h.0.away c held e) (differ chain n c closed held);
          within = λ w. fits;
        },
        (next, done_as next n entry, refl, h.1, refl, fits),
      )

  finish_kept : (entry : Entry) (r : List Done × Option Fault) → Kept limit (n ∷ chain) now r.0 → InnerKept limit chain now n (finish n entry r)
  finish_kept entry (next, None) k =
      by_test (InnerKept limit chain now n) (keeps_rules (records next) entry.file) (next ++ done_as next n entry ∷ [], Finished)
      (next, Faulted (Unlinked entry.file)) (λ e. finished_kept next entry k) (λ e. faulted_kept next (Unlinked entry.file) k)
  finish_kept entry (next, Some fault) k = faulted_kept next fault k

  -- what is left as it was
  stays_kept : Kept limit (n ∷ chain) now now
  stays_kept = kept_same limit (n ∷ chain) now

  missing_kept : InnerKept limit chain now n (now, Missing)
  missing_kept = let h = open_kept now stays_kept in (h.0, (h.1, h.2))

  shadow_kept : (asked path : Option (List ℕ)) (v : List Done × Visited) → InnerKept limit chain now n v
      → InnerKept limit chain now n (unless_shadowed n asked path now v)
  shadow_kept None path v h = h
  shadow_kept (Some asked) None v h = h
  shadow_kept (Some asked) (Some path) v h =
      by_test (InnerKept limit chain now n) (path_equal path asked) v (now, Faulted (Shadowed n asked path)) (λ e. h)
      (λ e. faulted_kept now (Shadowed n asked path) stays_kept)

  lookup_kept : (asked : Option (List ℕ)) (lookup : Lookup) (imports : Entry → List Done × Visited)
      → ((entry : Entry) → InnerKept limit chain now n (imports entry)) → InnerKept limit chain now n (visit_lookup n asked lookup now imports)
  lookup_kept asked Unread imports k = faulted_kept now (NotRead n) stays_kept
  lookup_kept asked NoFile imports k = missing_kept
  lookup_kept asked (TextFault kind) imports k = faulted_kept now (Text n kind) stays_kept
  lookup_kept asked (IsFile entry) imports k =
      by_test (InnerKept limit chain now n) (bytes_eq (declared_name entry) n) (unless_shadowed n asked entry.path now (imports entry))
      (now, Faulted (Mismatch n (declared_name entry)))
      (λ e. shadow_kept asked entry.path (imports entry) (k entry)) (λ e. faulted_kept now (Mismatch n (declared_name entry)) stays_kept)

module _ (lookups : List ℕ → Lookup) (limit : ℕ) where
  -- the visit of a name that there is room for
  abbrev pub inner : ℕ → List (List ℕ) → Option (List ℕ) → List ℕ → List Done → List Done × Visited
  inner room chain asked n now = visit_lookup n asked (lookups n) now (λ entry.
      finish n entry (visit_imports (λ d m. visit lookups limit room (n ∷ chain) None m d) (n ∷ chain) n (place_of_import entry) [] (imports_of entry) now))

pub inner_kept : (lookups : List ℕ → Lookup) (limit room : ℕ) (chain : List (List ℕ)) (asked : Option (List ℕ)) (n : List ℕ) (now : List Done)
    → length now + length chain + 1 ≤ limit → among chain n ≡ false → is_done now n ≡ false
    → ((m : List ℕ) (d : List Done) → among (n ∷ chain) m ≡ false → is_done d m ≡ false → Kept limit (n ∷ chain) d (visit lookups limit room (n ∷ chain) None m d).0)
    → InnerKept limit chain now n (inner lookups limit room chain asked n now)
inner_kept lookups limit room chain asked n now fits closed new k =
    lookup_kept limit chain now n fits closed new asked (lookups n) _ (λ entry. finish_kept limit chain now n fits closed new entry _
    (imports_kept limit (n ∷ chain) (λ d m. visit lookups limit room (n ∷ chain) None m d) (λ d m c e. k m d c e) n (place_of_import entry) [] (imports_of entry) now))

pub visit_kept : (lookups : List ℕ → Lookup) (limit room : ℕ) (chain : List (List ℕ)) (asked : Option (List ℕ)) (n : List ℕ) (now : List Done)
    → among chain n ≡ false → is_done now n ≡ false
    → Kept limit chain now (visit lookups limit room chain asked n now).0 × LeavesAt n (visit lookups limit room chain asked n now)
unfolding visit
visit_kept lookups limit zero chain asked n now closed new = (kept_same limit chain now, new)
visit_kept lookups limit (suc room) chain asked n now closed new =
    by_test (VisitKept limit chain now n) (nat_lt limit (length now + length chain + 1)) (now, Faulted (Limit limit)) (inner lookups limit room chain asked n now)
    (λ full. (kept_same limit chain now, new)) (λ fits.
    let h = inner_kept lookups limit room chain asked n now (ltb-false limit (length now + length chain + 1) fits) closed new
    (λ m d c e. (visit_kept lookups limit room (n ∷ chain) None m d c e).0) in
    (h.0, leaves_at limit chain n (inner lookups limit room chain asked n now) h.1))
