-- A walk from a front of the files that it finishes comes to what it came to.
use Rattle.std.proofs.Common.{◌≡◌, ◌⊎◌, inl, inr, ◌+◌, ◌≤◌, ◌∷◌, ◌++◌, ◌∙◌, [], ℕ, zero, suc, List, Bool, true, false, refl, sym, ap, subst, length, arith}
use Rattle.std.specs.Prelude.{nat_lt, if◌then◌else◌, reverse, Option, Some, None}
use Rattle.std.specs.Str.{bytes_eq}
use Rattle.std.proofs.lemmas.Bool.{ltb-false, le-ltb}
use Rattle.std.proofs.lemmas.List.{length-append}
use Rattle.pbx_link_definitions.specs.Names.{among}
use Rattle.pbx_link_rules.specs.Breaches.{keeps_rules}
use Rattle.protox_io.specs.FileNames.{path_equal, escapes}
use Rattle.protox_file_sources.specs.Told.{Entry, Lookup, NoFile, IsFile, TextFault, Unread}
use Rattle.protox_compile_walk.specs.Places.{place_of_import}
use Rattle.protox_compile_walk.specs.Walk.{Done, Fault, Limit, Text, Mismatch, Shadowed, Duplicate, Escapes, Circular, Unlinked, NotRead}
use Rattle.protox_compile_walk.specs.Walk.{Visited, Finished, Missing, Faulted, records, imports_of, declared_name, done_as, is_done, chain_text}
use Rattle.protox_compile_walk.specs.Walk.{after_visit, visit_imports, finish, unless_shadowed, visit_lookup, visit}
use Rattle.protox_compile_walk.specs.Refusals.{Extends}
use Rattle.protox_compile_walk.proofs.Extends.{imports_extend, visit_extends}
use Rattle.protox_compile_laws.proofs.Fronts.{two_fronts, same_fronts, whole_or_short, done_front, new_front, short_front, length_front}
use Rattle.protox_compile_laws.proofs.First.{done_last}
use Rattle.protox_compile_laws.proofs.Kept.{EndsAt, LeavesAt, inner, inner_kept, visit_kept}

false_true : {P : Type 0} (b : Bool) → b ≡ true → b ≡ false → P
false_true b t f = let wrong : true ≡ false = sym t ∙ f in absurd cc

-- ---- parts of a walk, from these files and from a front of those that it finishes

module _ {R : Type 0} (d m : List Done) (ext : Extends d m) where
  -- what changes nothing
  still : (f : List Done → R) → Extends m d → f m ≡ f d
  still f back = ap f (same_fronts ext back)

  cond_resumed : (b : Bool) (f g : List Done → List Done × R) → (b ≡ true → Extends m (f d).0 → f m ≡ f d) → (b ≡ false → Extends m (g d).0 → g m ≡ g d)
      → Extends m (if b then f d else g d).0 → (if b then f m else g m) ≡ (if b then f d else g d)
  cond_resumed true f g p q h = p refl h
  cond_resumed false f g p q h = q refl h

module _ (d m : List Done) (ext : Extends d m) (n : List ℕ) where
  shadow_resumed : (asked path : Option (List ℕ)) (f g : List Done × Visited) → (Extends m g.0 → f ≡ g)
      → Extends m (unless_shadowed n asked path d g).0 → unless_shadowed n asked path m f ≡ unless_shadowed n asked path d g
  shadow_resumed None path f g k h = k h
  shadow_resumed (Some asked) None f g k h = k h
  shadow_resumed (Some asked) (Some path) f g k h = at (path_equal path asked) h
    where
      at : (b : Bool) → Extends m (if b then g else (d, Faulted (Shadowed n asked path))).0
          → (if b then f else (m, Faulted (Shadowed n asked path))) ≡ (if b then g else (d, Faulted (Shadowed n asked path)))
      at true h = k h
      at false h = still d m ext (λ l. (l, Faulted (Shadowed n asked path))) h

  lookup_resumed : (asked : Option (List ℕ)) (lookup : Lookup) (f g : Entry → List Done × Visited) → ((entry : Entry) → Extends m (g entry).0 → f entry ≡ g entry)
      → Extends m (visit_lookup n asked lookup d g).0 → visit_lookup n asked lookup m f ≡ visit_lookup n asked lookup d g
  lookup_resumed asked Unread f g k h = still d m ext (λ l. (l, Faulted (NotRead n))) h
  lookup_resumed asked NoFile f g k h = still d m ext (λ l. (l, Missing)) h
  lookup_resumed asked (TextFault kind) f g k h = still d m ext (λ l. (l, Faulted (Text n kind))) h
  lookup_resumed asked (IsFile entry) f g k h = at (bytes_eq (declared_name entry) n) h
    where
      at : (b : Bool) → Extends m (if b then unless_shadowed n asked entry.path d (g entry) else (d, Faulted (Mismatch n (declared_name entry)))).0
          → (if b then unless_shadowed n asked entry.path m (f entry) else (m, Faulted (Mismatch n (declared_name entry))))
          ≡ (if b then unless_shadowed n asked entry.path d (g entry) else (d, Faulted (Mismatch n (declared_name entry))))
      at true h = shadow_resumed asked entry.path (f entry) (g entry) (k entry) h
      at false h = still d m ext (λ l. (l, Faulted (Mismatch n (declared_name entry)))) h

-- the files without the one whose imports were visited
finish_front : (m : List Done) (n : List ℕ) (entry : Entry) (r : List Done × Option Fault) → is_done m n ≡ false → Extends m (finish n entry r).0 → Extends m r.0
finish_front m n entry (next, None) new h = at (keeps_rules (records next) entry.file) h
  where
    ends : Bool → List Done × Visited
    ends b = if b then (next ++ done_as next n entry ∷ [], Finished) else (next, Faulted (Unlinked entry.file))

    at : (b : Bool) → Extends m (ends b).0 → Extends m next
    at true h = short_front m next (done_as next n entry) new h
    at false h = h
finish_front m n entry (next, Some fault) new h = h

-- there is room for a front without the name that is visited
front_fits : (limit : ℕ) (chain : List (List ℕ)) (m : List Done) (n : List ℕ) (v : List Done × Visited) → EndsAt limit chain n v → is_done m n ≡ false → Extends m v.0
    → length m + length chain + 1 ≤ limit
front_fits limit chain m n (next, Finished) h new e =
    let P : List Done → Type 0 = λ l. Extends m l in
    let Q : List ℕ → Type 0 = λ x. is_done m x ≡ false in
    let short : Extends m h.0 = short_front m h.0 h.1 (subst Q (sym h.4) new) (subst P h.2 e) in
    let less : length m ≤ length h.0 = length_front short in
    let whole : length next ≡ length h.0 + 1 = ap (λ (l : List Done). length l) h.2 ∙ length-append h.0 (h.1 ∷ []) in
    let few : length next + length chain ≤ limit = h.5 in
    omega arith
front_fits limit chain m n (next, Missing) h new e = let less : length m ≤ length next = length_front e in let few : length next + length chain + 1 ≤ limit = h.1 in omega arith
front_fits limit chain m n (next, Faulted fault) h new e =
    let less : length m ≤ length next = length_front e in let few : length next + length chain + 1 ≤ limit = h.1 in omega arith

-- ---- imports

-- the visit of a name from a front of what it finishes, in which the name is not
abbrev pub VisitResumed : (List Done → List ℕ → List Done × Visited) → List (List ℕ) → Type 0
VisitResumed v chain =
    (d m : List Done) (x : List ℕ) → among chain x ≡ false → is_done m x ≡ false → Extends d m → Extends m (v d x).0 → v m x ≡ v d x

module _ (v : List Done → List ℕ → List Done × Visited) (chain : List (List ℕ)) (n : List ℕ) (places : ℕ → Option (ℕ × ℕ))
    (extend : (d : List Done) (x : List ℕ) → Extends d (v d x).0)
    (leaves : (d : List Done) (x : List ℕ) → among chain x ≡ false → is_done d x ≡ false → LeavesAt x (v d x))
    (resumed : VisitResumed v chain) where
  -- past an import that was visited
  module _ (d m : List Done) (x : List ℕ) (closed : among chain x ≡ false) (new : is_done d x ≡ false) (ext : Extends d m) (i : ℕ) (place : Option (ℕ × ℕ))
      (rest : List Done → List Done × Option Fault) (more : (l : List Done) → Extends l (rest l).0)
      (go : (l : List Done) → Extends l m → Extends m (rest l).0 → rest m ≡ rest l) where
    -- the import is finished in the front
    there : is_done m x ≡ true → (u : List Done × Visited) → LeavesAt x u → Extends m (after_visit n i place x u rest).0 → rest m ≡ after_visit n i place x u rest
    there held (next, Finished) l h = by_front (two_fronts h (more next))
      where
        by_last : (m ≡ next) ⊎ Extends m l.0 → rest m ≡ rest next
        by_last (inl same) = ap rest same
        by_last (inr short) = false_true (is_done m x) held (new_front short x l.3)

        by_front : Extends m next ⊎ Extends next m → rest m ≡ rest next
        by_front (inl e) = by_last (whole_or_short m next l.0 l.1 l.2 e)
        by_front (inr e) = go next e h
    there held (next, Missing) l h = false_true (is_done m x) held (new_front h x l)
    there held (next, Faulted fault) l h = false_true (is_done m x) held (new_front h x l)

    -- it is not: the front is one of what the visit of the import finishes
    inside : is_done m x ≡ false → (u : List Done × Visited) → LeavesAt x u → Extends m (after_visit n i place x u rest).0 → Extends m u.0
    inside missing (next, Finished) l h = by_front (two_fronts h (more next))
      where
        last_done : is_done next x ≡ true
        last_done =
            let P : List ℕ → Type 0 = λ name. is_done (l.0 ++ l.1 ∷ []) name ≡ true in
            ap (λ (ds : List Done). is_done ds x) l.2 ∙ subst P l.4 (done_last l.0 l.1)

        by_front : Extends m next ⊎ Extends next m → Extends m next
        by_front (inl e) = e
        by_front (inr e) = false_true (is_done m x) (done_front e x last_done) missing
    inside missing (next, Missing) l h = h
    inside missing (next, Faulted fault) l h = h

    visited : Extends m (after_visit n i place x (v d x) rest).0
        → (if is_done m x then rest m else after_visit n i place x (v m x) rest) ≡ after_visit n i place x (v d x) rest
    visited h = at (is_done m x) refl
      where
        at : (b : Bool) → is_done m x ≡ b → (if b then rest m else after_visit n i place x (v m x) rest) ≡ after_visit n i place x (v d x) rest
        at true e = there e (v d x) (leaves d x closed new) h
        at false e =
            ap (λ (u : List Done × Visited). after_visit n i place x u rest)
            (resumed d m x closed e ext (inside e (v d x) (leaves d x closed new) h))

  pub imports_resumed : (seen ms : List (List ℕ)) (d m : List Done) → Extends d m → Extends m (visit_imports v chain n places seen ms d).0
      → visit_imports v chain n places seen ms m ≡ visit_imports v chain n places seen ms d
  imports_resumed seen [] d m ext h = still d m ext (λ l. (l, None)) h
  imports_resumed seen (x ∷ ms) d m ext h =
      cond_resumed d m ext (among seen x) duplicate past_seen (λ e k. still d m ext duplicate k) (λ once.
      cond_resumed d m ext (escapes x) escaped past_escapes (λ e k. still d m ext escaped k) (λ within.
      cond_resumed d m ext (among chain x) circular past_chain (λ e k. still d m ext circular k) (λ closed k.
      by_done closed (imports_resumed (seen ++ x ∷ []) ms) (is_done d x) refl k))) h
    where
      rest : List Done → List Done × Option Fault
      rest = visit_imports v chain n places (seen ++ x ∷ []) ms

      duplicate : List Done → List Done × Option Fault
      duplicate l = (l, Some (Duplicate n (length seen) (places (length seen)) x))

      escaped : List Done → List Done × Option Fault
      escaped l = (l, Some (Escapes n (length seen) (places (length seen)) x))

      circular : List Done → List Done × Option Fault
      circular l = (l, Some (Circular x (chain_text (reverse (x ∷ chain)))))

      past_chain : List Done → List Done × Option Fault
      past_chain l = if is_done l x then rest l else after_visit n (length seen) (places (length seen)) x (v l x) rest

      past_escapes : List Done → List Done × Option Fault
      past_escapes l = if among chain x then circular l else past_chain l

      past_seen : List Done → List Done × Option Fault
      past_seen l = if escapes x then escaped l else past_escapes l

      step : List Done → Bool → List Done × Option Fault
      step l b = if b then rest l else after_visit n (length seen) (places (length seen)) x (v l x) rest

      by_done : among chain x ≡ false → ((l k : List Done) → Extends l k → Extends k (rest l).0 → rest k ≡ rest l) → (b : Bool) → is_done d x ≡ b
          → Extends m (step d (is_done d x)).0 → step m (is_done m x) ≡ step d (is_done d x)
      by_done closed go true e k =
          let P : Bool → Type 0 = λ b. Extends m (step d b).0 in
          ap (step m) (done_front ext x e) ∙ go d m ext (subst P e k) ∙ sym (ap (step d) e)
      by_done closed go false e k =
          let P : Bool → Type 0 = λ b. Extends m (step d b).0 in
          visited d m x closed e ext (length seen) (places (length seen)) rest (imports_extend v extend chain n places (seen ++ x ∷ []) ms)
          (λ l f g. go l m f g) (subst P e k) ∙ sym (ap (step d) e)

-- ---- visits

pub visit_resumed : (lookups : List ℕ → Lookup) (limit room : ℕ) (chain : List (List ℕ)) (asked : Option (List ℕ)) (n : List ℕ) (d m : List Done)
    → among chain n ≡ false → is_done m n ≡ false → Extends d m → Extends m (visit lookups limit room chain asked n d).0
    → visit lookups limit room chain asked n m ≡ visit lookups limit room chain asked n d
unfolding visit
visit_resumed lookups limit zero chain asked n d m closed new ext h = still d m ext (λ l. (l, Faulted (Limit limit))) h
visit_resumed lookups limit (suc room) chain asked n d m closed new ext h =
    by_room (λ d k x c e f g. visit_resumed lookups limit room (n ∷ chain) None x d k c e f g) (nat_lt limit (length d + length chain + 1)) refl h
  where
    v : List Done → List ℕ → List Done × Visited
    v l x = visit lookups limit room (n ∷ chain) None x l

    test : List Done → Bool
    test l = nat_lt limit (length l + length chain + 1)

    step : List Done → Bool → List Done × Visited
    step l b = if b then (l, Faulted (Limit limit)) else inner lookups limit room chain asked n l

    inner_resumed : VisitResumed v (n ∷ chain) → Extends m (inner lookups limit room chain asked n d).0 → inner lookups limit room chain asked n m ≡ inner lookups limit room chain asked n d
    inner_resumed again k =
        lookup_resumed d m ext n asked (lookups n) _ _ (λ entry e. ap (finish n entry)
        (imports_resumed v (n ∷ chain) n (place_of_import entry) (λ l x. visit_extends lookups limit room (n ∷ chain) None x l)
        (λ l x c f. (visit_kept lookups limit room (n ∷ chain) None x l c f).1) again [] (imports_of entry) d m ext
        (finish_front m n entry _ new e))) k

    by_room : VisitResumed v (n ∷ chain) → (b : Bool) → test d ≡ b → Extends m (step d (test d)).0 → step m (test m) ≡ step d (test d)
    by_room again true e k =
        let P : Bool → Type 0 = λ b. Extends m (step d b).0 in
        still d m ext (λ l. step l (test l)) (subst P e k)
    by_room again false e k =
        let P : Bool → Type 0 = λ b. Extends m (step d b).0 in
        let front : Extends m (inner lookups limit room chain asked n d).0 = subst P e k in
        let fits : length d + length chain + 1 ≤ limit = ltb-false limit (length d + length chain + 1) e in
        let kept = inner_kept lookups limit room chain asked n d fits closed (new_front ext n new) (λ x l c f. (visit_kept lookups limit room (n ∷ chain) None x l c f).0) in
        let room_there : length m + length chain + 1 ≤ limit = front_fits limit chain m n (inner lookups limit room chain asked n d) kept.1 new front in
        ap (step m) (le-ltb limit (length m + length chain + 1) room_there) ∙ inner_resumed again front ∙ sym (ap (step d) e)
