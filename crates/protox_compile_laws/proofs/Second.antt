-- A walk over the names that another walk finished, in another order, finishes some of the same files.
use Rattle.std.proofs.Common.{◌≡◌, ◌+◌, ◌≤◌, ◌∷◌, ◌++◌, ◌∙◌, [], ℕ, zero, suc, List, Bool, true, false, refl, sym, ap, subst, length, append_assoc}
use Rattle.std.proofs.Common.{◌⊎◌, inl, inr, arith}
use Rattle.std.specs.Prelude.{◌||◌, ◌&&◌, nat_lt, if◌then◌else◌, reverse, Option, Some, None, Contains}
use Rattle.std.specs.List.{list_all}
use Rattle.std.specs.Str.{bytes_eq}
use Rattle.std.proofs.lemmas.Bool.{le-ltb, false≢true}
use Rattle.std.proofs.lemmas.List.{length-append, map-append}
use Rattle.std.proofs.lemmas.List.Folds.{list_any-append}
use Rattle.std.proofs.lemmas.List.Elements.{Contains-append_right, Contains-push_cases}
use Rattle.pbx_desc_records.specs.declared.file.FileDescriptorProto.{FileDescriptorProto}
use Rattle.pbx_link_definitions.specs.Names.{among, is_named}
use Rattle.pbx_link_scope.specs.Pooled.{has_file}
use Rattle.pbx_link_record.specs.Linked.{linked_record}
use Rattle.pbx_link_rules.specs.Breaches.{keeps_rules}
use Rattle.pbx_link_rules.specs.Pool.{IsLinked, ArePooled}
use Rattle.pbx_link_rules.specs.PoolLaws.{AreBehind}
use Rattle.pbx_link_rules.proofs.Lists.{here, there, or_left, or_right, or_cases}
use Rattle.pbx_link_order_laws.specs.OrderLaws.{AreAmong}
use Rattle.pbx_link_order_laws.proofs.Behind.{behind_joined}
use Rattle.pbx_link_order_laws.proofs.Searched.{no_item}
use Rattle.pbx_link_order_laws.proofs.Parts.{parts_link_alike}
use Rattle.protox_io.specs.FileNames.{path_equal, escapes}
use Rattle.protox_file_sources.specs.Told.{Entry, Lookup}
use Rattle.protox_compile_walk.specs.Places.{place_of_import}
use Rattle.protox_compile_walk.specs.Walk.{Done, Fault, Limit, Mismatch, Shadowed, Duplicate, Escapes, Circular, Unlinked}
use Rattle.protox_compile_walk.specs.Walk.{Visited, Finished, Missing, Faulted, records, imports_of, declared_name, done_as, is_done, chain_text}
use Rattle.protox_compile_walk.specs.Walk.{after_visit, visit_imports, finish, unless_shadowed, visit_lookup, visit}
use Rattle.protox_compile_walk.proofs.Right.{same_bytes, bytes_are}
use Rattle.protox_compile_walk.proofs.Fresh.{is_done_push}
use Rattle.protox_compile_laws.proofs.Settled.{plain, plain_one, records_plain, is_done_plain, AreTaken, Settles, AllSettle, one_settles, all_pooled}
use Rattle.protox_compile_laws.proofs.First.{by_test, differ, done_more, done_last, IsClear}

abbrev File : Type 0
File = FileDescriptorProto

-- ---- records by the names of their files

abbrev pub AreNamed : List Done → Type 0
AreNamed [] = Unit {0}
AreNamed (d ∷ ds) = (d.file.name ≡ Some d.name) × AreNamed ds

pub named_joined : (xs ys : List Done) → AreNamed xs → AreNamed ys → AreNamed (xs ++ ys)
named_joined [] ys h g = g
named_joined (x ∷ xs) ys h g = (h.0, named_joined xs ys h.1 g)

pub has_named : (ds : List Done) (n : List ℕ) → AreNamed ds → has_file (records ds) n ≡ is_done ds n
has_named [] n h = refl
has_named (d ∷ ds) n h = ap (λ (o : Option (List ℕ)). is_named o n || has_file (records ds) n) h.0 ∙ ap (λ b. bytes_eq d.name n || b) (has_named ds n h.1)

all_named : (ds : List Done) (names : List (List ℕ)) → AreNamed ds → list_all (has_file (records ds)) names ≡ list_all (is_done ds) names
all_named ds [] h = refl
all_named ds (n ∷ ns) h = ap (λ b. b && list_all (has_file (records ds)) ns) (has_named ds n h) ∙ ap (λ b. is_done ds n && b) (all_named ds ns h)

pub record_among : (ds : List Done) (f : File) → Contains (records ds) f → (d : Done) × Contains ds d × (d.file ≡ f)
record_among [] f c = absurd (no_item f c)
record_among (d ∷ ds) f (zero, lt, same) = (d, here d ds, same)
record_among (d ∷ ds) f (suc i, lt, same) =
    let r = record_among ds f (i, omega (arith, lt), same) in (r.0, there d r.0 ds r.1, r.2)

pub record_there : (ds : List Done) (d : Done) → Contains ds d → Contains (records ds) d.file
record_there [] d c = absurd (no_item d c)
record_there (x ∷ ds) d (zero, lt, same) = subst (λ (y : Done). Contains (records (x ∷ ds)) y.file) same (here x.file (records ds))
record_there (x ∷ ds) d (suc i, lt, same) = there x.file d.file (records ds) (record_there ds d (i, omega (arith, lt), same))

-- a finished name, and where its file stands
pub record Stands (done : List Done) (name : List ℕ) : Type 0 where
  pub before : List Done
  pub one : Done
  pub after : List Done
  pub split : done ≡ before ++ one ∷ after
  pub is : one.name ≡ name

pub stands : (done : List Done) (name : List ℕ) → is_done done name ≡ true → Stands done name
stands [] name h = absurd (false≢true h)
stands (d ∷ ds) name h = at (bytes_eq d.name name) refl h (stands ds name)
  where
    later : Stands ds name → Stands (d ∷ ds) name
    later s = record { before = d ∷ s.before; one = s.one; after = s.after; split = ap (λ (l : List Done). d ∷ l) s.split; is = s.is }

    at : (b : Bool) → bytes_eq d.name name ≡ b → (b || is_done ds name) ≡ true → (is_done ds name ≡ true → Stands ds name) → Stands (d ∷ ds) name
    at true e k ih = record { before = []; one = d; after = ds; split = refl; is = bytes_are d.name name e }
    at false e k ih = later (ih k)

-- a name is finished in the first files or in the others
pub done_second : (xs ys : List Done) (name : List ℕ) → is_done (xs ++ ys) name ≡ true → is_done xs name ≡ false → is_done ys name ≡ true
done_second xs ys name h new =
    ap (λ b. b || is_done ys name) (sym new) ∙ sym (list_any-append (λ (d : Done). bytes_eq d.name name) xs ys) ∙ h

pub not_done_front : (xs ys : List Done) (name : List ℕ) → is_done (xs ++ ys) name ≡ false → is_done xs name ≡ false
not_done_front xs ys name h = at (is_done xs name) refl
  where
    at : (b : Bool) → is_done xs name ≡ b → b ≡ false
    at true e = let wrong : true ≡ false = sym (done_more xs ys name e) ∙ h in absurd cc
    at false e = refl

pub not_both : {b : Bool} → b ≡ true → b ≡ false → ⊥
not_both {b} e f = false≢true (sym f ∙ e)

pub no_more : (b : Bool) → (b ≡ true → ⊥) → b ≡ false
no_more true h = absurd (h refl)
no_more false h = refl

-- ---- files that are neither finished nor open

abbrev one_free : Bool → ℕ
one_free true = 0
one_free false = 1

abbrev pub free : List (List ℕ) → List Done → List Done → ℕ
free chain now [] = 0
free chain now (d ∷ ds) = one_free (is_done now d.name || among chain d.name) + free chain now ds

one_free_less : (a b c : Bool) → one_free (a || (b || c)) ≤ one_free (a || c)
one_free_less true b c = omega arith
one_free_less false true true = omega arith
one_free_less false true false = omega arith
one_free_less false false c = omega arith

free_less : (chain : List (List ℕ)) (now : List Done) (n : List ℕ) (ds : List Done) → free (n ∷ chain) now ds ≤ free chain now ds
free_less chain now n [] = omega arith
free_less chain now n (d ∷ ds) =
    let first : one_free (is_done now d.name || (bytes_eq n d.name || among chain d.name)) ≤ one_free (is_done now d.name || among chain d.name) =
    one_free_less (is_done now d.name) (bytes_eq n d.name) (among chain d.name) in
    let rest : free (n ∷ chain) now ds ≤ free chain now ds = free_less chain now n ds in
    omega arith

free_open : (chain : List (List ℕ)) (now : List Done) (d : Done) (b a : List Done) → is_done now d.name ≡ false → among chain d.name ≡ false
    → free (d.name ∷ chain) now (b ++ d ∷ a) + 1 ≤ free chain now (b ++ d ∷ a)
free_open chain now d [] a new closed =
    let rest : free (d.name ∷ chain) now a ≤ free chain now a = free_less chain now d.name a in
    let none : one_free (is_done now d.name || (bytes_eq d.name d.name || among chain d.name)) ≡ 0 =
    ap (λ b. one_free (is_done now d.name || (b || among chain d.name))) (same_bytes d.name)
    ∙ ap (λ b. one_free b) (or_right (is_done now d.name) true refl) in
    let one : one_free (is_done now d.name || among chain d.name) ≡ 1 =
    ap (λ b. one_free (b || among chain d.name)) new ∙ ap (λ b. one_free b) closed in
    omega arith
free_open chain now d (x ∷ b) a new closed =
    let first : one_free (is_done now x.name || (bytes_eq d.name x.name || among chain x.name)) ≤ one_free (is_done now x.name || among chain x.name) =
    one_free_less (is_done now x.name) (bytes_eq d.name x.name) (among chain x.name) in
    let rest : free (d.name ∷ chain) now (b ++ d ∷ a) + 1 ≤ free chain now (b ++ d ∷ a) = free_open chain now d b a new closed in
    omega arith

shift : (a b c : Bool) → ((a || (b || false)) || c) ≡ (a || (b || c))
shift true b c = refl
shift false true c = refl
shift false false c = refl

free_finish : (chain : List (List ℕ)) (now : List Done) (x : Done) (ds : List Done) → free chain (now ++ x ∷ []) ds ≡ free (x.name ∷ chain) now ds
free_finish chain now x [] = refl
free_finish chain now x (d ∷ ds) =
    ap (λ b. one_free (b || among chain d.name) + free chain (now ++ x ∷ []) ds) (list_any-append (λ (y : Done). bytes_eq y.name d.name) now (x ∷ []))
    ∙ ap (λ b. one_free b + free chain (now ++ x ∷ []) ds) (shift (is_done now d.name) (bytes_eq x.name d.name) (among chain d.name))
    ∙ ap (λ k. one_free (is_done now d.name || (bytes_eq x.name d.name || among chain d.name)) + k) (free_finish chain now x ds)

pub free_alike : (a b : List Done) → ((c : List ℕ) → is_done a c ≡ is_done b c) → (chain : List (List ℕ)) (ds : List Done)
    → free chain a ds ≡ free chain b ds
free_alike a b same chain [] = refl
free_alike a b same chain (d ∷ ds) =
    ap (λ c. one_free (c || among chain d.name) + free chain a ds) (same d.name)
    ∙ ap (λ k. one_free (is_done b d.name || among chain d.name) + k) (free_alike a b same chain ds)

pub free_few : (chain : List (List ℕ)) (now ds : List Done) → free chain now ds ≤ length ds
free_few chain now [] = omega arith
free_few chain now (d ∷ ds) = at (is_done now d.name || among chain d.name) (free_few chain now ds)
  where
    at : (b : Bool) → free chain now ds ≤ length ds → one_free b + free chain now ds ≤ length (d ∷ ds)
    at true h = omega (arith, h)
    at false h = omega (arith, h)

-- ---- what the first walk finished, behind the files at the start

pub record Base (lookups : List ℕ → Lookup) (limit : ℕ) (start all : List Done) : Type 0 where
  pub settle : AllSettle lookups start all
  pub fits : 1 ≤ length all → length start + length all ≤ limit
  pub named : AreNamed start
  pub behind : AreBehind [] (records start)

-- some of those files, behind the same files at the start
pub record IsPart (start all now : List Done) : Type 0 where
  pub some : List Done
  pub is : plain now ≡ start ++ some
  pub within : (x : Done) → Contains some x → Contains all x
  pub behind : AreBehind (records start) (records some)
  pub named : AreNamed some

-- a part that came of another while the files of the chain were open, with room for the other files
pub record Came (start all : List Done) (chain : List (List ℕ)) (now next : List Done) : Type 0 where
  pub part : IsPart start all next
  pub room : length next + length chain + free chain next all ≤ length start + length all
  pub away : (c : List ℕ) → among chain c ≡ true → is_done now c ≡ false → is_done next c ≡ false
  pub kept : (c : List ℕ) → is_done now c ≡ true → is_done next c ≡ true

abbrev pub VisitCame : List Done → List Done → List (List ℕ) → List Done → List ℕ → List Done × Visited → Type 0
VisitCame start all chain now n (next, Finished) = Came start all chain now next × (is_done next n ≡ true)
VisitCame start all chain now n (next, Missing) = ⊥
VisitCame start all chain now n (next, Faulted fault) = ⊥

abbrev ImportsCame : List Done → List Done → List (List ℕ) → List Done → List (List ℕ) → List Done × Option Fault → Type 0
ImportsCame start all chain now ms (next, None) = Came start all chain now next × (list_all (is_done next) ms ≡ true)
ImportsCame start all chain now ms (next, Some fault) = ⊥

came_joined : {start all : List Done} {chain : List (List ℕ)} {a b c : List Done} → Came start all chain a b → Came start all chain b c
    → Came start all chain a c
came_joined p q = record {
  part = q.part;
  room = q.room;
  away = λ n held new. q.away n held (p.away n held new);
  kept = λ n k. q.kept n (p.kept n k);
}

pub by_false : {A : Type 0} (P : A → Type 0) (b : Bool) (x y : A) → b ≡ false → P y → P (if b then x else y)
by_false P true x y e h = absurd cc
by_false P false x y e h = h

pub by_true : {A : Type 0} (P : A → Type 0) (b : Bool) (x y : A) → b ≡ true → P x → P (if b then x else y)
by_true P true x y e h = h
by_true P false x y e h = absurd cc

part_done : (start all now : List Done) → IsPart start all now → (n : List ℕ) → is_done start n ≡ true → is_done now n ≡ true
part_done start all now p n h = sym (is_done_plain now n) ∙ ap (λ (l : List Done). is_done l n) p.is ∙ done_more start p.some n h

-- ---- the imports of a file

module _ (start all : List Done) (chain : List (List ℕ)) (before : List Done)
    (below : (c : List ℕ) → among chain c ≡ true → is_done before c ≡ false) where
  imports_then : (now next : List Done) (m : List ℕ) (ms : List (List ℕ)) (r : List Done × Option Fault) → Came start all chain now next
      → is_done next m ≡ true → ImportsCame start all chain next ms r → ImportsCame start all chain now (m ∷ ms) r
  imports_then now next m ms (last, None) p there h =
      (came_joined p h.0, ap (λ b. b && list_all (is_done last) ms) (h.0.kept m there) ∙ h.1)
  imports_then now next m ms (last, Some fault) p there h = absurd h

  after_came : (now : List Done) (m : List ℕ) (ms : List (List ℕ)) (n : List ℕ) (i : ℕ) (place : Option (ℕ × ℕ)) (v : List Done × Visited)
      (rest : List Done → List Done × Option Fault) → VisitCame start all chain now m v
      → ((d : List Done) → Came start all chain now d → ImportsCame start all chain d ms (rest d))
      → ImportsCame start all chain now (m ∷ ms) (after_visit n i place m v rest)
  after_came now m ms n i place (next, Finished) rest h k = imports_then now next m ms (rest next) h.0 h.1 (k next h.0)
  after_came now m ms n i place (next, Missing) rest h k = absurd h
  after_came now m ms n i place (next, Faulted fault) rest h k = absurd h

  imports_came : (v : List Done → List ℕ → List Done × Visited)
      → ((now : List Done) (m : List ℕ) → is_done now m ≡ false → is_done before m ≡ true → among chain m ≡ false → IsPart start all now
      → length now + length chain + free chain now all ≤ length start + length all → VisitCame start all chain now m (v now m))
      → (n : List ℕ) (places : ℕ → Option (ℕ × ℕ)) (seen ms : List (List ℕ)) (now : List Done) → AreTaken before seen ms → IsPart start all now
      → length now + length chain + free chain now all ≤ length start + length all
      → ImportsCame start all chain now ms (visit_imports v chain n places seen ms now)
  imports_came v k n places seen [] now taken part room = (record { part = part; room = room; away = λ c held new. new; kept = λ c h. h }, refl)
  imports_came v k n places seen (m ∷ ms) now taken part room =
      by_false P (among seen m) (now, Some (Duplicate n (length seen) (places (length seen)) m)) _ taken.0
      (by_false P (escapes m) (now, Some (Escapes n (length seen) (places (length seen)) m)) _ taken.1
      (by_false P (among chain m) (now, Some (Circular m (chain_text (reverse (m ∷ chain))))) _ closed
      (by_test P (is_done now m) (visit_imports v chain n places (seen ++ m ∷ []) ms now)
      (after_visit n (length seen) (places (length seen)) m (v now m) (visit_imports v chain n places (seen ++ m ∷ []) ms))
      (λ known. imports_then now now m ms _ same known (imports_came v k n places (seen ++ m ∷ []) ms now taken.3 part room))
      (λ new. after_came now m ms n (length seen) (places (length seen)) (v now m) _ (k now m new taken.2 closed part room)
      (λ d c. imports_came v k n places (seen ++ m ∷ []) ms d taken.3 c.part c.room)))))
    where
      P : List Done × Option Fault → Type 0
      P r = ImportsCame start all chain now (m ∷ ms) r

      same : Came start all chain now now
      same = record { part = part; room = room; away = λ c held new. new; kept = λ c h. h }

      closed : among chain m ≡ false
      closed = no_more (among chain m) (λ held. not_both taken.2 (below m held))

-- ---- a file behind its imports

module _ (lookups : List ℕ → Lookup) (limit : ℕ) (start all : List Done) (base : Base lookups limit start all) (b a : List Done) (d : Done)
    (split : all ≡ b ++ d ∷ a) where
  abbrev pub settles : Settles lookups (start ++ b) d
  settles = one_settles lookups start b a d (subst (λ (l : List Done). AllSettle lookups start l) split base.settle)

  abbrev pub entry : Entry
  entry = settles.entry

  module _ (now : List Done) (part : IsPart start all now) (new : is_done now d.name ≡ false)
      (imports : list_all (is_done now) (imports_of entry) ≡ true) where
    now_records : records now ≡ records start ++ records part.some
    now_records =
        sym (records_plain now) ∙ ap (λ (l : List Done). records l) part.is ∙ map-append (λ (x : Done). x.file) start part.some

    both_named : AreNamed (start ++ part.some)
    both_named = named_joined start part.some base.named part.named

    done_there : (n : List ℕ) → is_done (start ++ part.some) n ≡ is_done now n
    done_there n = ap (λ (l : List Done). is_done l n) (sym part.is) ∙ is_done_plain now n

    has_there : (n : List ℕ) → has_file (records start ++ records part.some) n ≡ is_done now n
    has_there n =
        ap (λ (l : List File). has_file l n) (sym (map-append (λ (x : Done). x.file) start part.some))
        ∙ has_named (start ++ part.some) n both_named ∙ done_there n

    all_there : (names : List (List ℕ)) → list_all (has_file (records start ++ records part.some)) names ≡ list_all (is_done now) names
    all_there [] = refl
    all_there (n ∷ ns) =
        ap (λ c. c && list_all (has_file (records start ++ records part.some)) ns) (has_there n) ∙ ap (λ c. is_done now n && c) (all_there ns)

    name_new : has_file (records start ++ records part.some) (declared_name entry) ≡ false
    name_new = has_there (declared_name entry) ∙ ap (is_done now) (bytes_are (declared_name entry) d.name settles.declared) ∙ new

    stands_behind : AreBehind (records start ++ records part.some) (entry.file ∷ [])
    unfolding AreBehind
    stands_behind = (name_new, all_there (imports_of entry) ∙ imports, tt)

    pooled : ArePooled (records start) (records b ++ d.file ∷ records a)
    pooled =
        subst (ArePooled (records start)) (ap (λ (l : List Done). records l) split ∙ map-append (λ (x : Done). x.file) b (d ∷ a))
        (all_pooled lookups start all base.settle)

    first : IsLinked (records start ++ records b) entry.file d.file
    first = subst (λ (l : List File). IsLinked l entry.file d.file) (map-append (λ (x : Done). x.file) start b) settles.linked

    inside : AreAmong (records part.some) (records b ++ d.file ∷ records a)
    inside f c =
        let r = record_among part.some f c in
        subst (λ (l : List File). Contains l f) (ap (λ (l : List Done). records l) split ∙ map-append (λ (x : Done). x.file) b (d ∷ a))
        (subst (λ (g : File). Contains (records all) g) r.2 (record_there all r.0 (part.within r.0 r.1)))

    linked : IsLinked (records start ++ records part.some) entry.file d.file
    linked =
        parts_link_alike (records start) (records b) (records a) (records part.some) entry.file d.file base.behind pooled first part.behind inside
        stands_behind

    keeps : keeps_rules (records now) entry.file ≡ true
    keeps = ap (λ (l : List File). keeps_rules l entry.file) now_records ∙ linked.keeps

    abbrev pub one : Done
    one = done_as now d.name entry

    same_file : linked_record (records now) entry.file ≡ d.file
    same_file = ap (λ (l : List File). linked_record l entry.file) now_records ∙ sym linked.is

    one_is : one ≡ d
    one_is =
        ap (λ (f : File). record { name = d.name; file = f; path = entry.path; opened = false }) same_file
        ∙ ap (λ (p : Option (List ℕ)). record { name = d.name; file = d.file; path = p; opened = false }) (sym settles.path_is)
        ∙ ap (λ (o : Bool). record d { opened = o }) (sym settles.imported)

    d_there : Contains all d
    d_there = subst (λ (l : List Done). Contains l d) (sym split) (Contains-append_right b (d ∷ a) d (here d a))

    within : (x : Done) → Contains (part.some ++ one ∷ []) x → Contains all x
    within x c = at (Contains-push_cases part.some one x c)
      where
        at : Contains part.some x ⊎ (one ≡ x) → Contains all x
        at (inl k) = part.within x k
        at (inr same) = subst (Contains all) (sym one_is ∙ same) d_there

    d_behind : AreBehind (records start ++ records part.some) (one.file ∷ [])
    unfolding AreBehind
    d_behind = (name_new, all_there (imports_of entry) ∙ imports, tt)

    more_part : IsPart start all (now ++ one ∷ [])
    more_part = record {
      some = part.some ++ one ∷ [];
      is = map-append plain_one now (one ∷ []) ∙ ap (λ (l : List Done). l ++ one ∷ []) part.is ∙ append_assoc start part.some (one ∷ []);
      within = within;
      behind = subst (AreBehind (records start)) (sym (map-append (λ (x : Done). x.file) part.some (one ∷ [])))
          (behind_joined (records start) (records part.some) (one.file ∷ []) part.behind d_behind);
      named = named_joined part.some (one ∷ []) part.named (ap (λ (x : Done). x.file.name) one_is ∙ settles.named, tt);
    }

    -- the file is finished behind these
    module _ (chain : List (List ℕ)) (before : List Done) (came : Came start all (d.name ∷ chain) before now) (closed : among chain d.name ≡ false) where
      finished : Came start all chain before (now ++ one ∷ [])
      finished = record { part = more_part; room = room; away = away; kept = λ c h. done_more now (one ∷ []) c (came.kept c h) }
        where
          room : length (now ++ one ∷ []) + length chain + free chain (now ++ one ∷ []) all ≤ length start + length all
          room =
              let more : length (now ++ one ∷ []) ≡ length now + 1 = length-append now (one ∷ []) in
              let same : free chain (now ++ one ∷ []) all ≡ free (d.name ∷ chain) now all = free_finish chain now one all in
              let old : length now + length (d.name ∷ chain) + free (d.name ∷ chain) now all ≤ length start + length all = came.room in
              omega arith

          away : (c : List ℕ) → among chain c ≡ true → is_done before c ≡ false → is_done (now ++ one ∷ []) c ≡ false
          away c held k =
              is_done_push now one c (came.away c (or_right (bytes_eq d.name c) (among chain c) held) k) (differ chain d.name c closed held)

      kept_finished : VisitCame start all chain before d.name (finish d.name entry (now, None))
      kept_finished =
          by_true (VisitCame start all chain before d.name) (keeps_rules (records now) entry.file) (now ++ one ∷ [], Finished)
          (now, Faulted (Unlinked entry.file)) keeps (finished, done_last now one)

  finish_came : (chain : List (List ℕ)) (now : List Done) (r : List Done × Option Fault) → is_done now d.name ≡ false → among chain d.name ≡ false
      → ImportsCame start all (d.name ∷ chain) now (imports_of entry) r → VisitCame start all chain now d.name (finish d.name entry r)
  finish_came chain now (next, None) new closed h =
      kept_finished next h.0.part
      (h.0.away d.name (or_left (bytes_eq d.name d.name) (among chain d.name) (same_bytes d.name)) new) h.1 chain now h.0 closed
  finish_came chain now (next, Some fault) new closed h = absurd h

  -- what is open stands behind the files before this one
  below_one : (chain : List (List ℕ)) → ((c : List ℕ) → among chain c ≡ true → is_done (start ++ b) c ≡ false) → (c : List ℕ)
      → among (d.name ∷ chain) c ≡ true → is_done (start ++ b) c ≡ false
  below_one chain above c held = at (or_cases (bytes_eq d.name c) (among chain c) held)
    where
      at : (bytes_eq d.name c ≡ true) ⊎ (among chain c ≡ true) → is_done (start ++ b) c ≡ false
      at (inl e) = ap (is_done (start ++ b)) (sym (bytes_are d.name c e)) ∙ settles.new
      at (inr h) = above c h

  -- room for one more
  fits_one : (chain : List (List ℕ)) (now : List Done) → is_done now d.name ≡ false → among chain d.name ≡ false
      → length now + length chain + free chain now all ≤ length start + length all
      → (length now + length chain + 1 ≤ limit) × (length now + length (d.name ∷ chain) + free (d.name ∷ chain) now all ≤ length start + length all)
  fits_one chain now new closed room =
      let less : free (d.name ∷ chain) now all + 1 ≤ free chain now all =
      subst (λ (l : List Done). free (d.name ∷ chain) now l + 1 ≤ free chain now l) (sym split) (free_open chain now d b a new closed) in
      let long : length all ≡ length b + suc (length a) = ap (λ (l : List Done). length l) split ∙ length-append b (d ∷ a) in
      let whole : length start + length all ≤ limit = base.fits (omega arith) in
      (omega arith, omega arith)

clear_came : (P : List Done × Visited → Type 0) (n : List ℕ) (asked path : Option (List ℕ)) (done : List Done) (v : List Done × Visited)
    → IsClear asked path → P v → P (unless_shadowed n asked path done v)
clear_came P n None path done v clear h = h
clear_came P n (Some asked) None done v clear h = h
clear_came P n (Some asked) (Some path) done v clear h = by_true P (path_equal path asked) v (done, Faulted (Shadowed n asked path)) clear h

module _ (lookups : List ℕ → Lookup) (limit : ℕ) (start all : List Done) (base : Base lookups limit start all) where
  -- how one of the files is visited, in so much room
  abbrev pub Visits : ℕ → Type 0
  Visits room =
      (chain : List (List ℕ)) (asked : Option (List ℕ)) (now b a : List Done) (d : Done) → all ≡ b ++ d ∷ a → is_done now d.name ≡ false
      → among chain d.name ≡ false → ((c : List ℕ) → among chain c ≡ true → is_done (start ++ b) c ≡ false) → IsClear asked d.path
      → IsPart start all now → length now + length chain + free chain now all ≤ length start + length all → limit ≤ length chain + room
      → VisitCame start all chain now d.name (visit lookups limit room chain asked d.name now)

  -- one of the files before this one
  child_came : (room : ℕ) → Visits room → (chain : List (List ℕ)) (b a : List Done) (d : Done) → all ≡ b ++ d ∷ a
      → ((c : List ℕ) → among chain c ≡ true → is_done (start ++ b) c ≡ false) → limit ≤ length chain + room
      → (now : List Done) (m : List ℕ) → is_done now m ≡ false → is_done (start ++ b) m ≡ true → among chain m ≡ false → IsPart start all now
      → length now + length chain + free chain now all ≤ length start + length all
      → VisitCame start all chain now m (visit lookups limit room chain None m now)
  child_came room ih chain b a d split below rooms now m new there closed part fits =
      let s = stands b m (done_second start b m there (no_more (is_done start m) (λ h. not_both (part_done start all now part m h) new))) in
      let whole : all ≡ s.before ++ s.one ∷ (s.after ++ d ∷ a) =
      split ∙ ap (λ (l : List Done). l ++ d ∷ a) s.split ∙ append_assoc s.before (s.one ∷ s.after) (d ∷ a) in
      let front : (c : List ℕ) → among chain c ≡ true → is_done (start ++ s.before) c ≡ false =
      (λ c held. not_done_front (start ++ s.before) (s.one ∷ s.after) c
      (ap (λ (l : List Done). is_done l c) (append_assoc start s.before (s.one ∷ s.after) ∙ ap (λ (l : List Done). start ++ l) (sym s.split))
      ∙ below c held)) in
      subst (λ (n : List ℕ). VisitCame start all chain now n (visit lookups limit room chain None n now)) s.is
      (ih chain None now s.before (s.after ++ d ∷ a) s.one whole (ap (is_done now) s.is ∙ new) (ap (among chain) s.is ∙ closed) front tt part fits rooms)

  pub visit_came : (room : ℕ) → Visits room
  unfolding visit
  visit_came zero chain asked now b a d split new closed above clear part room rooms =
      let fits : length now + length chain + 1 ≤ limit = (fits_one lookups limit start all base b a d split chain now new closed room).0 in
      let wrong : ⊥ = omega arith in absurd wrong
  visit_came (suc room) chain asked now b a d split new closed above clear part fits rooms =
      let two = fits_one lookups limit start all base b a d split chain now new closed fits in
      let s : Settles lookups (start ++ b) d = settles lookups limit start all base b a d split in
      let below : (c : List ℕ) → among (d.name ∷ chain) c ≡ true → is_done (start ++ b) c ≡ false =
      below_one lookups limit start all base b a d split chain above in
      let narrow : limit ≤ length (d.name ∷ chain) + room = omega arith in
      by_false (VisitCame start all chain now d.name) (nat_lt limit (length now + length chain + 1)) (now, Faulted (Limit limit)) _
      (le-ltb limit (length now + length chain + 1) two.0)
      (subst (λ (l : Lookup). VisitCame start all chain now d.name (visit_lookup d.name asked l now (λ e. finish d.name e
      (visit_imports (λ x m. visit lookups limit room (d.name ∷ chain) None m x) (d.name ∷ chain) d.name (place_of_import e) [] (imports_of e) now))))
      (sym s.lookup_is)
      (by_true (VisitCame start all chain now d.name) (bytes_eq (declared_name s.entry) d.name) _ (now, Faulted (Mismatch d.name (declared_name s.entry)))
      s.declared
      (clear_came (VisitCame start all chain now d.name) d.name asked s.entry.path now _ (subst (IsClear asked) s.path_is clear)
      (finish_came lookups limit start all base b a d split chain now _ new closed
      (imports_came start all (d.name ∷ chain) (start ++ b) below (λ x m. visit lookups limit room (d.name ∷ chain) None m x)
      (child_came room (visit_came room) (d.name ∷ chain) b a d split below narrow) d.name (place_of_import s.entry) [] (imports_of s.entry) now
      s.taken part two.1)))))
