-- An accepted closure finishes the post-order of names.
use Rattle.std.proofs.Common.{◌≡◌, ◌+◌, ◌-◌, ◌≤◌, ◌∷◌, ◌++◌, ◌∙◌, [], ℕ, zero, suc, List, Bool, true, false}
use Rattle.std.proofs.Common.{refl, sym, ap, subst, length, fold, arith}
use Rattle.std.specs.Prelude.{◌||◌, nat_lt, if◌then◌else◌, reverse, Option, Some, None}
use Rattle.std.specs.List.{list_any, IsDistinct}
use Rattle.std.specs.Str.{bytes_eq}
use Rattle.std.proofs.lemmas.Bool.{ltb-false}
use Rattle.std.proofs.lemmas.Cmp.{nat_list_eq_equiv}
use Rattle.std.proofs.lemmas.List.{length-map, length-append, map-append}
use Rattle.std.proofs.lemmas.List.Folds.{list_any-append}
use Rattle.std.proofs.lemmas.Map.Keys.{IsDistinct-push}
use Rattle.pbx_link_definitions.specs.Names.{among}
use Rattle.pbx_link_rules.specs.Breaches.{keeps_rules}
use Rattle.protox_io.specs.FileNames.{path_equal, escapes}
use Rattle.protox_file_sources.specs.Told.{Entry, Lookup, NoFile, IsFile, TextFault, Unread}
use Rattle.protox_compile_walk.specs.Places.{place_of_import}
use Rattle.protox_compile_walk.specs.Walk.{Done, Fault, Limit, Mismatch, Shadowed, Duplicate, Escapes, Circular, Unlinked}
use Rattle.protox_compile_walk.specs.Walk.{Visited, Finished, Missing, Faulted, records, imports_of, declared_name, done_as, is_done, chain_text}
use Rattle.protox_compile_walk.specs.Walk.{after_visit, visit_imports, finish, unless_shadowed, visit_lookup, visit, visits}
use Rattle.protox_compile_walk.specs.Opening.{Ended, Accepted, NotIncluded, Refused, mark, path_in, root_of}
use Rattle.protox_compile_walk.specs.Opening.{open_done, open_root, open_name, opening, after_opening, closure}
use Rattle.protox_compile_walk.specs.Again.{AskFor}
use Rattle.protox_compile_walk.specs.PostOrder.{with_imports, post_order}
use Rattle.protox_compile_walk.specs.Order.{imports_in, imports_by, finished_names}
use Rattle.protox_compile_walk.specs.Order.{ClosesInPostOrder, ClosesAtEachDepth, ClosesDistinct, ClosesWithin}
use Rattle.protox_compile_walk.proofs.Right.{same_bytes, bytes_are}
use Rattle.protox_compile_walk.proofs.Fresh.{apart, or_left, or_right}

-- ---- names among others

names_done : (done : List Done) (name : List ℕ) → among (finished_names done) name ≡ is_done done name
names_done [] name = refl
names_done (d ∷ ds) name = ap (λ b. bytes_eq d.name name || b) (names_done ds name)

names_marked : (name : List ℕ) (done : List Done) → finished_names (mark name done) ≡ finished_names done
names_marked name [] = refl
names_marked name (d ∷ ds) = at (bytes_eq d.name name) (names_marked name ds)
  where
    at : (b : Bool) → finished_names (mark name ds) ≡ finished_names ds
        → finished_names (if b then record d { opened = true } ∷ ds else d ∷ mark name ds) ≡ finished_names (d ∷ ds)
    at true h = refl
    at false h = ap (λ names. d.name ∷ names) h

or_true : (a b : Bool) → b ≡ true → (a || b) ≡ true
or_true true b h = refl
or_true false b h = h

-- names of which one is there and the other is not differ
differ : (names : List (List ℕ)) (a b : List ℕ) → among names a ≡ false → among names b ≡ true → bytes_eq a b ≡ false
differ names a b out there = at (bytes_eq a b) refl
  where
    at : (c : Bool) → bytes_eq a b ≡ c → c ≡ false
    at true e = let wrong : true ≡ false = sym there ∙ ap (among names) (sym (bytes_are a b e)) ∙ out in absurd cc
    at false e = refl

none_equal : (names : List (List ℕ)) (name : List ℕ) → among names name ≡ false → list_any (bytes_eq name) names ≡ false
none_equal [] name h = refl
none_equal (n ∷ ns) name h =
    ap (λ b. b || list_any (bytes_eq name) ns) (apart n name (or_left (bytes_eq n name) (among ns name) h))
    ∙ none_equal ns name (or_right (bytes_eq n name) (among ns name) h)

among_push : (names : List (List ℕ)) (last name : List ℕ) → among names name ≡ false → bytes_eq last name ≡ false → among (names ++ last ∷ []) name ≡ false
among_push names last name h e = rw (list_any-append, h, e) refl

-- ---- the post-order

module _ (imports : List ℕ → List (List ℕ)) where
  -- a name that is there changes nothing
  stays : (depth : ℕ) (names : List (List ℕ)) (name : List ℕ) → among names name ≡ true → with_imports imports depth names name ≡ names
  unfolding with_imports
  stays zero names name h = refl
  stays (suc depth) names name h = ap (λ b. if b then names else fold (with_imports imports depth) names (imports name) ++ name ∷ []) h

  -- another comes behind its imports
  follows : (depth : ℕ) (names : List (List ℕ)) (name : List ℕ) → among names name ≡ false
      → with_imports imports (suc depth) names name ≡ post_order imports depth names (imports name) ++ name ∷ []
  unfolding with_imports
  follows depth names name h = ap (λ b. if b then names else fold (with_imports imports depth) names (imports name) ++ name ∷ []) h

-- ---- names that are finished behind others

-- what is done to names, at each depth
abbrev Step : Type 0
Step = ℕ → List (List ℕ) → List (List ℕ)

-- these names are finished where those were, while the files of the chain are open
record Behind (limit : ℕ) (chain before after : List (List ℕ)) (step : Step) : Type 0 where
  pub longer : length before ≤ length after
  pub within : (most : ℕ) → limit ≤ most → length before + length chain ≤ most → length after + length chain ≤ most
  pub ordered : (depth : ℕ) → length after ≤ length before + depth → after ≡ step depth before
  pub away : (name : List ℕ) → among chain name ≡ true → among before name ≡ false → among after name ≡ false
  pub once : IsDistinct bytes_eq before → IsDistinct bytes_eq after

-- the one step, and then the other
abbrev then_step : Step → Step → Step
then_step one other depth names = other depth (one depth names)

-- the step of names one after another
abbrev orders : (List ℕ → List (List ℕ)) → List (List ℕ) → Step
orders imports more depth names = post_order imports depth names more

-- the step of one name
abbrev inserts : (List ℕ → List (List ℕ)) → List ℕ → Step
inserts imports name depth names = with_imports imports depth names name

behind_same : (limit : ℕ) (chain names : List (List ℕ)) → Behind limit chain names names (λ depth ns. ns)
behind_same limit chain names = record {
  longer = omega arith;
  within = λ most l h. h;
  ordered = λ depth h. refl;
  away = λ name held new. new;
  once = λ d. d;
}

behind_there : (imports : List ℕ → List (List ℕ)) (limit : ℕ) (chain names : List (List ℕ)) (name : List ℕ) → among names name ≡ true
    → Behind limit chain names names (inserts imports name)
behind_there imports limit chain names name there = record {
  longer = omega arith;
  within = λ most l h. h;
  ordered = λ depth h. sym (stays imports depth names name there);
  away = λ n held new. new;
  once = λ d. d;
}

behind_join : {limit : ℕ} {chain a b c : List (List ℕ)} {one other : Step} → Behind limit chain a b one → Behind limit chain b c other
    → Behind limit chain a c (then_step one other)
behind_join {limit} {chain} {a} {b} {c} {one} {other} p q = record {
  longer = let l : length a ≤ length b = p.longer in let k : length b ≤ length c = q.longer in omega arith;
  within = λ most l h. q.within most l (p.within most l h);
  ordered = ordered;
  away = λ name held new. q.away name held (p.away name held new);
  once = λ d. q.once (p.once d);
}
  where
    ordered : (depth : ℕ) → length c ≤ length a + depth → c ≡ then_step one other depth a
    ordered depth h =
        let l : length a ≤ length b = p.longer in
        let k : length b ≤ length c = q.longer in
        q.ordered depth (omega arith) ∙ ap (other depth) (p.ordered depth (omega arith))

-- a name is finished behind its imports
module _ (imports : List ℕ → List (List ℕ)) (limit : ℕ) (chain : List (List ℕ)) (name : List ℕ) (before after : List (List ℕ))
    (room : length before + length chain + 1 ≤ limit) (closed : among chain name ≡ false) (new : among before name ≡ false)
    (behind : Behind limit (name ∷ chain) before after (orders imports (imports name))) where
  one_more : length (after ++ name ∷ []) ≡ length after + 1
  one_more = length-append after (name ∷ [])

  finished_within : (most : ℕ) → limit ≤ most → length (after ++ name ∷ []) + length chain ≤ most
  finished_within most l =
      let first : length before + length (name ∷ chain) ≤ limit = omega arith in
      let all : length after + length (name ∷ chain) ≤ limit = behind.within limit (omega arith) first in
      let more : length (after ++ name ∷ []) ≡ length after + 1 = one_more in
      omega arith

  finished_ordered : (depth : ℕ) → length (after ++ name ∷ []) ≤ length before + depth → after ++ name ∷ [] ≡ with_imports imports depth before name
  finished_ordered zero h =
      let l : length before ≤ length after = behind.longer in
      let more : length (after ++ name ∷ []) ≡ length after + 1 = one_more in
      let wrong : ⊥ = omega arith in absurd wrong
  finished_ordered (suc depth) h =
      let more : length (after ++ name ∷ []) ≡ length after + 1 = one_more in
      let enough : length after ≤ length before + depth = omega arith in
      ap (λ names. names ++ name ∷ []) (behind.ordered depth enough) ∙ sym (follows imports depth before name new)

  finished_away : (n : List ℕ) → among chain n ≡ true → among before n ≡ false → among (after ++ name ∷ []) n ≡ false
  finished_away n held k =
      among_push after name n (behind.away n (or_true (bytes_eq name n) (among chain n) held) k) (differ chain name n closed held)

  last_new : among after name ≡ false
  last_new = behind.away name (ap (λ b. b || among chain name) (same_bytes name)) new

  behind_finished : Behind limit chain before (after ++ name ∷ []) (inserts imports name)
  behind_finished = record {
    longer = let l : length before ≤ length after = behind.longer in let more : length (after ++ name ∷ []) ≡ length after + 1 = one_more in omega arith;
    within = λ most l h. finished_within most l;
    ordered = finished_ordered;
    away = finished_away;
    once = λ d. IsDistinct-push nat_list_eq_equiv after name (behind.once d) (none_equal after name last_new);
  }

-- ---- what a visit finishes

-- where files were finished, they stand so behind these names
abbrev VisitsBehind : ℕ → List (List ℕ) → List (List ℕ) → Step → List Done × Visited → Type 0
VisitsBehind limit chain before step (done, Finished) = Behind limit chain before (finished_names done) step
VisitsBehind limit chain before step (done, Missing) = Unit {0}
VisitsBehind limit chain before step (done, Faulted fault) = Unit {0}

abbrev ImportsBehind : ℕ → List (List ℕ) → List (List ℕ) → Step → List Done × Option Fault → Type 0
ImportsBehind limit chain before step (done, None) = Behind limit chain before (finished_names done) step
ImportsBehind limit chain before step (done, Some fault) = Unit {0}

-- one of two, by a test
by_test : {A : Type 0} (P : A → Type 0) (b : Bool) (x y : A) → (b ≡ true → P x) → (b ≡ false → P y) → P (if b then x else y)
by_test P true x y p q = p refl
by_test P false x y p q = q refl

imports_join : (limit : ℕ) (chain before middle : List (List ℕ)) (one other : Step) (r : List Done × Option Fault) → Behind limit chain before middle one
    → ImportsBehind limit chain middle other r → ImportsBehind limit chain before (then_step one other) r
imports_join limit chain before middle one other (done, None) p q = behind_join p q
imports_join limit chain before middle one other (done, Some fault) p q = tt

after_behind : (limit : ℕ) (chain before : List (List ℕ)) (one other : Step) (n : List ℕ) (i : ℕ) (place : Option (ℕ × ℕ)) (m : List ℕ)
    (v : List Done × Visited) (rest : List Done → List Done × Option Fault) → VisitsBehind limit chain before one v
    → ((d : List Done) → ImportsBehind limit chain (finished_names d) other (rest d))
    → ImportsBehind limit chain before (then_step one other) (after_visit n i place m v rest)
after_behind limit chain before one other n i place m (d, Finished) rest h k =
    imports_join limit chain before (finished_names d) one other (rest d) h (k d)
after_behind limit chain before one other n i place m (d, Missing) rest h k = tt
after_behind limit chain before one other n i place m (d, Faulted fault) rest h k = tt

module _ (imports : List ℕ → List (List ℕ)) (limit : ℕ) (chain : List (List ℕ)) (v : List Done → List ℕ → List Done × Visited)
    (k : (d : List Done) (m : List ℕ) → among chain m ≡ false → is_done d m ≡ false
    → VisitsBehind limit chain (finished_names d) (inserts imports m) (v d m)) (n : List ℕ) (places : ℕ → Option (ℕ × ℕ)) where
  imports_behind : (seen ms : List (List ℕ)) (done : List Done)
      → ImportsBehind limit chain (finished_names done) (orders imports ms) (visit_imports v chain n places seen ms done)
  imports_behind seen [] done = behind_same limit chain (finished_names done)
  imports_behind seen (m ∷ ms) done =
      let P : List Done × Option Fault → Type 0 = λ r. ImportsBehind limit chain (finished_names done) (orders imports (m ∷ ms)) r in
      let rest : List Done → List Done × Option Fault = visit_imports v chain n places (seen ++ m ∷ []) ms in
      by_test P (among seen m) (done, Some (Duplicate n (length seen) (places (length seen)) m)) _ (λ e. tt) (λ e.
      by_test P (escapes m) (done, Some (Escapes n (length seen) (places (length seen)) m)) _ (λ e. tt) (λ e.
      by_test P (among chain m) (done, Some (Circular m (chain_text (reverse (m ∷ chain))))) _ (λ e. tt) (λ closed.
      by_test P (is_done done m) (rest done) (after_visit n (length seen) (places (length seen)) m (v done m) rest)
      (λ there. imports_join limit chain (finished_names done) (finished_names done) (inserts imports m) (orders imports ms) (rest done)
      (behind_there imports limit chain (finished_names done) m (names_done done m ∙ there)) (imports_behind (seen ++ m ∷ []) ms done))
      (λ new. after_behind limit chain (finished_names done) (inserts imports m) (orders imports ms) n (length seen) (places (length seen)) m (v done m) rest
      (k done m closed new) (imports_behind (seen ++ m ∷ []) ms)))))

module _ (imports : List ℕ → List (List ℕ)) (limit : ℕ) (chain : List (List ℕ)) (n : List ℕ) (before : List (List ℕ)) where
  finish_behind : (entry : Entry) (r : List Done × Option Fault) → length before + length chain + 1 ≤ limit → among chain n ≡ false
      → among before n ≡ false → imports n ≡ imports_of entry
      → ImportsBehind limit (n ∷ chain) before (orders imports (imports_of entry)) r
      → VisitsBehind limit chain before (inserts imports n) (finish n entry r)
  finish_behind entry (done, None) room closed new same h =
      by_test (VisitsBehind limit chain before (inserts imports n)) (keeps_rules (records done) entry.file)
      (done ++ done_as done n entry ∷ [], Finished) (done, Faulted (Unlinked entry.file)) (λ e. accepted) (λ e. tt)
    where
      accepted : Behind limit chain before (finished_names (done ++ done_as done n entry ∷ [])) (inserts imports n)
      accepted =
          let P : List (List ℕ) → Type 0 = λ ms. Behind limit (n ∷ chain) before (finished_names done) (orders imports ms) in
          let Q : List (List ℕ) → Type 0 = λ names. Behind limit chain before names (inserts imports n) in
          subst Q (sym (map-append (λ (d : Done). d.name) done (done_as done n entry ∷ [])))
          (behind_finished imports limit chain n before (finished_names done) room closed new (subst P (sym same) h))
  finish_behind entry (done, Some fault) room closed new same h = tt

  shadow_behind : (step : Step) (asked path : Option (List ℕ)) (done : List Done) (v : List Done × Visited) → VisitsBehind limit chain before step v
      → VisitsBehind limit chain before step (unless_shadowed n asked path done v)
  shadow_behind step None path done v h = h
  shadow_behind step (Some asked) None done v h = h
  shadow_behind step (Some asked) (Some path) done v h =
      by_test (VisitsBehind limit chain before step) (path_equal path asked) v (done, Faulted (Shadowed n asked path)) (λ e. h) (λ e. tt)

  lookup_behind : (step : Step) (asked : Option (List ℕ)) (lookup : Lookup) (done : List Done) (visits : Entry → List Done × Visited)
      → ((entry : Entry) → lookup ≡ IsFile entry → VisitsBehind limit chain before step (visits entry))
      → VisitsBehind limit chain before step (visit_lookup n asked lookup done visits)
  lookup_behind step asked Unread done visits k = tt
  lookup_behind step asked NoFile done visits k = tt
  lookup_behind step asked (TextFault kind) done visits k = tt
  lookup_behind step asked (IsFile entry) done visits k =
      by_test (VisitsBehind limit chain before step) (bytes_eq (declared_name entry) n) (unless_shadowed n asked entry.path done (visits entry))
      (done, Faulted (Mismatch n (declared_name entry))) (λ e. shadow_behind step asked entry.path done (visits entry) (k entry refl)) (λ e. tt)

visit_behind : (lookups : List ℕ → Lookup) (limit room : ℕ) (chain : List (List ℕ)) (asked : Option (List ℕ)) (n : List ℕ) (done : List Done)
    → among chain n ≡ false → is_done done n ≡ false
    → VisitsBehind limit chain (finished_names done) (inserts (imports_by lookups) n) (visit lookups limit room chain asked n done)
unfolding visit
visit_behind lookups limit zero chain asked n done closed new = tt
visit_behind lookups limit (suc room) chain asked n done closed new =
    by_test (VisitsBehind limit chain (finished_names done) (inserts (imports_by lookups) n)) (nat_lt limit (length done + length chain + 1))
    (done, Faulted (Limit limit)) _ (λ full. tt) (λ fits.
    lookup_behind (imports_by lookups) limit chain n (finished_names done) (inserts (imports_by lookups) n) asked (lookups n) done _ (λ entry found.
    finish_behind (imports_by lookups) limit chain n (finished_names done) entry _ (names_fit fits) closed (names_done done n ∙ new) (ap imports_in found)
    (imports_behind (imports_by lookups) limit (n ∷ chain) (λ d m. visit lookups limit room (n ∷ chain) None m d)
    (λ d m. visit_behind lookups limit room (n ∷ chain) None m d) n (place_of_import entry) [] (imports_of entry) done)))
  where
    names_fit : nat_lt limit (length done + length chain + 1) ≡ false → length (finished_names done) + length chain + 1 ≤ limit
    names_fit fits =
        let few : length done + length chain + 1 ≤ limit = ltb-false limit (length done + length chain + 1) fits in
        let same : length (finished_names done) ≡ length done = length-map done (λ (d : Done). d.name) in
        omega arith

-- ---- what openings finish

-- where files were accepted, they stand so behind these names
abbrev OpensBehind : ℕ → List (List ℕ) → Step → List Done × Ended → Type 0
OpensBehind limit before step (done, Accepted) = Behind limit [] before (finished_names done) step
OpensBehind limit before step (done, NotIncluded) = Unit {0}
OpensBehind limit before step (done, Refused fault) = Unit {0}

-- the step of what is asked for
abbrev root_step : (List ℕ → List (List ℕ)) → Option (List ℕ × Option (List ℕ)) → Step
root_step imports None depth names = names
root_step imports (Some root) depth names = with_imports imports depth names root.0

-- the step of paths one after another
abbrev path_steps : (List ℕ → List (List ℕ)) → (List ℕ → Option (List ℕ)) → List (List ℕ) → Step
path_steps imports resolves [] depth names = names
path_steps imports resolves (path ∷ paths) depth names = path_steps imports resolves paths depth (root_step imports (root_of resolves path) depth names)

module _ (limit : ℕ) (before : List (List ℕ)) (step : Step) where
  marked_behind : (name : List ℕ) (done : List Done) → Behind limit [] before (finished_names done) step
      → OpensBehind limit before step (mark name done, Accepted)
  marked_behind name done h =
      let P : List (List ℕ) → Type 0 = λ names. Behind limit [] before names step in subst P (sym (names_marked name done)) h

  done_behind : (name : List ℕ) (asked known : Option (List ℕ)) (done : List Done) → Behind limit [] before (finished_names done) step
      → OpensBehind limit before step (open_done name asked known done)
  done_behind name None known done h = marked_behind name done h
  done_behind name (Some asked) None done h = marked_behind name done h
  done_behind name (Some asked) (Some path) done h =
      by_test (OpensBehind limit before step) (path_equal path asked) (mark name done, Accepted) (done, Refused (Shadowed name asked path))
      (λ e. marked_behind name done h) (λ e. tt)

  root_behind : (name : List ℕ) (v : List Done × Visited) → VisitsBehind limit [] before step v → OpensBehind limit before step (open_root name v)
  root_behind name (d, Finished) h = marked_behind name d h
  root_behind name (d, Missing) h = tt
  root_behind name (d, Faulted fault) h = tt

name_behind : (lookups : List ℕ → Lookup) (limit : ℕ) (root : Option (List ℕ × Option (List ℕ))) (done : List Done)
    → OpensBehind limit (finished_names done) (root_step (imports_by lookups) root) (open_name lookups limit root done)
name_behind lookups limit None done = tt
name_behind lookups limit (Some root) done =
    by_test (OpensBehind limit (finished_names done) (inserts (imports_by lookups) root.0)) (is_done done root.0)
    (open_done root.0 root.1 (path_in root.0 done) done) (open_root root.0 (visits lookups limit [] root.1 root.0 done))
    (λ there. done_behind limit (finished_names done) (inserts (imports_by lookups) root.0) root.0 root.1 (path_in root.0 done) done
    (behind_there (imports_by lookups) limit [] (finished_names done) root.0 (names_done done root.0 ∙ there)))
    (λ new. root_behind limit (finished_names done) (inserts (imports_by lookups) root.0) root.0 (visits lookups limit [] root.1 root.0 done)
    (visit_behind lookups limit (limit - 0) [] root.1 root.0 done refl new))

opens_join : (limit : ℕ) (before middle : List (List ℕ)) (one other : Step) (o : List Done × Ended) → Behind limit [] before middle one
    → OpensBehind limit middle other o → OpensBehind limit before (then_step one other) o
opens_join limit before middle one other (done, Accepted) p q = behind_join p q
opens_join limit before middle one other (done, NotIncluded) p q = tt
opens_join limit before middle one other (done, Refused fault) p q = tt

after_opens : (limit : ℕ) (before : List (List ℕ)) (one other : Step) (o : List Done × Ended) (rest : List Done → List Done × Ended)
    → OpensBehind limit before one o → ((d : List Done) → OpensBehind limit (finished_names d) other (rest d))
    → OpensBehind limit before (then_step one other) (after_opening o rest)
after_opens limit before one other (d, Accepted) rest h k = opens_join limit before (finished_names d) one other (rest d) h (k d)
after_opens limit before one other (d, NotIncluded) rest h k = tt
after_opens limit before one other (d, Refused fault) rest h k = tt

module _ (lookups : List ℕ → Lookup) (resolves : List ℕ → Option (List ℕ)) (limit : ℕ) where
  closure_behind : (paths : List (List ℕ)) (done : List Done)
      → OpensBehind limit (finished_names done) (path_steps (imports_by lookups) resolves paths) (closure lookups resolves limit paths done)
  closure_behind [] done = behind_same limit [] (finished_names done)
  closure_behind (path ∷ paths) done =
      after_opens limit (finished_names done) (root_step (imports_by lookups) (root_of resolves path)) (path_steps (imports_by lookups) resolves paths)
      (opening lookups resolves limit path done) (closure lookups resolves limit paths)
      (name_behind lookups limit (root_of resolves path) done) (closure_behind paths)

  accepted_behind : (paths : List (List ℕ)) (done later : List Done) → closure lookups resolves limit paths done ≡ (later, Accepted)
      → Behind limit [] (finished_names done) (finished_names later) (path_steps (imports_by lookups) resolves paths)
  accepted_behind paths done later closed =
      let P : List Done × Ended → Type 0 = λ o. OpensBehind limit (finished_names done) (path_steps (imports_by lookups) resolves paths) o in
      subst P closed (closure_behind paths done)

-- paths that ask for names do what these do
steps_asked : (imports : List ℕ → List (List ℕ)) (resolves : List ℕ → Option (List ℕ)) (depth : ℕ) (paths names before : List (List ℕ))
    → AskFor resolves paths names → path_steps imports resolves paths depth before ≡ post_order imports depth before names
steps_asked imports resolves depth [] [] before asks = refl
steps_asked imports resolves depth [] (name ∷ names) before asks = absurd asks
steps_asked imports resolves depth (path ∷ paths) [] before asks = absurd asks
steps_asked imports resolves depth (path ∷ paths) (name ∷ names) before asks =
    ap (λ root. path_steps imports resolves paths depth (root_step imports root depth before)) asks.0.root_is
    ∙ steps_asked imports resolves depth paths names (with_imports imports depth before name) asks.1

-- ---- the laws

pub at_each_depth : ClosesAtEachDepth
at_each_depth lookups resolves limit depth paths names done later closed asks enough =
    let behind : Behind limit [] (finished_names done) (finished_names later) (path_steps (imports_by lookups) resolves paths) =
    accepted_behind lookups resolves limit paths done later closed in
    let old : length (finished_names done) ≡ length done = length-map done (λ (d : Done). d.name) in
    let new : length (finished_names later) ≡ length later = length-map later (λ (d : Done). d.name) in
    behind.ordered depth (omega arith) ∙ steps_asked (imports_by lookups) resolves depth paths names (finished_names done) asks

-- so many files are within each number that is at least the limit
counted : (lookups : List ℕ → Lookup) (resolves : List ℕ → Option (List ℕ)) (limit most : ℕ) (paths : List (List ℕ)) (done later : List Done)
    → closure lookups resolves limit paths done ≡ (later, Accepted) → limit ≤ most → length done ≤ most → length later ≤ most
counted lookups resolves limit most paths done later closed wide fits =
    let behind : Behind limit [] (finished_names done) (finished_names later) (path_steps (imports_by lookups) resolves paths) =
    accepted_behind lookups resolves limit paths done later closed in
    let old : length (finished_names done) ≡ length done = length-map done (λ (d : Done). d.name) in
    let new : length (finished_names later) ≡ length later = length-map later (λ (d : Done). d.name) in
    let all : length (finished_names later) + length {A = List ℕ} [] ≤ most = behind.within most wide (omega arith) in
    omega arith

pub in_post_order : ClosesInPostOrder
in_post_order lookups resolves limit paths names done later closed asks =
    at_each_depth lookups resolves limit limit paths names done later closed asks
    (counted lookups resolves limit (length done + limit) paths done later closed (omega arith) (omega arith))

pub distinct : ClosesDistinct
distinct lookups resolves limit paths done later closed d = (accepted_behind lookups resolves limit paths done later closed).once d

pub within_limit : ClosesWithin
within_limit lookups resolves limit paths done later closed fits = counted lookups resolves limit limit paths done later closed (omega arith) fits
