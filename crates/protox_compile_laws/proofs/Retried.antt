-- A path is opened again from the front that refused tries left.
use Rattle.std.proofs.Common.{◌≡◌, ◌⊎◌, inl, inr, ◌-◌, ◌++◌, ◌∙◌, [], ℕ, List, Bool, true, false, refl, sym, ap, subst, append_assoc}
use Rattle.std.specs.Prelude.{◌&&◌, if◌then◌else◌, Option, Some, None, option_map}
use Rattle.std.specs.List.{list_all}
use Rattle.std.proofs.lemmas.List.{append_cancel_left}
use Rattle.std.proofs.lemmas.List.Folds.{list_all-append}
use Rattle.pbx_parse.specs.declared.error.ParseError.TheVariants as parse
use Rattle.protox_io.specs.FileNames.{path_equal}
use Rattle.protox_file_sources.specs.Told.{Lookup}
use Rattle.protox_file_error.specs.declared.error.ErrorKind.{ErrorKind}
use Rattle.protox_file_error.specs.declared.error.ErrorKind.TheVariants.{Parse, Check, OpenFile, FileTooLarge, FileInvalidUtf8, ImportNotFound}
use Rattle.protox_file_error.specs.declared.error.ErrorKind.TheVariants.{CircularImport, FileNotIncluded, FileShadowed, DuplicateImport, Custom}
use Rattle.protox_file_error.specs.declared.error.ErrorKind.TheVariants.{NameMismatch, FileLimit, NoMemory, ImportEscapes}
use Rattle.protox_compile_walk.specs.Walk.{Done, Fault, Shadowed, Visited, Finished, Missing, Faulted, is_done, visits}
use Rattle.protox_compile_walk.specs.Opening.{Ended, Accepted, NotIncluded, Refused, is_opened, path_in, root_of, open_done, open_root, open_name}
use Rattle.protox_compile_walk.specs.Opening.{opening, grown, mark, report_in}
use Rattle.protox_compile_walk.specs.Refusals.{Extends, Grows, IsLeftOut, without, is_imported, FailsAtName, RefusesWith, RefusesOpening}
use Rattle.protox_compile_walk.specs.Resume.{IsMore}
use Rattle.protox_compile_walk.specs.declared.root.Opened.{Opened}
use Rattle.protox_compile_walk.specs.declared.root.Opened.TheVariants.{Compiled, Import, Again}
use Rattle.protox_compile_walk.proofs.Extends.{extends_same, extends_join, grows_same, visit_extends}
use Rattle.protox_compile_walk.proofs.More.{grown_further}
use Rattle.protox_compile_walk.proofs.Joined.{Once, joined, right_joined, more_first, more_second, opens_more, refuses_more}
use Rattle.protox_compile_laws.specs.Retry.{may_pass, IsFront, RefusesTries, BeginsTries, AcceptedAtLast, RefusedAtLast, ReportedAtLast}
use Rattle.protox_compile_laws.proofs.Fronts.{two_fronts, same_fronts, done_front, new_front}
use Rattle.protox_compile_laws.proofs.Lacking.{AreApart, name_apart}
use Rattle.protox_compile_laws.proofs.Resumed.{visit_resumed}

-- ---- files behind others, as imports

grows_extends : {a b : List Done} → Grows a b → Extends a b
grows_extends g = record { more = g.more; is = g.is }

both : (a b : Bool) → a ≡ true → b ≡ true → (a && b) ≡ true
both true b p q = q
both false b p q = absurd cc

second : (a b : Bool) → (a && b) ≡ true → b ≡ true
second true b h = h
second false b h = absurd cc

grows_join : {a b c : List Done} → Grows a b → Grows b c → Grows a c
grows_join {a} {b} {c} p q = record {
  more = p.more ++ q.more;
  is = q.is ∙ ap (λ (l : List Done). l ++ q.more) p.is ∙ append_assoc a p.more q.more;
  imported =
      list_all-append is_imported p.more q.more ∙ both (list_all is_imported p.more) (list_all is_imported q.more) p.imported q.imported;
}

-- what is between a front and the whole
grows_behind : {a b c : List Done} → Extends a b → Extends b c → Grows a c → Grows b c
grows_behind {a} {b} {c} p q g = record { more = q.more; is = q.is; imported = second (list_all is_imported p.more) (list_all is_imported q.more) all }
  where
    whole : a ++ g.more ≡ a ++ (p.more ++ q.more)
    whole = sym g.is ∙ q.is ∙ ap (λ (l : List Done). l ++ q.more) p.is ∙ append_assoc a p.more q.more

    all : (list_all is_imported p.more && list_all is_imported q.more) ≡ true
    all =
        sym (list_all-append is_imported p.more q.more)
        ∙ ap (list_all is_imported) (sym (append_cancel_left a g.more (p.more ++ q.more) whole)) ∙ g.imported

-- ---- what is asked for

left_same : (root : Option (List ℕ × Option (List ℕ))) (done : List Done) → IsLeftOut root done done
left_same None done = tt
left_same (Some root) done = refl

left_join : (root : Option (List ℕ × Option (List ℕ))) (a b c : List Done) → IsLeftOut root a b → IsLeftOut root b c → IsLeftOut root a c
left_join None a b c p q = tt
left_join (Some root) a b c p q = q ∙ p

-- of a front that is shorter
left_between : (root : Option (List ℕ × Option (List ℕ))) (old first now : List Done) → Extends old first → Extends first now → IsLeftOut root old now
    → IsLeftOut root old first
left_between None old first now p q r = tt
left_between (Some root) old first now p q r = at (is_done old root.0) refl
  where
    at : (b : Bool) → is_done old root.0 ≡ b → is_done first root.0 ≡ is_done old root.0
    at true e = done_front p root.0 e ∙ sym e
    at false e = new_front q root.0 (r ∙ e) ∙ sym e

-- ---- the opening of a name, from a front

grown_more : (lookups : List ℕ → Lookup) (limit : ℕ) (root : Option (List ℕ × Option (List ℕ))) (done : List Done)
    → Extends done (grown lookups limit root done)
grown_more lookups limit None done = extends_same done
grown_more lookups limit (Some root) done = by_case (is_done done root.0)
  where
    by_case : (b : Bool) → Extends done (if b then done else (visits lookups limit [] root.1 root.0 done).0)
    by_case true = extends_same done
    by_case false = visit_extends lookups limit (limit - 0) [] root.1 root.0 done

abbrev IsSame : (List ℕ → Lookup) → ℕ → Option (List ℕ × Option (List ℕ)) → List Done → List Done → Type 0
IsSame lookups limit root old now =
    (open_name lookups limit root now ≡ open_name lookups limit root old) × (grown lookups limit root now ≡ grown lookups limit root old)

alike : (lookups : List ℕ → Lookup) (limit : ℕ) (root : Option (List ℕ × Option (List ℕ))) (old now : List Done) → now ≡ old
    → IsSame lookups limit root old now
alike lookups limit root old now e = (ap (open_name lookups limit root) e, ap (grown lookups limit root) e)

name_same : (lookups : List ℕ → Lookup) (limit : ℕ) (root : Option (List ℕ × Option (List ℕ))) (old now : List Done) → Extends old now
    → Extends now (grown lookups limit root old) → IsLeftOut root old now → IsSame lookups limit root old now
name_same lookups limit None old now g f r = alike lookups limit None old now (same_fronts g f)
name_same lookups limit (Some root) old now g f r = at (is_done old root.0) refl
  where
    at : (b : Bool) → is_done old root.0 ≡ b → IsSame lookups limit (Some root) old now
    at true e =
        let front : Extends now old = subst (λ (b : Bool). Extends now (if b then old else (visits lookups limit [] root.1 root.0 old).0)) e f in
        alike lookups limit (Some root) old now (same_fronts g front)
    at false e =
        let front : Extends now (visits lookups limit [] root.1 root.0 old).0 =
        subst (λ (b : Bool). Extends now (if b then old else (visits lookups limit [] root.1 root.0 old).0)) e f in
        let v : visits lookups limit [] root.1 root.0 now ≡ visits lookups limit [] root.1 root.0 old =
        visit_resumed lookups limit (limit - 0) [] root.1 root.0 old now refl (r ∙ e) g front in (
          ap (λ b. if b then open_done root.0 root.1 (path_in root.0 now) now else open_root root.0 (visits lookups limit [] root.1 root.0 now)) (r ∙ e)
              ∙ ap (open_root root.0) v
              ∙ sym (ap (λ b. if b then open_done root.0 root.1 (path_in root.0 old) old else open_root root.0 (visits lookups limit [] root.1 root.0 old)) e),
          ap (λ b. if b then now else (visits lookups limit [] root.1 root.0 now).0) (r ∙ e)
              ∙ ap (λ (u : List Done × Visited). u.0) v
              ∙ sym (ap (λ b. if b then old else (visits lookups limit [] root.1 root.0 old).0) e),
        )

-- an opening that is not accepted leaves all that it finishes
abbrev Leaves : List Done → List Done × Ended → Type 0
Leaves all (later, Accepted) = Unit {0}
Leaves all (later, NotIncluded) = later ≡ all
Leaves all (later, Refused fault) = later ≡ all

done_leaves : (name : List ℕ) (asked path : Option (List ℕ)) (done : List Done) → Leaves done (open_done name asked path done)
done_leaves name None path done = tt
done_leaves name (Some asked) None done = tt
done_leaves name (Some asked) (Some path) done = at (path_equal path asked)
  where
    at : (b : Bool) → Leaves done (if b then (mark name done, Accepted) else (done, Refused (Shadowed name asked path)))
    at true = tt
    at false = refl

root_leaves : (name : List ℕ) (v : List Done × Visited) → Leaves v.0 (open_root name v)
root_leaves name (done, Finished) = tt
root_leaves name (done, Missing) = refl
root_leaves name (done, Faulted fault) = refl

name_leaves : (lookups : List ℕ → Lookup) (limit : ℕ) (root : Option (List ℕ × Option (List ℕ))) (done : List Done)
    → Leaves (grown lookups limit root done) (open_name lookups limit root done)
name_leaves lookups limit None done = refl
name_leaves lookups limit (Some root) done = at (is_done done root.0)
  where
    at : (b : Bool) → Leaves (if b then done else (visits lookups limit [] root.1 root.0 done).0)
        (if b then open_done root.0 root.1 (path_in root.0 done) done else open_root root.0 (visits lookups limit [] root.1 root.0 done))
    at true = done_leaves root.0 root.1 (path_in root.0 done) done
    at false = root_leaves root.0 (visits lookups limit [] root.1 root.0 done)

-- ---- the last try

module _ (lookups : List ℕ → Lookup) (resolves : List ℕ → Option (List ℕ)) (limit : ℕ) (path : List ℕ) (old now : List Done)
    (start : IsFront lookups resolves limit path old now) where
  -- it comes to what a single opening does
  pub same_opening : opening lookups resolves limit path now ≡ opening lookups resolves limit path old
  same_opening = (name_same lookups limit (root_of resolves path) old now (grows_extends start.grows) start.front start.root).0

  pub same_grown : grown lookups limit (root_of resolves path) now ≡ grown lookups limit (root_of resolves path) old
  same_grown = (name_same lookups limit (root_of resolves path) old now (grows_extends start.grows) start.front start.root).1

  module _ (later : List Done) (error : ErrorKind) (grows : Grows now later) (root : IsLeftOut (root_of resolves path) now later) where
    front_left : Extends later (grown lookups limit (root_of resolves path) old) → IsFront lookups resolves limit path old later
    front_left f = record {
      grows = grows_join start.grows grows;
      front = f;
      root = left_join (root_of resolves path) old now later start.root root;
    }

    -- a single opening leaves the same
    as_one : RefusesWith path (root_of resolves path) (λ ls. grown ls limit (root_of resolves path) old) (λ ls. opening ls resolves limit path old) lookups later error
        → Extends later (grown lookups limit (root_of resolves path) old) → RefusesTries lookups resolves limit path old later error
    as_one h f = record {
      first = later;
      refused = record { refused = h; root = left_join (root_of resolves path) old now later start.root root };
      more = grows_same later;
      exact = λ e. refl;
      left = front_left f;
    }

    -- a single opening leaves a front of what was there before the last try
    as_front : (first : List Done)
        → RefusesWith path (root_of resolves path) (λ ls. grown ls limit (root_of resolves path) old) (λ ls. opening ls resolves limit path old) lookups first error
        → may_pass error ≡ true → Extends old first → Extends first now → Extends later (grown lookups limit (root_of resolves path) old)
        → RefusesTries lookups resolves limit path old later error
    as_front first h passes g f e = record {
      first = first;
      refused = record { refused = h; root = left_between (root_of resolves path) old first now g f start.root };
      more = grows_behind g (extends_join f (grows_extends grows)) (grows_join start.grows grows);
      exact = λ k. let wrong : true ≡ false = sym passes ∙ k in absurd cc;
      left = front_left e;
    }

  -- what the last try ends with and leaves
  ended : (later : List Done) (end : Ended) → opening lookups resolves limit path now ≡ (later, end)
      → (opening lookups resolves limit path old ≡ (later, end)) × Leaves (grown lookups limit (root_of resolves path) old) (later, end)
  ended later end h =
      let k : opening lookups resolves limit path old ≡ (later, end) = sym same_opening ∙ h in
      (k, subst (Leaves (grown lookups limit (root_of resolves path) old)) k (name_leaves lookups limit (root_of resolves path) old))

  all_left : (later : List Done) → later ≡ grown lookups limit (root_of resolves path) old → Extends later (grown lookups limit (root_of resolves path) old)
  all_left later e = subst (Extends later) e (extends_same later)

  -- a fault of the walk is met by a single opening too
  stopped : (later : List Done) (fault : Fault) → opening lookups resolves limit path now ≡ (later, Refused fault)
      → (opening lookups resolves limit path old ≡ (later, Refused fault)) × Extends later (grown lookups limit (root_of resolves path) old)
  stopped later fault h = let k = ended later (Refused fault) h in (k.0, all_left later k.1)

  absent : (later : List Done) → opening lookups resolves limit path now ≡ (later, NotIncluded)
      → (opening lookups resolves limit path old ≡ (later, NotIncluded)) × Extends later (grown lookups limit (root_of resolves path) old)
  absent later h = let k = ended later NotIncluded h in (k.0, all_left later k.1)

  some_left : (later : List Done) → Extends later (grown lookups limit (root_of resolves path) now)
      → Extends later (grown lookups limit (root_of resolves path) old)
  some_left later h = subst (Extends later) same_grown h

  -- reading a name failed
  failed : (later : List Done) (n p words : List ℕ) → Grows now later → IsLeftOut (root_of resolves path) now later
      → FailsAtName (root_of resolves path) n (λ ls. grown ls limit (root_of resolves path) now) (λ ls. opening ls resolves limit path now) lookups later
      → RefusesTries lookups resolves limit path old later (OpenFile n p words)
  failed later n p words grows root h = at (name_apart n lookups limit (root_of resolves path) old)
    where
      resumed : Extends now (grown (without n lookups) limit (root_of resolves path) old)
          → RefusesTries lookups resolves limit path old later (OpenFile n p words)
      resumed f =
          let same : opening (without n lookups) resolves limit path now ≡ opening (without n lookups) resolves limit path old =
          (name_same (without n lookups) limit (root_of resolves path) old now (grows_extends start.grows) f start.root).0 in
          let left : Extends later (grown lookups limit (root_of resolves path) old) = some_left later h.front in
          as_one later (OpenFile n p words) grows root (record { front = left; end = h.end; exact = sym same ∙ h.exact; lacking = h.lacking }) left

      at : AreApart (root_of resolves path) n (opening (without n lookups) resolves limit path old) (opening lookups resolves limit path old)
          (grown (without n lookups) limit (root_of resolves path) old) (grown lookups limit (root_of resolves path) old)
          → RefusesTries lookups resolves limit path old later (OpenFile n p words)
      at (inl e) = resumed (subst (Extends now) (sym e.1) start.front)
      at (inr c) = by (two_fronts c.2 start.front)
        where
          by : Extends (grown (without n lookups) limit (root_of resolves path) old) now ⊎ Extends now (grown (without n lookups) limit (root_of resolves path) old)
              → RefusesTries lookups resolves limit path old later (OpenFile n p words)
          by (inl f) =
              as_front later (OpenFile n p words) grows root (grown (without n lookups) limit (root_of resolves path) old)
              (record {
                front = c.2;
                end = (opening (without n lookups) resolves limit path old).1;
                exact = ap (λ (l : List Done). (l, (opening (without n lookups) resolves limit path old).1)) c.1;
                lacking = c.0;
              })
              refl (grown_more (without n lookups) limit (root_of resolves path) old) f (some_left later h.front)
          by (inr f) = resumed f

  pub refused_tries : (later : List Done) (error : ErrorKind) → Grows now later → RefusesOpening lookups resolves limit path now later error
      → RefusesTries lookups resolves limit path old later error
  refused_tries later error grows h = by_error error h.refused
    where
      root : IsLeftOut (root_of resolves path) now later
      root = h.root

      by_error : (error : ErrorKind)
          → RefusesWith path (root_of resolves path) (λ ls. grown ls limit (root_of resolves path) now) (λ ls. opening ls resolves limit path now) lookups later error
          → RefusesTries lookups resolves limit path old later error
      by_error (Parse (parse.Syntax file line column expected found)) h = let k = stopped later _ h in as_one later _ grows root k.0 k.1
      by_error (Parse parse.NoMemory) h = absurd h
      by_error (Check error) h =
          let k = stopped later _ h.opened_is in
          as_one later (Check error) grows root (record { file = h.file; opened_is = k.0; refused = h.refused }) k.1
      by_error (OpenFile name p words) h = failed later name p words grows root h
      by_error (FileTooLarge name) h = let k = stopped later _ h in as_one later _ grows root k.0 k.1
      by_error (FileInvalidUtf8 name) h = let k = stopped later _ h in as_one later _ grows root k.0 k.1
      by_error (ImportNotFound file index place name) h = let k = stopped later _ h in as_one later _ grows root k.0 k.1
      by_error (CircularImport name cycle) h = let k = stopped later _ h in as_one later _ grows root k.0 k.1
      by_error (FileNotIncluded p) h = let k = absent later h.1 in as_one later (FileNotIncluded p) grows root (h.0, k.0) k.1
      by_error (FileShadowed name asked shadow) h = let k = stopped later _ h in as_one later _ grows root k.0 k.1
      by_error (DuplicateImport file index place name) h = let k = stopped later _ h in as_one later _ grows root k.0 k.1
      by_error (Custom text is_io) h = let k = some_left later h in as_one later (Custom text is_io) grows root k k
      by_error (NameMismatch asked declared) h = let k = stopped later _ h in as_one later _ grows root k.0 k.1
      by_error (FileLimit most) h = let k = stopped later _ h in as_one later _ grows root k.0 k.1
      by_error NoMemory h = let k = some_left later h in as_one later NoMemory grows root k k
      by_error (ImportEscapes file index place name) h = let k = stopped later _ h in as_one later _ grows root k.0 k.1
      by_error _ h = absurd h

-- ---- the laws

pub begins : BeginsTries
begins lookups resolves limit path old = record {
  grows = grows_same old;
  front = grown_more lookups limit (root_of resolves path) old;
  root = left_same (root_of resolves path) old;
}

-- more look-ups keep a front
front_more : (some others : List ℕ → Lookup) → IsMore some others → (resolves : List ℕ → Option (List ℕ)) (limit : ℕ) (path : List ℕ) (old now : List Done)
    → IsFront some resolves limit path old now → IsFront others resolves limit path old now
front_more some others more resolves limit path old now h = record {
  grows = h.grows;
  front = extends_join h.front (grown_further some others more limit (root_of resolves path) old);
  root = h.root;
}

pub accepted : Once → AcceptedAtLast
accepted once files resolves limit path old now later p q =
    let all : List ℕ → Lookup = joined p.0 q.0 in
    let start : IsFront all resolves limit path old now = front_more p.0 all (more_first p.0 q.0) resolves limit path old now p.2 in
    let opened : opening all resolves limit path now ≡ (later, Accepted) =
    opens_more q.0 all (more_second once files p.0 q.0 p.1 q.1) resolves limit path now later Accepted tt q.2 in
    (all, right_joined files p.0 q.0 p.1 q.1, sym (same_opening all resolves limit path old now start) ∙ opened)

pub refused : Once → RefusedAtLast
refused once files resolves limit path old now later error p grows q =
    let all : List ℕ → Lookup = joined p.0 q.0 in
    let start : IsFront all resolves limit path old now = front_more p.0 all (more_first p.0 q.0) resolves limit path old now p.2 in
    let stops : RefusesOpening all resolves limit path now later error =
    refuses_more q.0 all (more_second once files p.0 q.0 p.1 q.1) resolves limit path now later error q.2 in
    (all, right_joined files p.0 q.0 p.1 q.1, refused_tries all resolves limit path old now start later error grows stops)

report_same : (lookups : List ℕ → Lookup) (limit : ℕ) (root : Option (List ℕ × Option (List ℕ))) (old now : List Done) → Extends old now
    → Extends now (grown lookups limit root old) → IsLeftOut root old now
    → option_map (λ r. report_in r.0 now) root ≡ option_map (λ r. report_in r.0 old) root
report_same lookups limit None old now g f r = refl
report_same lookups limit (Some root) old now g f r = ap (λ (o : Opened). Some o) (at (is_done old root.0) refl)
  where
    at : (b : Bool) → is_done old root.0 ≡ b → report_in root.0 now ≡ report_in root.0 old
    at true e =
        let front : Extends now old = subst (λ (b : Bool). Extends now (if b then old else (visits lookups limit [] root.1 root.0 old).0)) e f in
        ap (report_in root.0) (same_fronts g front)
    at false e =
        ap (λ b. if b then (if is_opened root.0 now then Again else Import) else Compiled) (r ∙ e)
        ∙ sym (ap (λ b. if b then (if is_opened root.0 old then Again else Import) else Compiled) e)

pub reported : ReportedAtLast
reported lookups resolves limit path old now told start h =
    sym (report_same lookups limit (root_of resolves path) old now (grows_extends start.grows) start.front start.root) ∙ h
