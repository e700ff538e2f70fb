-- How an opening is refused.
use Rattle.std.proofs.Common.{◌≡◌, ◌<◌, ◌∷◌, ◌++◌, ◌∙◌, arith, inl, inr, [], ℕ, suc, List, Bool, true, false, refl, sym, ap, subst, length, take, drop, get_or, drop-cons}
use Rattle.std.proofs.Math.ListN.{set}
use Rattle.std.proofs.lemmas.List.{set_split, append-nil, length-append}
use Rattle.std.specs.Prelude.{if◌then◌else◌, Option, Some, None, Result, Ok, Err, IfOk, IfErr, OnOk, OnErr, option_map}
use Rattle.std.specs.Str.{bytes_eq}
use Rattle.pbx_parse.specs.declared.error.ParseError.TheVariants as parse
use Rattle.protox_file_sources.specs.Told.{Told, Lookup, ByLookups}
use Rattle.protox_file_error.specs.declared.error.ErrorKind.{ErrorKind}
use Rattle.protox_file_error.specs.declared.error.ErrorKind.TheVariants.{Parse, Check, OpenFile, FileTooLarge, FileInvalidUtf8, FileNotFound, ImportNotFound, CircularImport, FileNotIncluded, FileShadowed, DuplicateImport, Custom, NameMismatch, FileLimit, NoMemory, ImportEscapes}
use Rattle.protox_compile_walk.specs.Walk.{Done, Visited, Finished, Missing, Faulted, Shadowed, NoImport, is_done, visits}
use Rattle.protox_io.specs.Count.{Count, Later}
use Rattle.protox_io.proofs.Counts.{rose_later}
use Rattle.protox_file_sources.specs.Causes.{IsNamedFault, FaultCause}
use Rattle.protox_file_sources.specs.Library.{Library}
use Rattle.protox_io.specs.FileNames.{name_of, path_equal}
use Rattle.protox_compile_walk.specs.Opens.{IsShadowedBy, IsRoot, Opens, is_settled}
use Rattle.protox_compile_walk.specs.Refusals.{Walk, Extends, Ends, OrNoMemory, IsToldBy, is_absent, RefusesWith, RefusesOpening, IsLeftOut, EndsWithout, RefusedWithout, Grows, HasRootCause, HasOpeningCause}
use Rattle.protox_compile_walk.specs.Opening.{Ended, Accepted, NotIncluded, Refused, mark, asked_path, path_in, open_done, open_root, open_name, root_of, opening, grown, is_opened, report_in, report_of}
use Rattle.protox_compile_walk.specs.declared.root.Opened.{Opened}
use Rattle.protox_compile_walk.specs.declared.root.Opened.TheVariants.{Compiled, Import, Again}
use Rattle.protox_compile_walk.proofs.Extends.{extends_same, grows_same}
use Rattle.protox_compile_walk.proofs.Causes.{asked_is}
use Rattle.protox_compile_walk.proofs.Right.{nothing, right_nothing}
use Rattle.protox_compile_walk.proofs.Roots.{root_walk, root_extends}

-- the first file of the name, marked in its place
pub mark_set : (name : List ℕ) (done : List Done) (i : ℕ) (d : Done) → i < length done → bytes_eq (get_or done i d).name name ≡ true → mark name done ≡ take i done ++ mark name (drop i done) → set done i (record (get_or done i d) { opened = true }) ≡ mark name done
mark_set name done i d h same e = rw (e, drop-cons done i d h, same) (set_split done i (record (get_or done i d) { opened = true }) h)

pub grown_extends : (lookups : List ℕ → Lookup) (limit : ℕ) (root : Option (List ℕ × Option (List ℕ))) (done : List Done) → Extends done (grown lookups limit root done)
grown_extends lookups limit None done = extends_same done
grown_extends lookups limit (Some root) done = by_case (is_done done root.0)
  where
    by_case : (b : Bool) → Extends done (if b then done else (visits lookups limit [] root.1 root.0 done).0)
    by_case true = extends_same done
    by_case false = root_extends limit root.1 root.0 done lookups

missing : (path n : List ℕ) (asked : Option (List ℕ)) (walk : Walk) (lookups : List ℕ → Lookup) (later : List Done) (answer : ErrorKind) → walk lookups ≡ (later, Missing) → OrNoMemory answer (FileNotIncluded path) → RefusesWith path (Some (n, asked)) (λ ls. (walk ls).0) (λ ls. open_root n (walk ls)) lookups later answer
missing path n asked walk lookups later answer e (inl memory) = rw (memory, e) (extends_same later)
missing path n asked walk lookups later answer e (inr same) = rw (same, e) (refl, refl)

-- the root, or an import, has no file
without_root : (n file : List ℕ) (asked : Option (List ℕ)) (end : Visited) (later : List Done) → EndsWithout n file end → (o : Ended) × (open_root n (later, end) ≡ (later, o)) × RefusedWithout (Some (n, asked)) file o
without_root n file asked Missing later h = (NotIncluded, refl, (asked, rw h refl))
without_root n file asked (Faulted (NoImport f i place m)) later h = (Refused (NoImport f i place m), refl, h)
without_root n file asked _ later h = absurd h

other : (path n : List ℕ) (asked : Option (List ℕ)) (walk : Walk) (lookups : List ℕ → Lookup) (later : List Done) (error : ErrorKind) → is_absent error ≡ false → Ends n error walk lookups later → RefusesWith path (Some (n, asked)) (λ ls. (walk ls).0) (λ ls. open_root n (walk ls)) lookups later error
other path n asked walk lookups later (Parse (parse.Syntax file line column expected found)) a h = rw h refl
other path n asked walk lookups later (Parse parse.NoMemory) a h = h
other path n asked walk lookups later (Check error) a h = record { file = h.file; opened_is = rw h.walk_is refl; refused = h.refused }
other path n asked walk lookups later (OpenFile file p fault) a h = let lacking = without_root n file asked h.end later h.lacking in record { front = h.front; end = lacking.0; exact = ap (open_root n) h.exact ∙ lacking.1; lacking = lacking.2 }
other path n asked walk lookups later (FileTooLarge file) a h = rw h refl
other path n asked walk lookups later (FileInvalidUtf8 file) a h = rw h refl
other path n asked walk lookups later (FileNotFound file) a h = absurd (cc)
other path n asked walk lookups later (ImportNotFound x i p y) a h = rw h refl
other path n asked walk lookups later (CircularImport y cycle) a h = rw h refl
other path n asked walk lookups later (FileShadowed y p shadow) a h = rw h refl
other path n asked walk lookups later (DuplicateImport x i p y) a h = rw h refl
other path n asked walk lookups later (Custom text is_io) a h = h
other path n asked walk lookups later (NameMismatch y declared) a h = rw h refl
other path n asked walk lookups later (FileLimit l) a h = rw h refl
other path n asked walk lookups later NoMemory a h = h
other path n asked walk lookups later (ImportEscapes x i p y) a h = rw h refl
other path n asked walk lookups later _ a h = absurd h

absent_ends : (n : List ℕ) (walk : Walk) (lookups : List ℕ → Lookup) (later : List Done) (error : ErrorKind) → is_absent error ≡ true → Ends n error walk lookups later → walk lookups ≡ (later, Missing)
absent_ends n walk lookups later (FileNotFound file) a h = h.1
absent_ends n walk lookups later _ a h = absurd (cc)

-- what the visit of a root was refused with, as the opening of its path says it
refuses_root : (path n : List ℕ) (asked : Option (List ℕ)) (walk : Walk) (lookups : List ℕ → Lookup) (later : List Done) (error answer : ErrorKind) → Ends n error walk lookups later → IsToldBy (FileNotIncluded path) error answer → RefusesWith path (Some (n, asked)) (λ ls. (walk ls).0) (λ ls. open_root n (walk ls)) lookups later answer
refuses_root path n asked walk lookups later error answer h k = by_case (is_absent error) refl
  where
    by_case : (b : Bool) → is_absent error ≡ b → RefusesWith path (Some (n, asked)) (λ ls. (walk ls).0) (λ ls. open_root n (walk ls)) lookups later answer
    by_case true e = missing path n asked walk lookups later answer (absent_ends n walk lookups later error e h) (k.absent e)
    by_case false e = rw (k.other e) (other path n asked walk lookups later error e h)

pub refuses : (limit : ℕ) (path n : List ℕ) (asked : Option (List ℕ)) (root : Option (List ℕ × Option (List ℕ))) (done later : List Done) (lookups : List ℕ → Lookup) (error answer : ErrorKind) → root ≡ Some (n, asked) → is_done done n ≡ false
    → Ends n error (root_walk limit asked n done) lookups later → IsToldBy (FileNotIncluded path) error answer → RefusesWith path root (λ ls. grown ls limit root done) (λ ls. open_name ls limit root done) lookups later answer
refuses limit path n asked root done later lookups error answer e new h k = rw (e, new) (refuses_root path n asked (root_walk limit asked n done) lookups later error answer h k)

-- ---- a name that is finished

pub accepts_again : (lookups : List ℕ → Lookup) (limit : ℕ) (n : List ℕ) (asked : Option (List ℕ)) (done later : List Done) → is_done done n ≡ true → open_done n asked (path_in n done) done ≡ (later, Accepted) → open_name lookups limit (Some (n, asked)) done ≡ (later, Accepted)
accepts_again lookups limit n asked done later there h = rw there h

shadowed_again : (n p s : List ℕ) (asked known : Option (List ℕ)) (done : List Done) → asked ≡ Some p → known ≡ Some s → path_equal s p ≡ false → open_done n asked known done ≡ (done, Refused (Shadowed n p s))
shadowed_again n p s asked known done a k e = rw (a, k, e) refl

pub refuses_again : (lookups : List ℕ → Lookup) (limit : ℕ) (path n : List ℕ) (asked : Option (List ℕ)) (done later : List Done) (error : ErrorKind) → is_done done n ≡ true → later ≡ done → IsShadowedBy n asked (path_in n done) error
    → RefusesWith path (Some (n, asked)) (λ ls. grown ls limit (Some (n, asked)) done) (λ ls. open_name ls limit (Some (n, asked)) done) lookups later error
refuses_again lookups limit path n asked done later (FileShadowed m p s) there same h = rw (there, same, h.0) (shadowed_again n p s asked (path_in n done) done h.1 h.2 h.3)
refuses_again lookups limit path n asked done later NoMemory there same h = rw (there, same) (extends_same done)
refuses_again lookups limit path n asked done later _ there same h = absurd h

pub accepts_new : (lookups : List ℕ → Lookup) (limit : ℕ) (n : List ℕ) (asked : Option (List ℕ)) (done middle later : List Done) → is_done done n ≡ false → visits lookups limit [] asked n done ≡ (middle, Finished) → later ≡ mark n middle → open_name lookups limit (Some (n, asked)) done ≡ (later, Accepted)
accepts_new lookups limit n asked done middle later new h e = rw (new, h, e) refl

-- what is known of the error of a root
pub opening_cause : (limit : ℕ) (path : List ℕ) (resolved : Bool) (later : List Done) (fault : ErrorKind → Type 0) (error answer : ErrorKind) → HasRootCause (asked_path resolved path) limit later fault error → IsToldBy (FileNotIncluded path) error answer → HasOpeningCause limit path later fault answer
opening_cause limit path resolved later fault error answer h k = by_case (is_absent error) refl
  where
    absence : OrNoMemory answer (FileNotIncluded path) → HasOpeningCause limit path later fault answer
    absence (inl memory) = rw memory tt
    absence (inr same) = rw same refl

    other_kind : (e : ErrorKind) → HasRootCause (asked_path resolved path) limit later fault e → is_absent e ≡ false → HasOpeningCause limit path later fault e
    other_kind (FileNotFound name) x a = absurd (cc)
    other_kind (FileNotIncluded p) x a = absurd x
    other_kind (FileShadowed name p s) x a = (asked_is resolved path p x.0, x.1)
    other_kind _ x a = x

    by_case : (b : Bool) → is_absent error ≡ b → HasOpeningCause limit path later fault answer
    by_case true e = absence (k.absent e)
    by_case false e = rw (k.other e) (other_kind error h e)

-- the same of a cause that another gives
pub cause_later : (limit : ℕ) (path : List ℕ) (later : List Done) (fault wider : ErrorKind → Type 0) (error : ErrorKind) → ((e : ErrorKind) → fault e → wider e) → HasOpeningCause limit path later fault error
    → HasOpeningCause limit path later wider error
cause_later limit path later fault wider (OpenFile name p words) f h = f (OpenFile name p words) h
cause_later limit path later fault wider (Custom text is_io) f h = f (Custom text is_io) h
cause_later limit path later fault wider _ f h = h

-- a fault since a later call is one since an earlier one, of a resolver that is as it was
pub fault_since : (old new : Library) (first before now : Count) → new ≡ old → Later first before → (e : ErrorKind) → FaultCause new before now e
    → FaultCause old first now e
fault_since old new first before now same later e (rose, fault) =
    (rose_later first before now later rose, (let P : Library → Type 0 = λ l. IsNamedFault l.may_fail e in subst P same fault))

-- ---- marks

-- a finished file is marked
pub opens_again : {E : Type 0} (result : Result Opened E) (name : List ℕ) (old new : List Done) → name_of name ≡ Some name → is_done old name ≡ true
    → OnOk result (new ≡ mark name old) → IfOk result (λ report. report ≡ (if is_opened name old then Again else Import)) → IfOk result (Opens old new)
opens_again (Err e) name old new own there h told = tt
opens_again (Ok x) name old new own there h told =
    record { name = name; named = own; middle = old; grows = grows_same old; finished = there; marked = h; reported = rw there told }

-- a file that is finished now is marked
pub opens_new : (name : List ℕ) (old middle new : List Done) → name_of name ≡ Some name → Grows old middle → is_done middle name ≡ true → new ≡ mark name middle → is_done old name ≡ false → Opens old new Compiled
opens_new name old middle new own grows there h fresh =
    record { name = name; named = own; middle = middle; grows = grows; finished = there; marked = h; reported = rw fresh refl }

length_mark : (name : List ℕ) (done : List Done) → length (mark name done) ≡ length done
length_mark name [] = refl
length_mark name (d ∷ ds) = at (length_mark name ds) (bytes_eq d.name name)
  where
    at : length (mark name ds) ≡ length ds → (b : Bool) → length (if b then record d { opened = true } ∷ ds else d ∷ mark name ds) ≡ suc (length ds)
    at rest true = refl
    at rest false = ap suc rest

-- where a name was finished that was not before, there are more files
pub longer : (name : List ℕ) (old middle new : List Done) → is_done old name ≡ false → Grows old middle → is_done middle name ≡ true → new ≡ mark name middle → length new ≡ length old → ⊥
longer name old middle new fresh grows there marked same = at grows.more grows.is
  where
    at : (more : List Done) → middle ≡ old ++ more → ⊥
    at [] e = let both : true ≡ false = sym there ∙ ap (λ ds. is_done ds name) (e ∙ append-nil old) ∙ fresh in cc
    at (d ∷ ds) e = omega (arith, same, ap length marked, length_mark name middle, ap length e, length-append old (d ∷ ds))

-- ---- by look-ups

-- what some look-ups give
pub by_lookups : {P Q : (List ℕ → Lookup) → Type 0} (files : List ℕ → Told) → ((lookups : List ℕ → Lookup) → P lookups → Q lookups) → ByLookups files P → ByLookups files Q
by_lookups files f h = (h.0, h.1, f h.0 h.2)

module _ (files : List ℕ → Told) (limit : ℕ) (n : List ℕ) (asked : Option (List ℕ)) (done later : List Done) where
  -- a name that is finished is not looked up
  pub ok_again : {T E : Type 0} (result : Result T E) → is_done done n ≡ true → OnOk result (open_done n asked (path_in n done) done ≡ (later, Accepted)) → OnOk result (ByLookups files (λ ls. open_name ls limit (Some (n, asked)) done ≡ (later, Accepted)))
  ok_again (Err e) there h = tt
  ok_again (Ok x) there h = (nothing, right_nothing files, accepts_again nothing limit n asked done later there h)

  pub err_again : {T : Type 0} (path : List ℕ) (result : Result T ErrorKind) → is_done done n ≡ true → OnErr result (later ≡ done) → IfErr result (IsShadowedBy n asked (path_in n done))
      → IfErr result (λ e. ByLookups files (λ ls. RefusesWith path (Some (n, asked)) (λ l. grown l limit (Some (n, asked)) done) (λ l. open_name l limit (Some (n, asked)) done) ls later e))
  err_again path (Ok x) there same h = tt
  err_again path (Err error) there same h = (nothing, right_nothing files, refuses_again nothing limit path n asked done later error there same h)

  pub ok_new : (middle : List Done) → is_done done n ≡ false → ByLookups files (λ ls. visits ls limit [] asked n done ≡ (middle, Finished)) → later ≡ mark n middle → ByLookups files (λ ls. open_name ls limit (Some (n, asked)) done ≡ (later, Accepted))
  ok_new middle new h e = by_lookups files (λ ls k. accepts_new ls limit n asked done middle later new k e) h

  pub err_new : (path : List ℕ) (error answer : ErrorKind) → is_done done n ≡ false → ByLookups files (λ ls. Ends n error (root_walk limit asked n done) ls later) → IsToldBy (FileNotIncluded path) error answer
      → ByLookups files (λ ls. RefusesWith path (Some (n, asked)) (λ l. grown l limit (Some (n, asked)) done) (λ l. open_name l limit (Some (n, asked)) done) ls later answer)
  err_new path error answer new h k = by_lookups files (λ ls e. refuses limit path n asked (Some (n, asked)) done later ls error answer refl new e k) h

-- ---- a path

pub left_out_same : (root : Option (List ℕ × Option (List ℕ))) (done : List Done) → IsLeftOut root done done
left_out_same None done = tt
left_out_same (Some root) done = refl

module _ (files : List ℕ → Told) (resolves : List ℕ → Option (List ℕ)) (limit : ℕ) (path : List ℕ) (done : List Done) where
  -- a path that has no name
  unknown : (error : ErrorKind) → root_of resolves path ≡ None → OrNoMemory error (FileNotIncluded path) → RefusesWith path (root_of resolves path) (λ ls. grown ls limit (root_of resolves path) done) (λ ls. opening ls resolves limit path done) nothing done error
  unknown error e (inl memory) = rw memory (grown_extends nothing limit (root_of resolves path) done)
  unknown error e (inr same) = rw (same, e) (refl, refl)

  pub path_unknown : (error : ErrorKind) → root_of resolves path ≡ None → OrNoMemory error (FileNotIncluded path) → ByLookups files (λ ls. RefusesOpening ls resolves limit path done done error)
  path_unknown error e h = (nothing, right_nothing files, record { refused = unknown error e h; root = left_out_same (root_of resolves path) done })

  pub path_memory : ByLookups files (λ ls. RefusesOpening ls resolves limit path done done NoMemory)
  path_memory = (nothing, right_nothing files, record { refused = grown_extends nothing limit (root_of resolves path) done; root = left_out_same (root_of resolves path) done })

  module _ (n : List ℕ) (asked : Option (List ℕ)) (root : root_of resolves path ≡ Some (n, asked)) (later : List Done) where
    pub path_accepts : {T E : Type 0} (result : Result T E) → OnOk result (ByLookups files (λ ls. open_name ls limit (Some (n, asked)) done ≡ (later, Accepted))) → OnOk result (ByLookups files (λ ls. opening ls resolves limit path done ≡ (later, Accepted)))
    path_accepts result h = let P : Option (List ℕ × Option (List ℕ)) → Type 0 = λ r. OnOk result (ByLookups files (λ ls. open_name ls limit r done ≡ (later, Accepted))) in subst P (sym root) h

    pub path_refuses : {T : Type 0} (result : Result T ErrorKind) → IfErr result (λ e. ByLookups files (λ ls. RefusesWith path (Some (n, asked)) (λ l. grown l limit (Some (n, asked)) done) (λ l. open_name l limit (Some (n, asked)) done) ls later e))
        → OnErr result (is_done later n ≡ is_done done n) → IfErr result (λ e. ByLookups files (λ ls. RefusesOpening ls resolves limit path done later e))
    path_refuses (Ok x) h out = tt
    path_refuses (Err error) h out =
        let P : Option (List ℕ × Option (List ℕ)) → Type 0 = λ r. ByLookups files (λ ls. RefusesWith path r (λ l. grown l limit r done) (λ l. open_name l limit r done) ls later error) in
        let L : Option (List ℕ × Option (List ℕ)) → Type 0 = λ r. IsLeftOut r done later in
        by_lookups files (λ ls k. record { refused = k; root = subst L (sym root) out }) (subst P (sym root) h)

-- the root that was found
pub root_found : (root : Option (List ℕ × Option (List ℕ))) (path name text : List ℕ) (resolved : Bool) (found : Option (List ℕ × Bool)) → IsRoot root path found → found ≡ Some (name, resolved) → text ≡ name → root ≡ Some (text, asked_path resolved path)
root_found root path name text resolved found h e t =
    let P : Option (List ℕ × Bool) → Type 0 = λ f. IsRoot root path f in
    rw t (subst P e h)

pub root_missing : (root : Option (List ℕ × Option (List ℕ))) (path : List ℕ) (found : Option (List ℕ × Bool)) → IsRoot root path found → found ≡ None → root ≡ None
root_missing root path found h e = let P : Option (List ℕ × Bool) → Type 0 = λ f. IsRoot root path f in subst P e h

-- its name is finished
pub settled_found : (root : Option (List ℕ × Option (List ℕ))) (name : List ℕ) (asked : Option (List ℕ)) (done : List Done) → root ≡ Some (name, asked) → is_settled root done ≡ true → is_done done name ≡ true
settled_found root name asked done e h = let P : Option (List ℕ × Option (List ℕ)) → Type 0 = λ r. is_settled r done ≡ true in subst P e h

-- what is told of the name that was found
pub path_reports : {E : Type 0} (resolves : List ℕ → Option (List ℕ)) (path name : List ℕ) (asked : Option (List ℕ)) (done : List Done) (result : Result Opened E) → root_of resolves path ≡ Some (name, asked)
    → IfOk result (λ report. report ≡ report_in name done) → IfOk result (λ report. report_of resolves path done ≡ Some report)
path_reports resolves path name asked done (Err e) root h = tt
path_reports resolves path name asked done (Ok told) root h = ap (option_map (λ (r : List ℕ × Option (List ℕ)). report_in r.0 done)) root ∙ ap Some (sym h)

-- what is told of a name that is finished
pub report_again : {E : Type 0} (name : List ℕ) (done : List Done) (result : Result Opened E) → is_done done name ≡ true
    → IfOk result (λ report. report ≡ (if is_opened name done then Again else Import)) → IfOk result (λ report. report ≡ report_in name done)
report_again name done (Err e) there h = tt
report_again name done (Ok told) there h = rw there h

-- and of one that is not
pub report_new : (name : List ℕ) (done : List Done) → is_done done name ≡ false → Compiled ≡ report_in name done
report_new name done new = rw new refl
