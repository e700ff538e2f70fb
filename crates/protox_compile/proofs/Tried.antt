-- Opening a path again.
use Rattle.std.proofs.Common.{◌≡◌, ◌≤◌, ◌+◌, ◌-◌, ◌∷◌, ◌++◌, ◌∙◌, [], ℕ, suc, List, Bool, true, false, inl, inr, refl, sym, ap, subst, length, map, drop, arith, append_assoc, append-nil}
use Rattle.std.specs.List.{list_all}
use Rattle.std.specs.Prelude.{◌||◌, ◌&&◌, not, if◌then◌else◌, Option, Some, None, option_map}
use Rattle.std.specs.Str.{bytes_eq}
use Rattle.std.proofs.lemmas.List.{append_cancel_left, length-append}
use Rattle.std.proofs.lemmas.List.Folds.{list_any-append, list_all-append}
use Rattle.protox_io.specs.Count.{Count, Later, Rose, RoseTimes}
use Rattle.protox_io.specs.FileNames.{path_equal}
use Rattle.protox_file_error.specs.declared.error.ErrorKind.{ErrorKind}
use Rattle.protox_file_error.specs.declared.error.ErrorKind.TheVariants.{OpenFile, Custom, NoMemory}
use Rattle.protox_file_sources.specs.Causes.{FaultCause, FaultsCause, IsNamedFault}
use Rattle.protox_file_sources.specs.Library.{Library}
use Rattle.protox_file_sources.specs.Told.{Lookup}
use Rattle.protox_compile_walk.specs.Compiled.{metadata_of}
use Rattle.protox_compile_walk.specs.Walk.{Done, Shadowed, Visited, Finished, Missing, Faulted, is_done, visits}
use Rattle.protox_compile_walk.specs.declared.root.Opened.{Opened}
use Rattle.protox_compile_walk.specs.declared.root.Opened.TheVariants.{Compiled, Import, Again}
use Rattle.protox_compile_walk.specs.Opening.{Ended, Accepted, NotIncluded, Refused, mark, is_opened, path_in, open_done, open_root, open_name, root_of, opening, report_in, report_of}
use Rattle.protox_compile_walk.specs.Refusals.{Extends, Grows, HasOpeningCause, RefusedWithout, RefusesOpening, is_imported, without}
use Rattle.protox_compile_walk.specs.Opens.{Opens, is_settled}
use Rattle.protox_compile_walk.proofs.Openings.{cause_later}
use Rattle.protox_compile_walk.proofs.Extends.{extends_same, grows_same}
use Rattle.protox_compile_walk.proofs.Roots.{root_extends}
use Rattle.protox_compile_laws.specs.Retry.{RefusesTries, may_pass}
use Rattle.protox_compile.specs.State.{most_files}
use Rattle.protox_compile.specs.Compiling.{HasCompilingCause}
use Rattle.protox_compile.specs.Tries.{has_opened, lacks_memory, last_error, told_before}
use Rattle.protox_compile.proofs.Repeats.{done_marked}

-- ---- counts

-- one opening more at which the count rose
pub rose_next : (times more : ℕ) (a b c : Count) → more ≡ times + 1 → RoseTimes times a b → Later b c → Rose b c → RoseTimes more a c
rose_next times more a b c e (inl h) later (inl rose) = inl (omega arith)
rose_next times more a b c e (inl h) later (inr spent) = inr spent
rose_next times more a b c e (inr spent) later rose = inr (later.spent spent)

pub rose_times_later : (times : ℕ) (a b c : Count) → Later a b → RoseTimes times b c → RoseTimes times a c
rose_times_later times a b c h (inl rose) = inl (omega (arith, h.faults, rose))
rose_times_later times a b c h (inr spent) = inr spent

-- faults since a later call are some since an earlier one, of a resolver that is as it was
pub faults_since : (times : ℕ) (old new : Library) (first before now : Count) → new ≡ old → Later first before → (e : ErrorKind) → FaultsCause times new before now e
    → FaultsCause times old first now e
faults_since times old new first before now same later e (rose, fault) =
    (rose_times_later times first before now later rose, (let P : Library → Type 0 = λ l. IsNamedFault l.may_fail e in subst P same fault))

-- one opening meets one fault
pub fault_once : (library : Library) (before now : Count) (e : ErrorKind) → FaultsCause 1 library before now e → FaultCause library before now e
fault_once library before now e (inl rose, fault) = (inl (omega arith), fault)
fault_once library before now e (inr spent, fault) = (inr spent, fault)

pub compiling_once : (paths : List (List ℕ)) (library : Library) (before now : Count) (error : ErrorKind) → HasCompilingCause paths (FaultsCause 1 library before now) error
    → HasCompilingCause paths (FaultCause library before now) error
compiling_once paths library before now error (inl memory) = inl memory
compiling_once paths library before now error (inr (done, h)) =
    inr (
      done,
      record {
        before = h.before;
        path = h.path;
        after = h.after;
        split = h.split;
        middle = h.middle;
        opens = h.opens;
        grows = h.grows;
        cause = cause_later most_files h.path done (FaultsCause 1 library before now) (FaultCause library before now) error (fault_once library before now) h.cause;
      },
    )

-- before the first opening
pub rose_none : (times : ℕ) (a : Count) → times ≡ 0 → RoseTimes times a a
rose_none times a e = inl (omega arith)

pub neither : (a b : Bool) → (a || b) ≡ false → (a ≡ false) × (b ≡ false)
neither true b h = absurd (cc)
neither false b h = (refl, h)

-- ---- what is known of a refused opening

module _ (limit : ℕ) (path : List ℕ) (later : List Done) (library : Library) (now after : Count) where
  -- what may pass and is no want of memory is a fault, at which the count rose
  pub fault_rose : (error : ErrorKind) → may_pass error ≡ true → lacks_memory error ≡ false → HasOpeningCause limit path later (FaultCause library now after) error → Rose now after
  fault_rose (OpenFile name p words) passes memory h = h.0
  fault_rose (Custom text is_io) passes memory h = h.0
  fault_rose NoMemory passes memory h = absurd (cc)
  fault_rose _ passes memory h = absurd (cc)

  module _ (old : Count) (tries left : ℕ) (lacked : Bool) (later_is : Later now after) (rose : lacked ≡ false → RoseTimes (tries - left) old now) where
    faults_cause : (error : ErrorKind) → left ≡ 0 → FaultCause library now after error → lacked ≡ false → FaultsCause (tries + 1) library old after error
    faults_cause error last h memory =
        let more : tries + 1 ≡ tries - left + 1 = omega (arith, last) in
        (rose_next (tries - left) (tries + 1) old now after more (rose memory) later_is h.0, h.1)

    -- the last opening, whose error is answered so, with the faults of those before it
    pub last_cause : (error : ErrorKind) → (may_pass error ≡ true → left ≡ 0) → HasOpeningCause limit path later (FaultCause library now after) error
        → HasOpeningCause limit path later (FaultsCause (tries + 1) library old after) (last_error lacked error)
    last_cause (OpenFile name p words) last h = at lacked refl
      where
        at : (b : Bool) → lacked ≡ b → HasOpeningCause limit path later (FaultsCause (tries + 1) library old after) (if b then NoMemory else OpenFile name p words)
        at true e = tt
        at false e = faults_cause (OpenFile name p words) (last refl) h e
    last_cause (Custom text is_io) last h = at lacked refl
      where
        at : (b : Bool) → lacked ≡ b → HasOpeningCause limit path later (FaultsCause (tries + 1) library old after) (if b then NoMemory else Custom text is_io)
        at true e = tt
        at false e = faults_cause (Custom text is_io) (last refl) h e
    last_cause NoMemory last h = at lacked
      where
        at : (b : Bool) → HasOpeningCause limit path later (FaultsCause (tries + 1) library old after) (if b then NoMemory else NoMemory)
        at true = tt
        at false = tt
    last_cause _ last h = h

-- ---- files behind others

pub grows_join : (a b c : List Done) → Grows a b → Grows b c → Grows a c
grows_join a b c h k = record {
  more = h.more ++ k.more;
  is = k.is ∙ ap (λ (l : List Done). l ++ k.more) h.is ∙ append_assoc a h.more k.more;
  imported = list_all-append is_imported h.more k.more ∙ ap (λ b. b && list_all is_imported k.more) h.imported ∙ k.imported;
}

done_of_both : (n : List ℕ) (a b : List Done) → is_done (a ++ b) n ≡ (is_done a n || is_done b n)
done_of_both n a b = list_any-append (λ (d : Done). bytes_eq d.name n) a b

-- what is settled stays so
pub settled_later : (root : Option (List ℕ × Option (List ℕ))) (old new : List Done) → Grows old new → is_settled root old ≡ true → is_settled root new ≡ true
settled_later None old new g h = refl
settled_later (Some root) old new g h = ap (λ l. is_done l root.0) g.is ∙ done_of_both root.0 old g.more ∙ ap (λ b. b || is_done g.more root.0) h

first_of_both : (a b : Bool) → (a && b) ≡ true → a ≡ true
first_of_both true b h = refl
first_of_both false b h = absurd (cc)

-- of two fronts, the one that extends the other grows it, where both begin one list of imports
grows_first : (old first new : List Done) → Extends old first → Grows first new → Grows old new → Grows old first
grows_first old first new e g h =
    let whole : old ++ (e.more ++ g.more) ≡ old ++ h.more = sym (append_assoc old e.more g.more) ∙ ap (λ (l : List Done). l ++ g.more) (sym e.is) ∙ sym g.is ∙ h.is in
    let rest : e.more ++ g.more ≡ h.more = append_cancel_left old (e.more ++ g.more) h.more whole in
    let both : (list_all is_imported e.more && list_all is_imported g.more) ≡ true
    = sym (list_all-append is_imported e.more g.more) ∙ ap (λ l. list_all is_imported l) rest ∙ h.imported in
    record { more = e.more; is = e.is; imported = first_of_both (list_all is_imported e.more) (list_all is_imported g.more) both }

-- ---- what a name was before

behind : (a b : List Done) → drop (length a) (map metadata_of (a ++ b)) ≡ map metadata_of b
behind [] b = refl
behind (d ∷ ds) b = behind ds b

-- the files behind those that have the name stay as they are
behind_there : (n : List ℕ) (a b : List Done) → is_done a n ≡ true → drop (length a) (map metadata_of (mark n (a ++ b))) ≡ map metadata_of b
behind_there n [] b h = absurd (cc)
behind_there n (d ∷ ds) b h = at (bytes_eq d.name n) h (behind_there n ds b)
  where
    at : (c : Bool) → (c || is_done ds n) ≡ true → (is_done ds n ≡ true → drop (length ds) (map metadata_of (mark n (ds ++ b))) ≡ map metadata_of b)
        → drop (length (d ∷ ds)) (map metadata_of (if c then record d { opened = true } ∷ (ds ++ b) else d ∷ mark n (ds ++ b))) ≡ map metadata_of b
    at true e rest = behind ds b
    at false e rest = rest e

-- those behind others that have not are marked
behind_new : (n : List ℕ) (a b : List Done) → is_done a n ≡ false → drop (length a) (map metadata_of (mark n (a ++ b))) ≡ map metadata_of (mark n b)
behind_new n [] b h = refl
behind_new n (d ∷ ds) b h = at (bytes_eq d.name n) h (behind_new n ds b)
  where
    at : (c : Bool) → (c || is_done ds n) ≡ false → (is_done ds n ≡ false → drop (length ds) (map metadata_of (mark n (ds ++ b))) ≡ map metadata_of (mark n b))
        → drop (length (d ∷ ds)) (map metadata_of (if c then record d { opened = true } ∷ (ds ++ b) else d ∷ mark n (ds ++ b))) ≡ map metadata_of (mark n b)
    at true e rest = absurd (cc)
    at false e rest = rest e

opened_there : (n : List ℕ) (a b : List Done) → is_done a n ≡ true → is_opened n (a ++ b) ≡ is_opened n a
opened_there n [] b h = absurd (cc)
opened_there n (d ∷ ds) b h = at (bytes_eq d.name n) h (opened_there n ds b)
  where
    at : (c : Bool) → (c || is_done ds n) ≡ true → (is_done ds n ≡ true → is_opened n (ds ++ b) ≡ is_opened n ds)
        → (if c then d.opened else is_opened n (ds ++ b)) ≡ (if c then d.opened else is_opened n ds)
    at true e rest = refl
    at false e rest = rest e

opened_new : (n : List ℕ) (a b : List Done) → is_done a n ≡ false → is_opened n (a ++ b) ≡ is_opened n b
opened_new n [] b h = refl
opened_new n (d ∷ ds) b h = at (bytes_eq d.name n) h (opened_new n ds b)
  where
    at : (c : Bool) → (c || is_done ds n) ≡ false → (is_done ds n ≡ false → is_opened n (ds ++ b) ≡ is_opened n b)
        → (if c then d.opened else is_opened n (ds ++ b)) ≡ is_opened n b
    at true e rest = absurd (cc)
    at false e rest = rest e

-- no import is marked as opened
imports_unopened : (n : List ℕ) (b : List Done) → list_all is_imported b ≡ true → is_opened n b ≡ false
imports_unopened n [] h = refl
imports_unopened n (d ∷ ds) h = at (bytes_eq d.name n) d.opened h (imports_unopened n ds)
  where
    at : (c o : Bool) → (not o && list_all is_imported ds) ≡ true → (list_all is_imported ds ≡ true → is_opened n ds ≡ false) → (if c then o else is_opened n ds) ≡ false
    at c true e rest = absurd (cc)
    at true false e rest = refl
    at false false e rest = rest e

imports_have_none : (b : List Done) → list_all is_imported b ≡ true → has_opened (map metadata_of b) ≡ false
imports_have_none [] h = refl
imports_have_none (d ∷ ds) h = at d.opened h (imports_have_none ds)
  where
    at : (o : Bool) → (not o && list_all is_imported ds) ≡ true → (list_all is_imported ds ≡ true → has_opened (map metadata_of ds) ≡ false)
        → (not (not o) || has_opened (map metadata_of ds)) ≡ false
    at true e rest = absurd (cc)
    at false e rest = rest e

marked_has : (n : List ℕ) (b : List Done) → is_done b n ≡ true → has_opened (map metadata_of (mark n b)) ≡ true
marked_has n [] h = absurd (cc)
marked_has n (d ∷ ds) h = at (bytes_eq d.name n) h (marked_has n ds)
  where
    or_true : (o b : Bool) → b ≡ true → (o || b) ≡ true
    or_true true b e = refl
    or_true false b e = e

    at : (c : Bool) → (c || is_done ds n) ≡ true → (is_done ds n ≡ true → has_opened (map metadata_of (mark n ds)) ≡ true)
        → has_opened (map metadata_of (if c then record d { opened = true } ∷ ds else d ∷ mark n ds)) ≡ true
    at true e rest = refl
    at false e rest = or_true (not (not d.opened)) (has_opened (map metadata_of (mark n ds))) (rest e)

length_mark : (n : List ℕ) (done : List Done) → length (mark n done) ≡ length done
length_mark n [] = refl
length_mark n (d ∷ ds) = at (bytes_eq d.name n) (length_mark n ds)
  where
    at : (c : Bool) → length (mark n ds) ≡ length ds → length (if c then record d { opened = true } ∷ ds else d ∷ mark n ds) ≡ length (d ∷ ds)
    at true e = refl
    at false e = ap suc e

-- no file is lost
pub opened_longer : (old middle new : List Done) (report : Opened) → Grows old middle → Opens middle new report → length old ≤ length new
opened_longer old middle new _ g h =
    let first : length middle ≡ length old + length g.more = ap (λ (l : List Done). length l) g.is ∙ length-append old g.more in
    let second : length h.middle ≡ length middle + length h.grows.more = ap (λ (l : List Done). length l) h.grows.is ∙ length-append middle h.grows.more in
    let third : length new ≡ length h.middle = ap (λ (l : List Done). length l) h.marked ∙ length_mark h.name h.middle in
    omega arith

-- the report, by whether the name is finished and whether it is marked
abbrev pub report_by : Bool → Bool → Opened
report_by there opened = if there then (if opened then Again else Import) else Compiled

module _ (n : List ℕ) (old first more : List Done) (first_imported : list_all is_imported first ≡ true) (imported : list_all is_imported more ≡ true) (finished : is_done (old ++ more) n ≡ true) where
  reports_there : is_done old n ≡ true → told_before (drop (length old) (map metadata_of (mark n (old ++ more)))) (report_in n (old ++ first)) ≡ report_in n old
  reports_there e =
      let there : is_done (old ++ first) n ≡ true = done_of_both n old first ∙ ap (λ b. b || is_done first n) e in
      let now : report_in n (old ++ first) ≡ report_by true (is_opened n old) = ap (λ b. report_by b (is_opened n (old ++ first))) there ∙ ap (report_by true) (opened_there n old first e) in
      let was : report_in n old ≡ report_by true (is_opened n old) = ap (λ b. report_by b (is_opened n old)) e in
      ap (λ l. told_before l (report_in n (old ++ first))) (behind_there n old more e) ∙ ap (told_before (map metadata_of more)) now ∙ kept (is_opened n old) ∙ sym was
    where
      kept : (o : Bool) → told_before (map metadata_of more) (report_by true o) ≡ report_by true o
      kept true = refl
      kept false = ap (λ b. if b then Compiled else Import) (imports_have_none more imported)

  reports_new : is_done old n ≡ false → told_before (drop (length old) (map metadata_of (mark n (old ++ more)))) (report_in n (old ++ first)) ≡ report_in n old
  reports_new e =
      let there : is_done more n ≡ true = ap (λ b. b || is_done more n) (sym e) ∙ sym (done_of_both n old more) ∙ finished in
      let unopened : is_opened n (old ++ first) ≡ false = opened_new n old first e ∙ imports_unopened n first first_imported in
      let now : report_in n (old ++ first) ≡ report_by (is_done (old ++ first) n) false = ap (report_by (is_done (old ++ first) n)) unopened in
      let was : report_in n old ≡ Compiled = ap (λ b. report_by b (is_opened n old)) e in
      ap (λ l. told_before l (report_in n (old ++ first))) (behind_new n old more e) ∙ ap (told_before (map metadata_of (mark n more))) now ∙ told (is_done (old ++ first) n) (marked_has n more there) ∙ sym was
    where
      told : (b : Bool) → has_opened (map metadata_of (mark n more)) ≡ true → told_before (map metadata_of (mark n more)) (report_by b false) ≡ Compiled
      told true h = ap (λ b. if b then Compiled else Import) h
      told false h = refl

  reports : told_before (drop (length old) (map metadata_of (mark n (old ++ more)))) (report_in n (old ++ first)) ≡ report_in n old
  reports = at (is_done old n) refl
    where
      at : (b : Bool) → is_done old n ≡ b → told_before (drop (length old) (map metadata_of (mark n (old ++ more)))) (report_in n (old ++ first)) ≡ report_in n old
      at true e = reports_there e
      at false e = reports_new e

-- an opening behind refused ones opens what was there before them
pub opens_before : (old middle new : List Done) (report : Opened) → Grows old middle → Opens middle new report → Opens old new (told_before (drop (length old) (map metadata_of new)) report)
opens_before old middle new report g h =
    let all : Grows old h.middle = grows_join old middle h.middle g h.grows in
    let files : new ≡ mark h.name (old ++ all.more) = h.marked ∙ ap (mark h.name) all.is in
    let told : report ≡ report_in h.name (old ++ g.more) = h.reported ∙ ap (report_in h.name) g.is in
    let there : is_done (old ++ all.more) h.name ≡ true = sym (ap (λ l. is_done l h.name) all.is) ∙ h.finished in
    record {
      name = h.name;
      named = h.named;
      middle = h.middle;
      grows = all;
      finished = h.finished;
      marked = h.marked;
      reported =
          ap (λ l. told_before (drop (length old) (map metadata_of l)) report) files
          ∙ ap (told_before (drop (length old) (map metadata_of (mark h.name (old ++ all.more))))) told
          ∙ reports h.name old g.more all.more g.imported all.imported there;
    }

-- ---- over a resolver that tells, the report is that of the opening

module _ (lookups : List ℕ → Lookup) (limit : ℕ) (old new : List Done) where
  name_kept : (root : Option (List ℕ × Option (List ℕ))) → open_name lookups limit root old ≡ (new, Accepted) → option_map (λ r. report_in r.0 old) root ≡ Some Import
      → has_opened (drop (length old) (map metadata_of new)) ≡ false
  name_kept None h told = let no : NotIncluded ≡ Accepted = ap (λ o. o.1) h in absurd (cc)
  name_kept (Some root) h told = at (is_done old root.0) refl h
    where
      import_is : report_in root.0 old ≡ Import
      import_is = let whole : Some (report_in root.0 old) ≡ Some Import = told in cc

      at : (b : Bool) → is_done old root.0 ≡ b
          → ◌≡◌ {A = List Done × Ended} (if b then open_done root.0 root.1 (path_in root.0 old) old else open_root root.0 (visits lookups limit [] root.1 root.0 old)) (new, Accepted)
          → has_opened (drop (length old) (map metadata_of new)) ≡ false
      at true e k =
          let marked : new ≡ mark root.0 old = done_marked root.0 root.1 (path_in root.0 old) old new k in
          let none : drop (length old) (map metadata_of (mark root.0 old)) ≡ []
          = ap (λ l. drop (length old) (map metadata_of (mark root.0 l))) (sym (append-nil old)) ∙ behind_there root.0 old [] e in
          ap (λ l. has_opened (drop (length old) (map metadata_of l))) marked ∙ ap has_opened none
      at false e k =
          let was : report_in root.0 old ≡ Compiled = ap (λ b. report_by b (is_opened root.0 old)) e in
          let no : Compiled ≡ Import = sym was ∙ import_is in
          absurd (cc)

pub report_kept : (lookups : List ℕ → Lookup) (resolves : List ℕ → Option (List ℕ)) (limit : ℕ) (path : List ℕ) (old new : List Done) (report : Opened) → opening lookups resolves limit path old ≡ (new, Accepted)
    → report_of resolves path old ≡ Some report → report_of resolves path old ≡ Some (told_before (drop (length old) (map metadata_of new)) report)
report_kept lookups resolves limit path old new Compiled h told = told
report_kept lookups resolves limit path old new Again h told = told
report_kept lookups resolves limit path old new Import h told =
    told ∙ sym (ap (λ b. Some (if b then Compiled else Import)) (name_kept lookups limit old new (root_of resolves path) h told))

-- ---- refused tries

-- the answer of the last refused opening
pub tries_end : (lookups : List ℕ → Lookup) (resolves : List ℕ → Option (List ℕ)) (limit : ℕ) (path : List ℕ) (old new : List Done) (lacked : Bool) (error : ErrorKind) → RefusesTries lookups resolves limit path old new error
    → RefusesTries lookups resolves limit path old new (last_error lacked error)
tries_end lookups resolves limit path old new lacked error h = at (may_pass error && lacked)
  where
    at : (b : Bool) → RefusesTries lookups resolves limit path old new (if b then NoMemory else error)
    at true = record {
      first = new;
      refused = record { refused = h.left.front; root = h.left.root };
      more = grows_same new;
      exact = λ no. absurd (cc);
      left = h.left;
    }
    at false = h

-- where it is refused, it keeps the files that were there
abbrev pub KeepsIfRefused : List Done → List Done × Ended → Type 0
KeepsIfRefused old opened = (opened.1 ≡ Accepted → ⊥) → Extends old opened.0

module _ (lookups : List ℕ → Lookup) (limit : ℕ) (old : List Done) where
  done_keeps : (name : List ℕ) (asked known : Option (List ℕ)) → KeepsIfRefused old (open_done name asked known old)
  done_keeps name None known h = absurd (h refl)
  done_keeps name (Some asked) None h = absurd (h refl)
  done_keeps name (Some asked) (Some path) h = at (path_equal path asked) h
    where
      at : (b : Bool) → KeepsIfRefused old (if b then (mark name old, Accepted) else (old, Refused (Shadowed name asked path)))
      at true k = absurd (k refl)
      at false k = extends_same old

  root_keeps : (name : List ℕ) (v : List Done × Visited) → Extends old v.0 → KeepsIfRefused old (open_root name v)
  root_keeps name (d, Finished) e h = absurd (h refl)
  root_keeps name (d, Missing) e h = e
  root_keeps name (d, Faulted fault) e h = e

  name_keeps : (root : Option (List ℕ × Option (List ℕ))) → KeepsIfRefused old (open_name lookups limit root old)
  name_keeps None h = extends_same old
  name_keeps (Some root) h = at (is_done old root.0) h
    where
      at : (b : Bool) → KeepsIfRefused old (if b then open_done root.0 root.1 (path_in root.0 old) old else open_root root.0 (visits lookups limit [] root.1 root.0 old))
      at true k = done_keeps root.0 root.1 (path_in root.0 old) k
      at false k = root_keeps root.0 (visits lookups limit [] root.1 root.0 old) (root_extends limit root.1 root.0 old lookups) k

lacking_refused : (root : Option (List ℕ × Option (List ℕ))) (n : List ℕ) (end : Ended) → RefusedWithout root n end → end ≡ Accepted → ⊥
lacking_refused root n Accepted h e = h
lacking_refused root n NotIncluded h e = cc
lacking_refused root n (Refused fault) h e = cc

-- the single opening that is refused so leaves more files, as imports
pub refused_once : (lookups : List ℕ → Lookup) (resolves : List ℕ → Option (List ℕ)) (limit : ℕ) (path : List ℕ) (old new : List Done) (error : ErrorKind) → RefusesTries lookups resolves limit path old new error
    → (later : List Done) × RefusesOpening lookups resolves limit path old later error × Grows old later
refused_once lookups resolves limit path old new (Custom text is_io) h = (new, record { refused = h.left.front; root = h.left.root }, h.left.grows)
refused_once lookups resolves limit path old new NoMemory h = (new, record { refused = h.left.front; root = h.left.root }, h.left.grows)
refused_once lookups resolves limit path old new (OpenFile name p words) h =
    let failed = h.refused.refused in
    let kept : Extends old (opening (without name lookups) resolves limit path old).0
    = name_keeps (without name lookups) limit old (root_of resolves path) (λ e. lacking_refused (root_of resolves path) name failed.end failed.lacking (sym (ap (λ o. o.1) failed.exact) ∙ e)) in
    (h.first, h.refused, grows_first old h.first new (subst (Extends old) (ap (λ o. o.0) failed.exact) kept) h.more h.left.grows)
refused_once lookups resolves limit path old new _ h =
    let same : h.first ≡ new = h.exact refl in
    (h.first, h.refused, subst (Grows old) (sym same) h.left.grows)
