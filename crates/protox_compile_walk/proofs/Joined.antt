-- Look-ups of one resolver, joined, and what is known of openings by more of them.
use Rattle.std.proofs.Common.{◌≡◌, ◌⊎◌, inl, inr, ◌∙◌, ℕ, List, refl, sym, subst}
use Rattle.std.specs.Prelude.{Option}
use Rattle.pbx_parse.specs.declared.error.ParseError.TheVariants as parse
use Rattle.protox_file_sources.specs.Told.{Told, Lookup, NoFile, IsFile, TextFault, Unread, IsFound, IsLookup, AreLookups, AreComplete}
use Rattle.protox_file_error.specs.declared.error.ErrorKind.{ErrorKind}
use Rattle.protox_file_error.specs.declared.error.ErrorKind.TheVariants.{Parse, Check, OpenFile, FileTooLarge, FileInvalidUtf8, ImportNotFound, CircularImport, FileNotIncluded, FileShadowed, DuplicateImport, Custom, NameMismatch, FileLimit, NoMemory, ImportEscapes}
use Rattle.protox_compile_walk.specs.Walk.{Done, NoImport}
use Rattle.protox_compile_walk.specs.Opening.{Ended, Accepted, NotIncluded, Refused, IsDecided, root_of, opening, closure, grown}
use Rattle.protox_compile_walk.specs.Refusals.{without, RefusedWithout, RefusesWith, RefusesOpening}
use Rattle.protox_compile_walk.specs.Closures.{StopsAt}
use Rattle.protox_compile_walk.specs.Resume.{IsMore}
use Rattle.protox_compile_walk.proofs.Extends.{extends_join}
use Rattle.protox_compile_walk.proofs.Right.{more_without}
use Rattle.protox_compile_walk.proofs.More.{opening_decided, closure_decided, grown_further}

-- what looking a name up comes to is one thing at most
abbrev pub Once : Type 0
Once = (name : List ℕ) (told : Told) (a b : Lookup) → IsFound name told a → IsFound name told b → a ≡ b

-- ---- joined look-ups

abbrev or_else : Lookup → Lookup → Lookup
or_else NoFile b = NoFile
or_else (IsFile entry) b = IsFile entry
or_else (TextFault kind) b = TextFault kind
or_else Unread b = b

-- those that the first looked up, and else those of the second
abbrev pub joined : (List ℕ → Lookup) → (List ℕ → Lookup) → List ℕ → Lookup
joined some others name = or_else (some name) (others name)

pub right_joined : (files : List ℕ → Told) (some others : List ℕ → Lookup) → AreLookups files some → AreLookups files others → AreLookups files (joined some others)
right_joined files some others p q name = at (some name) (p name)
  where
    at : (a : Lookup) → IsLookup name (files name) a → IsLookup name (files name) (or_else a (others name))
    at NoFile r = r
    at (IsFile entry) r = r
    at (TextFault kind) r = r
    at Unread r = q name

pub more_first : (some others : List ℕ → Lookup) → IsMore some (joined some others)
more_first some others name = at (some name)
  where
    at : (a : Lookup) → (a ≡ Unread) ⊎ (or_else a (others name) ≡ a)
    at NoFile = inr refl
    at (IsFile entry) = inr refl
    at (TextFault kind) = inr refl
    at Unread = inl refl

-- two look-ups of a name, each that was made
agree : Once → (name : List ℕ) (told : Told) (a b : Lookup) → IsLookup name told a → IsLookup name told b → (b ≡ Unread) ⊎ (or_else a b ≡ b)
agree once name told a Unread p q = inl refl
agree once name told Unread b p q = inr refl
agree once name told NoFile NoFile p q = inr refl
agree once name told NoFile (IsFile entry) p q = inr (once name told NoFile (IsFile entry) p q)
agree once name told NoFile (TextFault kind) p q = inr (once name told NoFile (TextFault kind) p q)
agree once name told (IsFile entry) NoFile p q = inr (once name told (IsFile entry) NoFile p q)
agree once name told (IsFile entry) (IsFile other) p q = inr (once name told (IsFile entry) (IsFile other) p q)
agree once name told (IsFile entry) (TextFault kind) p q = inr (once name told (IsFile entry) (TextFault kind) p q)
agree once name told (TextFault kind) NoFile p q = inr (once name told (TextFault kind) NoFile p q)
agree once name told (TextFault kind) (IsFile entry) p q = inr (once name told (TextFault kind) (IsFile entry) p q)
agree once name told (TextFault kind) (TextFault other) p q = inr (once name told (TextFault kind) (TextFault other) p q)

pub more_second : Once → (files : List ℕ → Told) (some others : List ℕ → Lookup) → AreLookups files some → AreLookups files others → IsMore others (joined some others)
more_second once files some others p q name = agree once name (files name) (some name) (others name) (p name) (q name)

-- ---- look-ups of all names

or_all : (a b : Lookup) → (a ≡ Unread) ⊎ (or_else b a ≡ a) → ¬ (b ≡ Unread) → (a ≡ Unread) ⊎ (b ≡ a)
or_all a NoFile h c = h
or_all a (IsFile entry) h c = h
or_all a (TextFault kind) h c = h
or_all a Unread h c = absurd (c refl)

pub more_all : Once → (files : List ℕ → Told) (some all : List ℕ → Lookup) → AreLookups files some → AreLookups files all → AreComplete all → IsMore some all
more_all once files some all p q c name = or_all (some name) (all name) (agree once name (files name) (all name) (some name) (q name) (p name)) (c name)

-- ---- what is known of openings stays by more look-ups

lacking_decided : (root : Option (List ℕ × Option (List ℕ))) (n : List ℕ) (end : Ended) → RefusedWithout root n end → IsDecided end
lacking_decided root n NotIncluded h = tt
lacking_decided root n (Refused (NoImport file index place m)) h = tt
lacking_decided root n _ h = absurd h

decided_as : (o p : List Done × Ended) → o ≡ p → IsDecided p.1 → IsDecided o.1
decided_as o p e d = let P : List Done × Ended → Type 0 = λ x. IsDecided x.1 in subst P (sym e) d

module _ (some others : List ℕ → Lookup) (more : IsMore some others) (resolves : List ℕ → Option (List ℕ)) (limit : ℕ) where
  -- an opening that ended so ends so
  pub opens_more : (path : List ℕ) (done later : List Done) (end : Ended) → IsDecided end → opening some resolves limit path done ≡ (later, end) → opening others resolves limit path done ≡ (later, end)
  opens_more path done later end d e = opening_decided some others more resolves limit path done (decided_as (opening some resolves limit path done) (later, end) e d) ∙ e

  pub closes_more : (paths : List (List ℕ)) (done later : List Done) (end : Ended) → IsDecided end → closure some resolves limit paths done ≡ (later, end) → closure others resolves limit paths done ≡ (later, end)
  closes_more paths done later end d e = closure_decided some others more resolves limit paths done (decided_as (closure some resolves limit paths done) (later, end) e d) ∙ e

  module _ (path : List ℕ) (done later : List Done) where
    refuses_with : (error : ErrorKind) → RefusesWith path (root_of resolves path) (λ ls. grown ls limit (root_of resolves path) done) (λ ls. opening ls resolves limit path done) some later error → RefusesWith path (root_of resolves path) (λ ls. grown ls limit (root_of resolves path) done) (λ ls. opening ls resolves limit path done) others later error
    refuses_with (Parse (parse.Syntax file line column expected found)) h = opens_more path done later _ tt h
    refuses_with (Parse parse.NoMemory) h = h
    refuses_with (Check error) h = record { file = h.file; opened_is = opens_more path done later _ tt h.opened_is; refused = h.refused }
    refuses_with (OpenFile name p fault) h = record {
      front = extends_join h.front (grown_further some others more limit (root_of resolves path) done);
      end = h.end;
      exact = opening_decided (without name some) (without name others) (more_without some others name more) resolves limit path done (decided_as (opening (without name some) resolves limit path done) (later, h.end) h.exact (lacking_decided (root_of resolves path) name h.end h.lacking)) ∙ h.exact;
      lacking = h.lacking;
    }
    refuses_with (FileTooLarge name) h = opens_more path done later _ tt h
    refuses_with (FileInvalidUtf8 name) h = opens_more path done later _ tt h
    refuses_with (ImportNotFound file index place name) h = opens_more path done later _ tt h
    refuses_with (CircularImport name cycle) h = opens_more path done later _ tt h
    refuses_with (FileNotIncluded p) h = (h.0, opens_more path done later _ tt h.1)
    refuses_with (FileShadowed name asked shadow) h = opens_more path done later _ tt h
    refuses_with (DuplicateImport file index place name) h = opens_more path done later _ tt h
    refuses_with (Custom text is_io) h = extends_join h (grown_further some others more limit (root_of resolves path) done)
    refuses_with (NameMismatch asked declared) h = opens_more path done later _ tt h
    refuses_with (FileLimit most) h = opens_more path done later _ tt h
    refuses_with NoMemory h = extends_join h (grown_further some others more limit (root_of resolves path) done)
    refuses_with (ImportEscapes file index place name) h = opens_more path done later _ tt h
    refuses_with _ h = absurd h

    -- an opening that was refused so is refused so
    pub refuses_more : (error : ErrorKind) → RefusesOpening some resolves limit path done later error → RefusesOpening others resolves limit path done later error
    refuses_more error h = record { refused = refuses_with error h.refused; root = h.root }

  pub stops_more : (paths : List (List ℕ)) (old new : List Done) (error : ErrorKind) → StopsAt some resolves limit paths old new error → StopsAt others resolves limit paths old new error
  stops_more paths old new error h = record {
    before = h.before;
    path = h.path;
    after = h.after;
    middle = h.middle;
    split = h.split;
    accepted = closes_more h.before old h.middle Accepted tt h.accepted;
    refused = refuses_more h.path h.middle new error h.refused;
    grows = h.grows;
  }

-- ---- what openings come to is one thing

pub opens_once : Once → (files : List ℕ → Told) (resolves : List ℕ → Option (List ℕ)) (limit : ℕ) (path : List ℕ) (done : List Done) (some others : List ℕ → Lookup) → AreLookups files some → AreLookups files others
    → IsDecided (opening some resolves limit path done).1 → IsDecided (opening others resolves limit path done).1 → opening some resolves limit path done ≡ opening others resolves limit path done
opens_once once files resolves limit path done some others p q d e =
    sym (opening_decided some (joined some others) (more_first some others) resolves limit path done d)
    ∙ opening_decided others (joined some others) (more_second once files some others p q) resolves limit path done e

pub closes_once : Once → (files : List ℕ → Told) (resolves : List ℕ → Option (List ℕ)) (limit : ℕ) (paths : List (List ℕ)) (done : List Done) (some others : List ℕ → Lookup) → AreLookups files some → AreLookups files others
    → IsDecided (closure some resolves limit paths done).1 → IsDecided (closure others resolves limit paths done).1 → closure some resolves limit paths done ≡ closure others resolves limit paths done
closes_once once files resolves limit paths done some others p q d e =
    sym (closure_decided some (joined some others) (more_first some others) resolves limit paths done d)
    ∙ closure_decided others (joined some others) (more_second once files some others p q) resolves limit paths done e
