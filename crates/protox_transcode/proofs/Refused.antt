-- Two refusals of one input are one.
use Rattle.std.proofs.Common.{◌≡◌, ◌∙◌, ◌⊎◌, ◌++◌, ◌∷◌, ◌<◌, ◌≤◌, [], inl, inr, ℕ, List, length, true, false, Bool, Option, Some, None, ap, sym, subst, refl, arith}
use Rattle.std.specs.Prelude.{Contains, find}
use Rattle.std.proofs.lemmas.Bool.{cases_lt}
use Rattle.serde_json.specs.Data.{Data}
use Rattle.pbx_content.specs.declared.shape.Shape.{Shape}
use Rattle.pbx_desc_records.specs.declared.file.FileDescriptorProto.{FileDescriptorProto}
use Rattle.pbx_desc_records.specs.declared.message.DescriptorProto.{DescriptorProto}
use Rattle.pbx_parse.specs.declared.error.ParseError.TheVariants as parse
use Rattle.pbx_link_definitions.specs.Definitions.{Place}
use Rattle.pbx_link_definitions.specs.Names.{text_or_empty}
use Rattle.pbx_link_definitions.specs.declared.error.DescriptorError.TheVariants as check
use Rattle.pbx_link_meaning.specs.Descriptors.{Described, message_of_name}
use Rattle.pbx_link_meaning.specs.Shapes.{shape_of, place_of}
use Rattle.pbx_link_rules.specs.Breaches.{BreaksFirst, breaches}
use Rattle.pbx_json_meaning.specs.Clash.{ByAnyName, name_fault}
use Rattle.pbx_json_meaning.specs.Faults.{JsonFault}
use Rattle.pbx_json_meaning.specs.declared.error.JsonError.{JsonError}
use Rattle.pbx_json_meaning.specs.declared.kind.JsonKind.TheVariants as json
use Rattle.pbx_json_meaning.specs.declared.names_fault.NameFault.{NameFault}
use Rattle.pbx_json_meaning.specs.declared.names_fault.NameFault.TheVariants as names
use Rattle.pbx_json_meaning.specs.declared.place.Step.{Step}
use Rattle.pbx_json_meaning.specs.Laws.{FirstFaultIsOnePlace}
use Rattle.protox_io.specs.Count.{Count}
use Rattle.protox_file_error.specs.Errors.{IsWhole}
use Rattle.protox_file_error.specs.declared.error.ErrorKind.{ErrorKind}
use Rattle.protox_file_error.specs.declared.error.ErrorKind.TheVariants as kinds
use Rattle.protox_file_sources.specs.Causes.{FaultCause}
use Rattle.protox_file_sources.specs.Library.{Library}
use Rattle.protox_file_sources.specs.Told.{Told, Lookup, AreLookups, ByLookups}
use Rattle.protox_compile_walk.specs.Walk.{Done, Limit, Text, Mismatch, Shadowed, Duplicate, Escapes, Circular, NoImport, Unlinked, NotRead, records}
use Rattle.protox_compile_walk.specs.Opening.{Ended, Accepted, NotIncluded, Refused, opening, closure, grown, root_of}
use Rattle.protox_compile_walk.specs.Refusals.{RefusesWith}
use Rattle.protox_compile_walk.specs.Closures.{StopsAt}
use Rattle.protox_compile_walk.specs.Laws.{ClosesOnce}
use Rattle.protox_compile.specs.Sets.{is_undecodable, IsUndecodable}
use Rattle.protox_compile.specs.State.{most_files}
use Rattle.protox_transcode.specs.Laws.{KindsAreBroken, RefusedOnce, fixed_error, fixed_part}
use Rattle.protox_transcode.specs.Top.{ForFiles, ForType, IsCaused, IsRefused, IsTooDeep, IsUnread, Refuses, RefusesFiles, is_fault, is_refusal, of_names}
use Rattle.protox_transcode.specs.declared.error.TopError.{TopError}
use Rattle.protox_transcode.specs.declared.error.TopError.TheVariants as top
use Rattle.protox_transcode.proofs.Determined.{IsStopped, accepted_alone, among, decided, no_fault, stopped, stopped_by, stopped_whole}

-- ---- what the end of a walk tells

-- a text that is at fault, by the number of its kind
abbrev TellsText : List ℕ → ℕ → ErrorKind → Type 0
TellsText file kind x =
    ((kind ≡ 1) × (x ≡ kinds.Parse (parse.Syntax file 0 0 [] [])))
    ⊎ (((kind ≡ 4) × (x ≡ kinds.FileTooLarge file)) ⊎ ((kind ≡ 5) × (x ≡ kinds.FileInvalidUtf8 file)))

-- a rule that is broken
abbrev TellsRule : List FileDescriptorProto → FileDescriptorProto → ErrorKind → Type 0
TellsRule files f x =
    (rule : ℕ) × (place : Place) × BreaksFirst files f rule place × (x ≡ kinds.Check (check.Rule (text_or_empty f.name) [] rule))

-- the fixed part of the error of an opening that ended so
abbrev Tells : List ℕ → List Done × Ended → ErrorKind → Type 0
Tells path (later, Accepted) x = ⊥
Tells path (later, NotIncluded) x = x ≡ kinds.FileNotIncluded path
Tells path (later, Refused (Limit n)) x = x ≡ kinds.FileLimit n
Tells path (later, Refused (Text file kind)) x = TellsText file kind x
Tells path (later, Refused (Mismatch asked declared)) x = x ≡ kinds.NameMismatch asked declared
Tells path (later, Refused (Shadowed name asked shadow)) x = x ≡ kinds.FileShadowed name asked shadow
Tells path (later, Refused (Duplicate file index place name)) x = x ≡ kinds.DuplicateImport file index place name
Tells path (later, Refused (Escapes file index place name)) x = x ≡ kinds.ImportEscapes file index place name
Tells path (later, Refused (Circular name cycle)) x = x ≡ kinds.CircularImport name cycle
Tells path (later, Refused (NoImport file index place name)) x = x ≡ kinds.ImportNotFound file index place name
Tells path (later, Refused (Unlinked f)) x = TellsRule (records later) f x
Tells path (later, Refused (NotRead name)) x = ⊥

text_once : (file : List ℕ) (kind : ℕ) (x y : ErrorKind) → TellsText file kind x → TellsText file kind y → x ≡ y
text_once file kind x y (inl h) (inl k) = h.1 ∙ sym k.1
text_once file kind x y (inl h) (inr (inl k)) = absurd (let e : 1 ≡ 4 = sym h.0 ∙ k.0 in omega arith)
text_once file kind x y (inl h) (inr (inr k)) = absurd (let e : 1 ≡ 5 = sym h.0 ∙ k.0 in omega arith)
text_once file kind x y (inr (inl h)) (inl k) = absurd (let e : 4 ≡ 1 = sym h.0 ∙ k.0 in omega arith)
text_once file kind x y (inr (inl h)) (inr (inl k)) = h.1 ∙ sym k.1
text_once file kind x y (inr (inl h)) (inr (inr k)) = absurd (let e : 4 ≡ 5 = sym h.0 ∙ k.0 in omega arith)
text_once file kind x y (inr (inr h)) (inl k) = absurd (let e : 5 ≡ 1 = sym h.0 ∙ k.0 in omega arith)
text_once file kind x y (inr (inr h)) (inr (inl k)) = absurd (let e : 5 ≡ 4 = sym h.0 ∙ k.0 in omega arith)
text_once file kind x y (inr (inr h)) (inr (inr k)) = h.1 ∙ sym k.1

-- nothing stands among no places
no_place : (places : List Place) (place : Place) → places ≡ [] → Contains places place → ⊥
no_place places place e h =
    let c : Contains {X = Place} [] place = (let P : List Place → Type 0 = λ ps. Contains ps place in subst P e h) in
    let lt : c.0 < 0 = c.1 in
    omega arith

-- the first rule that is broken is one
rule_once : (files : List FileDescriptorProto) (f : FileDescriptorProto) (rule other : ℕ) (place there : Place) → BreaksFirst files f rule place
    → BreaksFirst files f other there → rule ≡ other
rule_once files f rule other place there h k = at (cases_lt rule other) (cases_lt other rule)
  where
    at : (rule < other) ⊎ (other ≤ rule) → (other < rule) ⊎ (rule ≤ other) → rule ≡ other
    at (inl lt) o = absurd (no_place (breaches rule files f) place (k.least rule lt) h.broken)
    at (inr le) (inl lt) = absurd (no_place (breaches other files f) there (h.least other lt) k.broken)
    at (inr le) (inr ge) = omega arith

tells_once : (path : List ℕ) (o : List Done × Ended) (x y : ErrorKind) → Tells path o x → Tells path o y → x ≡ y
tells_once path (later, Accepted) x y h k = absurd h
tells_once path (later, NotIncluded) x y h k = h ∙ sym k
tells_once path (later, Refused (Limit n)) x y h k = h ∙ sym k
tells_once path (later, Refused (Text file kind)) x y h k = text_once file kind x y h k
tells_once path (later, Refused (Mismatch asked declared)) x y h k = h ∙ sym k
tells_once path (later, Refused (Shadowed name asked shadow)) x y h k = h ∙ sym k
tells_once path (later, Refused (Duplicate file index place name)) x y h k = h ∙ sym k
tells_once path (later, Refused (Escapes file index place name)) x y h k = h ∙ sym k
tells_once path (later, Refused (Circular name cycle)) x y h k = h ∙ sym k
tells_once path (later, Refused (NoImport file index place name)) x y h k = h ∙ sym k
tells_once path (later, Refused (Unlinked f)) x y h k =
    h.3 ∙ ap (λ (rule : ℕ). kinds.Check (check.Rule (text_or_empty f.name) [] rule)) (rule_once (records later) f h.0 k.0 h.1 k.1 h.2 k.2) ∙ sym k.3
tells_once path (later, Refused (NotRead name)) x y h k = absurd h

by_end : (path : List ℕ) (o p : List Done × Ended) (x : ErrorKind) → o ≡ p → Tells path p x → Tells path o x
by_end path o p x e h = let P : List Done × Ended → Type 0 = λ q. Tells path q x in subst P (sym e) h

-- an opening that was refused with an error tells its fixed part
tells : (path : List ℕ) (root : Option (List ℕ × Option (List ℕ))) (files : (List ℕ → Lookup) → List Done) (o : (List ℕ → Lookup) → List Done × Ended) (lookups : List ℕ → Lookup) (later : List Done) (error : ErrorKind) → is_fault error ≡ false → IsWhole error → RefusesWith path root files o lookups later error → Tells path (o lookups) (fixed_part error)
tells path root files o lookups later (kinds.Parse (parse.Syntax file line column expected found)) f w h = by_end path (o lookups) (later, Refused (Text file 1)) _ h (inl (refl, refl))
tells path root files o lookups later (kinds.Parse parse.NoMemory) f w h = absurd h
tells path root files o lookups later (kinds.Check (check.Rule file place rule)) f w h =
    by_end path (o lookups) (later, Refused (Unlinked h.file)) _ h.opened_is
    (rule, place, h.refused.1, ap (λ (name : List ℕ). kinds.Check (check.Rule name [] rule)) h.refused.0)
tells path root files o lookups later (kinds.Check (check.Decode e)) f w h = absurd h.refused
tells path root files o lookups later (kinds.Check check.NoMemory) f w h = absurd (let no : kinds.NoMemory ≡ kinds.Check check.NoMemory = w in cc)
tells path root files o lookups later (kinds.OpenFile name p fault) f w h = absurd (cc)
tells path root files o lookups later (kinds.FileTooLarge name) f w h = by_end path (o lookups) (later, Refused (Text name 4)) _ h (inr (inl (refl, refl)))
tells path root files o lookups later (kinds.FileInvalidUtf8 name) f w h = by_end path (o lookups) (later, Refused (Text name 5)) _ h (inr (inr (refl, refl)))
tells path root files o lookups later (kinds.FileNotFound name) f w h = absurd h
tells path root files o lookups later (kinds.ImportNotFound file index place name) f w h = by_end path (o lookups) (later, Refused (NoImport file index place name)) _ h refl
tells path root files o lookups later (kinds.CircularImport name cycle) f w h = by_end path (o lookups) (later, Refused (Circular name cycle)) _ h refl
tells path root files o lookups later (kinds.FileNotIncluded p) f w h = by_end path (o lookups) (later, NotIncluded) _ h.1 (ap (λ (q : List ℕ). kinds.FileNotIncluded q) h.0)
tells path root files o lookups later (kinds.FileShadowed name asked shadow) f w h = by_end path (o lookups) (later, Refused (Shadowed name asked shadow)) _ h refl
tells path root files o lookups later (kinds.DuplicateImport file index place name) f w h = by_end path (o lookups) (later, Refused (Duplicate file index place name)) _ h refl
tells path root files o lookups later (kinds.ImportEscapes file index place name) f w h = by_end path (o lookups) (later, Refused (Escapes file index place name)) _ h refl
tells path root files o lookups later (kinds.Custom text is_io) f w h = absurd (cc)
tells path root files o lookups later (kinds.NameMismatch asked declared) f w h = by_end path (o lookups) (later, Refused (Mismatch asked declared)) _ h refl
tells path root files o lookups later (kinds.FileLimit n) f w h = by_end path (o lookups) (later, Refused (Limit n)) _ h refl
tells path root files o lookups later (kinds.Undecodable file) f w h = absurd h
tells path root files o lookups later kinds.NoMemory f w h = absurd (cc)

-- ---- the refused path is one

-- one list, parted before two of its items: before the same one, or one before the other
abbrev Parted : List (List ℕ) → List ℕ → List (List ℕ) → List ℕ → Type 0
Parted xs x ys y =
    ((xs ≡ ys) × (x ≡ y))
    ⊎ (((rest : List (List ℕ)) × (ys ≡ xs ++ x ∷ rest)) ⊎ ((rest : List (List ℕ)) × (xs ≡ ys ++ y ∷ rest)))

parted : (xs ys : List (List ℕ)) (x y : List ℕ) (xs' ys' : List (List ℕ)) → xs ++ x ∷ xs' ≡ ys ++ y ∷ ys' → Parted xs x ys y
parted [] [] x y xs' ys' e = let same : x ∷ xs' ≡ y ∷ ys' = e in inl (refl, cc)
parted [] (b ∷ ys) x y xs' ys' e =
    let both : x ∷ xs' ≡ b ∷ (ys ++ y ∷ ys') = e in
    let head : b ≡ x = cc in
    inr (inl (ys, ap (λ (z : List ℕ). z ∷ ys) head))
parted (a ∷ xs) [] x y xs' ys' e =
    let both : a ∷ (xs ++ x ∷ xs') ≡ y ∷ ys' = e in
    let head : a ≡ y = cc in
    inr (inr (xs, ap (λ (z : List ℕ). z ∷ xs) head))
parted (a ∷ xs) (b ∷ ys) x y xs' ys' e = at (parted xs ys x y xs' ys' tail)
  where
    both : a ∷ (xs ++ x ∷ xs') ≡ b ∷ (ys ++ y ∷ ys')
    both = e

    head : a ≡ b
    head = let whole = both in cc

    tail : xs ++ x ∷ xs' ≡ ys ++ y ∷ ys'
    tail = let whole = both in cc

    at : Parted xs x ys y → Parted (a ∷ xs) x (b ∷ ys) y
    at (inl h) = inl (ap (λ (z : List ℕ). z ∷ xs) head ∙ ap (λ (zs : List (List ℕ)). b ∷ zs) h.0, h.1)
    at (inr (inl h)) = inr (inl (h.0, ap (λ (zs : List (List ℕ)). b ∷ zs) h.1 ∙ ap (λ (z : List ℕ). z ∷ (xs ++ x ∷ h.0)) (sym head)))
    at (inr (inr h)) = inr (inr (h.0, ap (λ (zs : List (List ℕ)). a ∷ zs) h.1 ∙ ap (λ (z : List ℕ). z ∷ (ys ++ y ∷ h.0)) head))

module _ (once : ClosesOnce) (told : List ℕ → Told) (resolves : List ℕ → Option (List ℕ)) where
  -- the paths before the refused one are accepted, so the other refused one is not among them
  not_before : (ls ks : List ℕ → Lookup) → AreLookups told ls → AreLookups told ks → (before rest : List (List ℕ)) (middle later : List Done) (error : ErrorKind) → is_fault error ≡ false
      → (paths : List (List ℕ)) (s : StopsAt ls resolves most_files paths [] later error) → before ≡ s.before ++ s.path ∷ rest
      → closure ks resolves most_files before [] ≡ (middle, Accepted) → ⊥
  not_before ls ks are others before rest middle later error f paths s e accepted =
      accepted_alone once told resolves before (λ files. Unit {0}) error f (ks, others, (middle, accepted, tt)) (
        ls,
        are,
        (
          later,
          record {
            before = s.before;
            path = s.path;
            after = rest;
            middle = s.middle;
            split = e;
            accepted = s.accepted;
            refused = s.refused;
            grows = s.grows;
          },
        ),
      )

  -- the refused path stops all
  halts : (ls : List ℕ → Lookup) (paths : List (List ℕ)) (later : List Done) (error : ErrorKind) → is_fault error ≡ false → (s : StopsAt ls resolves most_files paths [] later error) → IsStopped (closure ls resolves most_files paths [])
  halts ls paths later error f s =
      stopped_by (closure ls resolves most_files paths []) (opening ls resolves most_files s.path s.middle) (stopped_whole ls resolves most_files paths later error f s)
      (stopped s.path (root_of resolves s.path) (λ l. grown l most_files (root_of resolves s.path) s.middle) (λ l. opening l resolves most_files s.path s.middle) ls later error f s.refused.refused)

  stop_tells : (ls : List ℕ → Lookup) (paths : List (List ℕ)) (later : List Done) (error : ErrorKind) → is_fault error ≡ false → IsWhole error → (s : StopsAt ls resolves most_files paths [] later error) → Tells s.path (closure ls resolves most_files paths []) (fixed_part error)
  stop_tells ls paths later error f w s =
      by_end s.path (closure ls resolves most_files paths []) (opening ls resolves most_files s.path s.middle) (fixed_part error) (stopped_whole ls resolves most_files paths later error f s)
      (tells s.path (root_of resolves s.path) (λ l. grown l most_files (root_of resolves s.path) s.middle) (λ l. opening l resolves most_files s.path s.middle) ls later error f w s.refused.refused)

  module _ (paths : List (List ℕ)) (ls ks : List ℕ → Lookup) (are : AreLookups told ls) (others : AreLookups told ks) (later after : List Done) (error other : ErrorKind) (f : is_fault error ≡ false) (g : is_fault other ≡ false)
      (w : IsWhole error) (v : IsWhole other) (s : StopsAt ls resolves most_files paths [] later error) (t : StopsAt ks resolves most_files paths [] after other) where
    same_path : s.path ≡ t.path
    same_path = at (parted s.before t.before s.path t.path s.after t.after (sym s.split ∙ t.split))
      where
        at : Parted s.before s.path t.before t.path → s.path ≡ t.path
        at (inl h) = h.1
        at (inr (inl h)) = absurd (not_before ls ks are others t.before h.0 t.middle later error f paths s h.1 t.accepted)
        at (inr (inr h)) = absurd (not_before ks ls others are s.before h.0 s.middle after other g paths t h.1 s.accepted)

    same_end : closure ls resolves most_files paths [] ≡ closure ks resolves most_files paths []
    same_end =
        once told resolves most_files paths [] ls ks are others (decided (closure ls resolves most_files paths []) (halts ls paths later error f s))
        (decided (closure ks resolves most_files paths []) (halts ks paths after other g t))

    stops_once : fixed_part error ≡ fixed_part other
    stops_once =
        let P : List ℕ → Type 0 = λ path. Tells path (closure ks resolves most_files paths []) (fixed_part other) in
        tells_once s.path (closure ls resolves most_files paths []) (fixed_part error) (fixed_part other) (stop_tells ls paths later error f w s)
        (by_end s.path (closure ls resolves most_files paths []) (closure ks resolves most_files paths []) (fixed_part other) same_end (subst P (sym same_path) (stop_tells ks paths after other g v t)))

-- ---- what linked files tell

-- a tree that is refused
abbrev TellsTree : Shape → ℕ → Data → TopError → Type 0
TellsTree shape t tree x =
    (IsTooDeep shape t tree × (x ≡ top.TooDeep)) ⊎ ((e : JsonError) × IsUnread shape t tree e × (x ≡ fixed_error (top.Json e)))

-- the fixed part of the error by the first file that cannot be read again, the first fault of names, and the type
abbrev TellsOf : List ℕ → Data → List FileDescriptorProto → Option FileDescriptorProto → Option NameFault → Option (Described DescriptorProto) → TopError → Type 0
TellsOf name tree files (Some g) fault type x = x ≡ top.File (kinds.Undecodable (text_or_empty g.name))
TellsOf name tree files None (Some fault) type x = x ≡ of_names fault
TellsOf name tree files None None None x = x ≡ top.TypeNotFound name
TellsOf name tree files None None (Some d) x = TellsTree (shape_of files) (place_of d) tree x

abbrev TellsFiles : List ℕ → Data → List FileDescriptorProto → TopError → Type 0
TellsFiles name tree files x = TellsOf name tree files (find is_undecodable files) (name_fault ByAnyName (shape_of files)) (message_of_name files name) x

tree_once : FirstFaultIsOnePlace → (shape : Shape) (t : ℕ) (tree : Data) (x y : TopError) → TellsTree shape t tree x → TellsTree shape t tree y → x ≡ y
tree_once one_place shape t tree x y (inl h) (inl k) = h.1 ∙ sym k.1
tree_once one_place shape t tree x y (inl h) (inr k) = absurd (k.1.2 h.0.0 h.0.1)
tree_once one_place shape t tree x y (inr h) (inl k) = absurd (h.1.2 k.0.0 k.0.1)
tree_once one_place shape t tree x y (inr h) (inr k) =
    let place : h.0.place ≡ k.0.place = one_place shape t false tree h.0.place k.0.place h.0.kind k.0.kind h.1.1 k.1.1 in
    h.2 ∙ same h.0 k.0 place ∙ sym k.2
  where
    same : (d e : JsonError) → d.place ≡ e.place → fixed_error (top.Json d) ≡ fixed_error (top.Json e)
    same d e p = ap (λ (q : List Step). top.Json (record { place = q; kind = json.WrongKind })) p

files_tell_once : FirstFaultIsOnePlace → (name : List ℕ) (tree : Data) (files : List FileDescriptorProto) (o : Option FileDescriptorProto) (fault : Option NameFault) (type : Option (Described DescriptorProto)) (x y : TopError)
    → TellsOf name tree files o fault type x → TellsOf name tree files o fault type y → x ≡ y
files_tell_once one_place name tree files (Some g) fault type x y h k = h ∙ sym k
files_tell_once one_place name tree files None (Some fault) type x y h k = h ∙ sym k
files_tell_once one_place name tree files None None None x y h k = h ∙ sym k
files_tell_once one_place name tree files None None (Some d) x y h k = tree_once one_place (shape_of files) (place_of d) tree x y h k

module _ (name : List ℕ) (tree : Data) (files : List FileDescriptorProto) where
  by_file : (g : FileDescriptorProto) (x : TopError) → find is_undecodable files ≡ Some g → x ≡ top.File (kinds.Undecodable (text_or_empty g.name)) → TellsFiles name tree files x
  by_file g x e h =
      let P : Option FileDescriptorProto → Type 0 = λ o. TellsOf name tree files o (name_fault ByAnyName (shape_of files)) (message_of_name files name) x in
      subst P (sym e) h

  by_names : (fault : NameFault) (x : TopError) → find is_undecodable files ≡ None → name_fault ByAnyName (shape_of files) ≡ Some fault → x ≡ of_names fault → TellsFiles name tree files x
  by_names fault x e n h =
      let P : Option FileDescriptorProto → Type 0 = λ o. TellsOf name tree files o (name_fault ByAnyName (shape_of files)) (message_of_name files name) x in
      let Q : Option NameFault → Type 0 = λ o. TellsOf name tree files None o (message_of_name files name) x in
      subst P (sym e) (subst Q (sym n) h)

  by_type : (type : Option (Described DescriptorProto)) (x : TopError) → find is_undecodable files ≡ None → name_fault ByAnyName (shape_of files) ≡ None → message_of_name files name ≡ type
      → TellsOf name tree files None None type x → TellsFiles name tree files x
  by_type type x e n m h =
      let P : Option FileDescriptorProto → Type 0 = λ o. TellsOf name tree files o (name_fault ByAnyName (shape_of files)) (message_of_name files name) x in
      let Q : Option NameFault → Type 0 = λ o. TellsOf name tree files None o (message_of_name files name) x in
      let R : Option (Described DescriptorProto) → Type 0 = λ o. TellsOf name tree files None None o x in
      subst P (sym e) (subst Q (sym n) (subst R (sym m) h))

  undecodable_tells : (error : ErrorKind) → IsUndecodable files error → TellsFiles name tree files (fixed_error (top.File error))
  undecodable_tells (kinds.Parse e) h = absurd h
  undecodable_tells (kinds.Check e) h = absurd h
  undecodable_tells (kinds.OpenFile n p fault) h = absurd h
  undecodable_tells (kinds.FileTooLarge n) h = absurd h
  undecodable_tells (kinds.FileInvalidUtf8 n) h = absurd h
  undecodable_tells (kinds.FileNotFound n) h = absurd h
  undecodable_tells (kinds.ImportNotFound file index place n) h = absurd h
  undecodable_tells (kinds.CircularImport n cycle) h = absurd h
  undecodable_tells (kinds.FileNotIncluded p) h = absurd h
  undecodable_tells (kinds.FileShadowed n asked shadow) h = absurd h
  undecodable_tells (kinds.DuplicateImport file index place n) h = absurd h
  undecodable_tells (kinds.ImportEscapes file index place n) h = absurd h
  undecodable_tells (kinds.Custom text is_io) h = absurd h
  undecodable_tells (kinds.NameMismatch asked declared) h = absurd h
  undecodable_tells (kinds.FileLimit n) h = absurd h
  undecodable_tells (kinds.Undecodable file) h = by_file h.0 (top.File (kinds.Undecodable file)) h.1 (ap (λ (n : List ℕ). top.File (kinds.Undecodable n)) h.2)
  undecodable_tells kinds.NoMemory h = absurd h

  files_tell : (error : TopError) → is_refusal error ≡ true → IsRefused name tree files error → TellsFiles name tree files (fixed_error error)
  files_tell (top.File error) f h = undecodable_tells error h
  files_tell (top.JsonNames message key) f h = by_names (names.JsonNames message key) _ h.0 h.1 refl
  files_tell (top.WellKnownShape message) f h = by_names (names.WellKnownShape message) _ h.0 h.1 refl
  files_tell (top.TypeNotFound n) f h = by_type None _ h.0 h.1 h.3 (ap (λ (m : List ℕ). top.TypeNotFound m) h.2)
  files_tell (top.Json e) f h = by_type (Some h.2.0) _ h.0 h.1 h.2.1 (inr (e, h.2.2, refl))
  files_tell top.TooDeep f h = by_type (Some h.2.0) _ h.0 h.1 h.2.1 (inl (h.2.2, refl))
  files_tell top.NoMemory f h = absurd (cc)

  refused_files_once : FirstFaultIsOnePlace → (error other : TopError) → is_refusal error ≡ true → is_refusal other ≡ true → IsRefused name tree files error → IsRefused name tree files other → fixed_error error ≡ fixed_error other
  refused_files_once one_place error other f g h k =
      files_tell_once one_place name tree files (find is_undecodable files) (name_fault ByAnyName (shape_of files)) (message_of_name files name) (fixed_error error) (fixed_error other)
      (files_tell error f h) (files_tell other g k)

-- ---- both together

-- an error of the walk, or one of the linked files
abbrev Either : (List ℕ → Told) → (List ℕ → Option (List ℕ)) → List (List ℕ) → List ℕ → Data → TopError → Type 0
Either told resolves paths name tree error =
    ((kind : ErrorKind) × (error ≡ top.File kind) × ByLookups told (λ ls. (later : List Done) × StopsAt ls resolves most_files paths [] later kind))
    ⊎ ForFiles told resolves paths (λ files. IsRefused name tree files error)

either : (told : List ℕ → Told) (resolves : List ℕ → Option (List ℕ)) (paths : List (List ℕ)) (name : List ℕ) (tree : Data) (error : TopError) → is_refusal error ≡ true → Refuses told resolves paths name tree error → Either told resolves paths name tree error
either told resolves paths name tree (top.File kind) f (inl h) = inl (kind, refl, h)
either told resolves paths name tree (top.File kind) f (inr h) = inr h
either told resolves paths name tree (top.JsonNames message key) f h = inr h
either told resolves paths name tree (top.WellKnownShape message) f h = inr h
either told resolves paths name tree (top.TypeNotFound n) f h = inr h
either told resolves paths name tree (top.Json e) f h = inr h
either told resolves paths name tree top.TooDeep f h = inr h
either told resolves paths name tree top.NoMemory f h = absurd (cc)

-- a refusal is whole where no fault of the resolver is told
whole : (fault : ErrorKind → Type 0) (kind : ErrorKind) → is_fault kind ≡ false → IsCaused fault (top.File kind) → IsWhole kind
whole fault (kinds.Parse e) f h = h
whole fault (kinds.Check e) f h = h
whole fault (kinds.OpenFile n p words) f h = tt
whole fault (kinds.FileTooLarge n) f h = tt
whole fault (kinds.FileInvalidUtf8 n) f h = tt
whole fault (kinds.FileNotFound n) f h = tt
whole fault (kinds.ImportNotFound file index place n) f h = tt
whole fault (kinds.CircularImport n cycle) f h = tt
whole fault (kinds.FileNotIncluded p) f h = tt
whole fault (kinds.FileShadowed n asked shadow) f h = tt
whole fault (kinds.DuplicateImport file index place n) f h = tt
whole fault (kinds.ImportEscapes file index place n) f h = tt
whole fault (kinds.Custom text is_io) f h = tt
whole fault (kinds.NameMismatch asked declared) f h = tt
whole fault (kinds.FileLimit n) f h = tt
whole fault (kinds.Undecodable file) f h = tt
whole fault kinds.NoMemory f h = tt

module _ (once : ClosesOnce) (one_place : FirstFaultIsOnePlace) (told : List ℕ → Told) (resolves : List ℕ → Option (List ℕ)) (paths : List (List ℕ)) (name : List ℕ) (tree : Data) (fault wider : ErrorKind → Type 0) (error other : TopError)
    (f : is_refusal error ≡ true) (c : IsCaused fault error) (g : is_refusal other ≡ true) (d : IsCaused wider other) where
  -- of an error that is one of files
  kind_of : (x : TopError) (kind : ErrorKind) → x ≡ top.File kind → is_refusal x ≡ true → is_fault kind ≡ false
  kind_of x kind e h = no_fault kind (let P : TopError → Type 0 = λ y. is_refusal y ≡ true in subst P e h)

  whole_of : (cause : ErrorKind → Type 0) (x : TopError) (kind : ErrorKind) → x ≡ top.File kind → is_fault kind ≡ false → IsCaused cause x → IsWhole kind
  whole_of cause x kind e k h = whole cause kind k (let P : TopError → Type 0 = λ y. IsCaused cause y in subst P e h)

  apart : (kind : ErrorKind) → is_fault kind ≡ false → (P : List FileDescriptorProto → Type 0) → ForFiles told resolves paths P
      → ByLookups told (λ ls. (later : List Done) × StopsAt ls resolves most_files paths [] later kind) → ⊥
  apart kind k P h r = accepted_alone once told resolves paths P kind k h r

  both : Either told resolves paths name tree error → Either told resolves paths name tree other → fixed_error error ≡ fixed_error other
  both (inl h) (inl k) =
      let x : is_fault h.0 ≡ false = kind_of error h.0 h.1 f in
      let y : is_fault k.0 ≡ false = kind_of other k.0 k.1 g in
      let same : fixed_part h.0 ≡ fixed_part k.0 =
      stops_once once told resolves paths h.2.0 k.2.0 h.2.1 k.2.1 h.2.2.0 k.2.2.0 h.0 k.0 x y (whole_of fault error h.0 h.1 x c) (whole_of wider other k.0 k.1 y d) h.2.2.1 k.2.2.1 in
      ap fixed_error h.1 ∙ ap (λ (kind : ErrorKind). top.File kind) same ∙ sym (ap fixed_error k.1)
  both (inl h) (inr k) = absurd (apart h.0 (kind_of error h.0 h.1 f) (λ files. IsRefused name tree files other) k h.2)
  both (inr h) (inl k) = absurd (apart k.0 (kind_of other k.0 k.1 g) (λ files. IsRefused name tree files error) h k.2)
  both (inr h) (inr k) =
      refused_files_once name tree (records h.2.0) one_place error other f g h.2.2
      (among once told resolves paths (λ files. IsRefused name tree files error) (λ files. IsRefused name tree files other) h k)

pub refused_once : ClosesOnce → FirstFaultIsOnePlace → RefusedOnce
refused_once once one_place library later_library before after later_before later_after paths name tree error later f c h g d k =
    both once one_place library.files library.resolves paths name tree (FaultCause library before after) (FaultCause later_library later_before later_after) error later f c g d
    (either library.files library.resolves paths name tree error f h) (either library.files library.resolves paths name tree later g k)

-- ---- the kinds of a tree's faults

kinds_in : FirstFaultIsOnePlace → (name : List ℕ) (tree : Data) (files : List FileDescriptorProto) (error later : JsonError) → ForType name files (λ shape t. IsUnread shape t tree error) → ForType name files (λ shape t. IsUnread shape t tree later)
    → ForType name files (λ shape t. JsonFault shape t false tree error.place error.kind × JsonFault shape t false tree error.place later.kind)
kinds_in one_place name tree files error later h k =
    let one : k.0 ≡ h.0 = (let e : Some k.0 ≡ Some h.0 = sym k.1 ∙ h.1 in cc) in
    let P : Described DescriptorProto → Type 0 = λ d. IsUnread (shape_of files) (place_of d) tree later in
    let unread : IsUnread (shape_of files) (place_of h.0) tree later = subst P one k.2 in
    let place : later.place ≡ error.place = one_place (shape_of files) (place_of h.0) false tree later.place error.place later.kind error.kind unread.1 h.2.1 in
    let Q : List Step → Type 0 = λ p. JsonFault (shape_of files) (place_of h.0) false tree p later.kind in
    (h.0, h.1, (h.2.1.broken, subst Q place unread.1.broken))

pub kinds_broken : ClosesOnce → FirstFaultIsOnePlace → KindsAreBroken
kinds_broken once one_place told resolves paths name tree error later h k =
    let same = among once told resolves paths (λ files. IsRefused name tree files (top.Json error)) (λ files. IsRefused name tree files (top.Json later)) h k in
    (h.0, h.1, (h.2.0, h.2.1, kinds_in one_place name tree (records h.2.0) error later h.2.2.2 same.2))
