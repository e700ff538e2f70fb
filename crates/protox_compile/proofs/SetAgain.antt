-- The files of a pool's set link to the files of the pool, each under the name of its own.
use Rattle.std.proofs.Common.{◌≡◌, ◌∙◌, ◌∷◌, ◌++◌, [], ℕ, List, Bool, true, false, refl, sym, ap, subst, append_assoc}
use Rattle.std.specs.Prelude.{◌||◌, if◌then◌else◌, unwrap_or, Option, Some, None}
use Rattle.std.specs.Str.{bytes_eq}
use Rattle.std.proofs.lemmas.List.{append-nil, append_cancel_left, map-append}
use Rattle.std.proofs.lemmas.List.Folds.{list_any-append}
use Rattle.pbx_desc_records.specs.declared.file.FileDescriptorProto.{FileDescriptorProto}
use Rattle.pbx_link_definitions.specs.Names.{text_or_empty}
use Rattle.pbx_link_record.specs.Linked.{linked_record}
use Rattle.pbx_link_rules.specs.Breaches.{keeps_rules}
use Rattle.pbx_link_rules.specs.Pool.{with_file}
use Rattle.pbx_link.specs.Bytes.{with_files}
use Rattle.pbx_link_laws.specs.SetLaws.{IsReadBack, SetsAreReadBack}
use Rattle.protox_file_sources.specs.Told.{Entry, Told, Absent, Recorded, Source, TooLarge, NotText, Lookup, NoFile, IsFile, TextFault, Unread, IsLookup, AreLookups}
use Rattle.protox_file.specs.Listed.{first_declared}
use Rattle.protox_file.specs.Sets.{records_of, AreFilesOf}
use Rattle.protox_file.proofs.Sets.{decodes_files}
use Rattle.protox_compile_walk.specs.Walk.{Done, records, is_done}
use Rattle.protox_compile_walk.specs.Opening.{Accepted}
use Rattle.protox_compile_walk.specs.Compiled.{IsOrdered}
use Rattle.protox_compile_walk.specs.Again.{LinksTo, AllLinkTo, ClosesAgain}
use Rattle.protox_compile_walk.specs.Laws.{ClosedAreOrdered}
use Rattle.protox_compile_walk.proofs.Fresh.{or_left, or_right}
use Rattle.protox_compile_walk.proofs.Right.{same_bytes}
use Rattle.protox_compile.specs.Again.{SetOpensAgain}

-- ---- the look-ups of what is told

-- what looking up comes to where no source is read
abbrev found : Told → Lookup
found Absent = NoFile
found (Recorded entry) = IsFile entry
found (Source source path) = Unread
found TooLarge = TextFault 4
found NotText = TextFault 5

right : (told : List ℕ → Told) → AreLookups told (λ name. found (told name))
right told name = at (told name)
  where
    at : (t : Told) → IsLookup name t (found t)
    at Absent = refl
    at (Recorded entry) = refl
    at (Source source path) = tt
    at TooLarge = refl
    at NotText = refl

-- ---- the files of bytes

-- none was read from a path
abbrev HaveNoPath : List Entry → Type 0
HaveNoPath [] = Unit {0}
HaveNoPath (e ∷ es) = (e.path ≡ None) × HaveNoPath es

no_path : (payloads : List (List ℕ)) (es : List Entry) → AreFilesOf payloads es → HaveNoPath es
no_path [] [] h = tt
no_path [] (e ∷ es) h = absurd h
no_path (p ∷ ps) [] h = absurd h
no_path (p ∷ ps) (e ∷ es) h = (ap (λ (x : Entry). x.path) h.0.0, no_path ps es h.1)

-- ---- records that are all added

-- they stand behind those that are there
abbrev Behind : List FileDescriptorProto → List FileDescriptorProto → Type 0
Behind files new = (more : List FileDescriptorProto) × (new ≡ files ++ more)

added_behind : (files fs new : List FileDescriptorProto) → with_files files fs ≡ Some new → Behind files new
added_behind files [] new h = ([], (let same : files ≡ new = cc in sym same ∙ sym (append-nil files)))
added_behind files (f ∷ fs) new h = at (keeps_rules files f) h (added_behind (with_file files f) fs new)
  where
    at : (b : Bool) → (if b then with_files (with_file files f) fs else None) ≡ Some new
        → (with_files (with_file files f) fs ≡ Some new → Behind (with_file files f) new) → Behind files new
    at true k more =
        let rest = more k in
        (linked_record files f ∷ rest.0, rest.1 ∙ append_assoc files (linked_record files f ∷ []) rest.0)
    at false k more = absurd (cc)

-- the first of them is linked to the first behind those that are there, and so are the others
abbrev FirstAdded : List FileDescriptorProto → FileDescriptorProto → List FileDescriptorProto → FileDescriptorProto → List FileDescriptorProto → Type 0
FirstAdded files f fs g gs =
    (keeps_rules files f ≡ true) × (linked_record files f ≡ g) × (with_files (files ++ g ∷ []) fs ≡ Some ((files ++ g ∷ []) ++ gs))

first_added : (files : List FileDescriptorProto) (f : FileDescriptorProto) (fs : List FileDescriptorProto) (g : FileDescriptorProto)
    (gs : List FileDescriptorProto) → with_files files (f ∷ fs) ≡ Some (files ++ g ∷ gs) → FirstAdded files f fs g gs
first_added files f fs g gs h = at (keeps_rules files f) refl h
  where
    at : (b : Bool) → keeps_rules files f ≡ b → (if b then with_files (with_file files f) fs else None) ≡ Some (files ++ g ∷ gs)
        → FirstAdded files f fs g gs
    at true e k =
        let more = added_behind (with_file files f) fs (files ++ g ∷ gs) k in
        let both : g ∷ gs ≡ linked_record files f ∷ more.0 =
        append_cancel_left files (g ∷ gs) (linked_record files f ∷ more.0) (more.1 ∙ append_assoc files (linked_record files f ∷ []) more.0) in
        let one : linked_record files f ≡ g = cc in
        let P : FileDescriptorProto → Type 0 = λ x. with_files (files ++ x ∷ []) fs ≡ Some (files ++ g ∷ gs) in
        (e, one, subst P one k ∙ ap (λ (xs : List FileDescriptorProto). Some xs) (sym (append_assoc files (g ∷ []) gs)))
    at false e k = absurd (cc)

none_added : (files gs : List FileDescriptorProto) (g : FileDescriptorProto) → Some files ≡ Some (files ++ g ∷ gs) → ⊥
none_added files gs g h =
    let same : files ≡ files ++ g ∷ gs = cc in
    let no : [] ≡ g ∷ gs = append_cancel_left files [] (g ∷ gs) (append-nil files ∙ same) in
    cc

-- ---- names

pushed_new : (done : List Done) (d : Done) (name : List ℕ) → is_done (done ++ d ∷ []) name ≡ false
    → (is_done done name ≡ false) × (bytes_eq d.name name ≡ false)
pushed_new done d name h =
    let parts : (is_done done name || (bytes_eq d.name name || false)) ≡ false =
    sym (list_any-append (λ (x : Done). bytes_eq x.name name) done (d ∷ [])) ∙ h in (
      or_left (is_done done name) (bytes_eq d.name name || false) parts,
      or_left (bytes_eq d.name name) false (or_right (is_done done name) (bytes_eq d.name name || false) parts),
    )

-- a file behind others has none of their names
new_behind : (before bs after : List Done) (d : Done) → IsOrdered before (bs ++ d ∷ after) → is_done before d.name ≡ false
new_behind before [] after d order = order.1
new_behind before (b ∷ bs) after d order = (pushed_new before b d.name (new_behind (before ++ b ∷ []) bs after d order.3)).0

-- ---- the file of a name

-- the first file answers for the name that it declares, and for no other
by_declared : (e : Entry) (es : List Entry) (own name : List ℕ) (b : Bool) → e.file.name ≡ Some own → bytes_eq own name ≡ b
    → first_declared (e ∷ es) name ≡ (if b then Recorded e else first_declared es name)
by_declared e es own name b declared same =
    ap (λ (o : Option (List ℕ)). if bytes_eq (unwrap_or o []) name then Recorded e else first_declared es name) declared
    ∙ ap (λ c. if c then Recorded e else first_declared es name) same

linked_to : (acc before after : List Done) (d : Done) (es : List Entry) → HaveNoPath es
    → with_files (records acc) (records_of es) ≡ Some (records acc ++ records (before ++ d ∷ after)) → IsOrdered acc (before ++ d ∷ after)
    → LinksTo (records (acc ++ before)) d.name d.file (found (first_declared es d.name))
linked_to acc [] after d [] alone added order = absurd (none_added (records acc) (records after) d.file added)
linked_to acc [] after d (e ∷ es) alone added order =
    let first = first_added (records acc) e.file (records_of es) d.file (records after) added in
    let declared : e.file.name ≡ Some d.name = ap (λ (f : FileDescriptorProto). f.name) first.1 ∙ order.0 in
    let P : List FileDescriptorProto → Type 0 = λ fs. LinksTo fs d.name d.file (found (first_declared (e ∷ es) d.name)) in
    let here : LinksTo (records acc) d.name d.file (found (first_declared (e ∷ es) d.name)) = record {
      entry = e;
      lookup_is = ap found (by_declared e es d.name d.name true declared (same_bytes d.name));
      declared = ap (λ (o : Option (List ℕ)). bytes_eq (text_or_empty o) d.name) declared ∙ same_bytes d.name;
      path_is = alone.0;
      keeps = first.0;
      linked_is = first.1;
    } in
    subst P (ap records (sym (append-nil acc))) here
linked_to acc (b ∷ bs) after d [] alone added order = absurd (none_added (records acc) (records (bs ++ d ∷ after)) b.file added)
linked_to acc (b ∷ bs) after d (e ∷ es) alone added order =
    let first = first_added (records acc) e.file (records_of es) b.file (records (bs ++ d ∷ after)) added in
    let declared : e.file.name ≡ Some b.name = ap (λ (f : FileDescriptorProto). f.name) first.1 ∙ order.0 in
    let other : bytes_eq b.name d.name ≡ false = (pushed_new acc b d.name (new_behind (acc ++ b ∷ []) bs after d order.3)).1 in
    let Q : List FileDescriptorProto → Type 0 = λ fs. with_files fs (records_of es) ≡ Some (fs ++ records (bs ++ d ∷ after)) in
    let rest : with_files (records (acc ++ b ∷ [])) (records_of es) ≡ Some (records (acc ++ b ∷ []) ++ records (bs ++ d ∷ after)) =
    subst Q (sym (map-append (λ (x : Done). x.file) acc (b ∷ []))) first.2 in
    let links : LinksTo (records ((acc ++ b ∷ []) ++ bs)) d.name d.file (found (first_declared es d.name)) =
    linked_to (acc ++ b ∷ []) bs after d es alone.1 rest order.3 in
    let P : List Done → Type 0 = λ ds. LinksTo (records ds) d.name d.file (found (first_declared es d.name)) in
    let R : Told → Type 0 = λ t. LinksTo (records (acc ++ b ∷ bs)) d.name d.file (found t) in
    subst R (sym (by_declared e es b.name d.name false declared other)) (subst P (append_assoc acc (b ∷ []) bs) links)

all_link : (entries : List Entry) (done : List Done) → HaveNoPath entries → with_files [] (records_of entries) ≡ Some (records done) → IsOrdered [] done
    → AllLinkTo (λ name. found (first_declared entries name)) done
all_link entries done alone added order before after d is =
    let P : List Done → Type 0 = λ ds. IsOrdered [] ds in
    linked_to [] before after d entries alone (added ∙ ap (λ (ds : List Done). Some (records ds)) is) (subst P is order)

-- ---- over the set

pub set_opens_again : SetsAreReadBack → ClosedAreOrdered → ClosesAgain → SetOpensAgain
set_opens_again read_back in_order again lookups resolves limit paths names done set entries closed asks decodes files =
    let order = in_order lookups resolves limit paths done Accepted closed in
    let back : IsReadBack (records done) set = read_back (records done) set order.1 decodes in
    let added : with_files [] (records_of entries) ≡ Some (records done) = back.added (records_of entries) (decodes_files set entries files) in
    let others : List ℕ → Lookup = λ name. found (first_declared entries name) in (
      others,
      right (first_declared entries),
      again lookups others resolves limit paths names done closed asks (all_link entries done (no_path files.payloads entries files.files) added order.0),
    )
