-- What is known of files, and the records of a pool.
use Rattle.std.proofs.Common.{◌≡◌, ◌∷◌, ◌++◌, ◌∙◌, [], ℕ, List, Bool, true, false, refl, sym, ap, subst, length, map, suc, Contains, rules}
use Rattle.std.specs.Prelude.{◌||◌, ◌&&◌, not, if◌then◌else◌, Option, Some, None, is_some}
use Rattle.std.specs.List.{list_any, list_all}
use Rattle.std.specs.Str.{bytes_eq}
use Rattle.pbx_desc_records.specs.declared.file.FileDescriptorProto.{FileDescriptorProto}
use Rattle.pbx_link_definitions.specs.Names.{text_or_empty}
use Rattle.pbx_link_definitions.specs.Definitions.{Place}
use Rattle.pbx_link_scope.specs.Pooled.{has_file}
use Rattle.pbx_link_record.specs.Linked.{linked_record}
use Rattle.pbx_link_rules.specs.Breaches.{breaches, keeps_rules}
use Rattle.pbx_link_rules.proofs.RulesKept.{keeps_each}
use Rattle.pbx_link_rules.specs.Pool.{ArePooled, with_file}
use Rattle.pbx_link_rules.specs.PoolLaws.{AreBehind}
use Rattle.pbx_link_rules.proofs.Kept.{has_name}
use Rattle.pbx_link_rules.proofs.Behind.{pooled_are_behind}
use Rattle.pbx_link_definitions.specs.declared.error.DescriptorError.{DescriptorError}
use Rattle.pbx_link_definitions.specs.declared.error.DescriptorError.TheVariants as check
use Rattle.pbx_link.specs.Pool.{IsRefused}
use Rattle.protox_file_error.specs.Errors.{of_descriptor}
use Rattle.protox_file_sources.specs.Metadata.{Metadata}
use Rattle.protox_compile_walk.specs.Walk.{Done, Open, is_done, records, done_as, declared_name}
use Rattle.protox_compile_walk.specs.Opening.{mark, path_in, is_opened}
use Rattle.protox_compile_walk.specs.Compiled.{done_by, done_of, AreRecorded, metadata_of, opened_in, path_known, is_opened_known, AllDone, IsOrdered, IsUnlinked}
use Rattle.protox_compile_walk.proofs.Right.{bytes_are}

pub length_done : (ms : List Metadata) (rs : List FileDescriptorProto) → AreRecorded ms rs → length (done_of ms rs) ≡ length ms
length_done [] [] h = refl
length_done [] (r ∷ rs) h = absurd h
length_done (m ∷ ms) [] h = absurd h
length_done (m ∷ ms) (r ∷ rs) h = ap suc (length_done ms rs h.1)

pub is_done_known : (ms : List Metadata) (rs : List FileDescriptorProto) (name : List ℕ) → AreRecorded ms rs → is_done (done_of ms rs) name ≡ list_any (λ (m : Metadata). bytes_eq m.name name) ms
is_done_known [] [] name h = refl
is_done_known [] (r ∷ rs) name h = absurd h
is_done_known (m ∷ ms) [] name h = absurd h
is_done_known (m ∷ ms) (r ∷ rs) name h = ap (λ b. bytes_eq m.name name || b) (is_done_known ms rs name h.1)

pub path_in_known : (ms : List Metadata) (rs : List FileDescriptorProto) (name : List ℕ) → AreRecorded ms rs → path_in name (done_of ms rs) ≡ path_known name ms
path_in_known [] [] name h = refl
path_in_known [] (r ∷ rs) name h = absurd h
path_in_known (m ∷ ms) [] name h = absurd h
path_in_known (m ∷ ms) (r ∷ rs) name h = ap (λ p. if bytes_eq m.name name then m.path else p) (path_in_known ms rs name h.1)

pub is_opened_in_known : (ms : List Metadata) (rs : List FileDescriptorProto) (name : List ℕ) → AreRecorded ms rs → is_opened name (done_of ms rs) ≡ is_opened_known name ms
is_opened_in_known [] [] name h = refl
is_opened_in_known [] (r ∷ rs) name h = absurd h
is_opened_in_known (m ∷ ms) [] name h = absurd h
is_opened_in_known (m ∷ ms) (r ∷ rs) name h = ap (λ b. if bytes_eq m.name name then not m.is_import else b) (is_opened_in_known ms rs name h.1)

twice : (b : Bool) → not (not b) ≡ b
twice true = refl
twice false = refl

pub metadata_known : (ms : List Metadata) (rs : List FileDescriptorProto) → AreRecorded ms rs → map metadata_of (done_of ms rs) ≡ ms
metadata_known [] [] h = refl
metadata_known [] (r ∷ rs) h = absurd h
metadata_known (m ∷ ms) [] h = absurd h
metadata_known (m ∷ ms) (r ∷ rs) h =
    let same : metadata_of (done_by m r) ≡ m = ap (λ b. record m { is_import = b }) (twice m.is_import) in
    ap (λ x. x ∷ map metadata_of (done_of ms rs)) same ∙ ap (λ xs. m ∷ xs) (metadata_known ms rs h.1)

pub records_known : (ms : List Metadata) (rs : List FileDescriptorProto) → AreRecorded ms rs → records (done_of ms rs) ≡ rs
records_known [] [] h = refl
records_known [] (r ∷ rs) h = absurd h
records_known (m ∷ ms) [] h = absurd h
records_known (m ∷ ms) (r ∷ rs) h = ap (λ xs. r ∷ xs) (records_known ms rs h.1)

pub mark_known : (ms : List Metadata) (rs : List FileDescriptorProto) (name : List ℕ) → AreRecorded ms rs → done_of (opened_in name ms) rs ≡ mark name (done_of ms rs)
mark_known [] [] name h = refl
mark_known [] (r ∷ rs) name h = absurd h
mark_known (m ∷ ms) [] name h = absurd h
mark_known (m ∷ ms) (r ∷ rs) name h = at (bytes_eq m.name name) (mark_known ms rs name h.1)
  where
    at : (b : Bool) → done_of (opened_in name ms) rs ≡ mark name (done_of ms rs)
        → done_of (if b then record m { is_import = false } ∷ ms else m ∷ opened_in name ms) (r ∷ rs) ≡ (if b then record (done_by m r) { opened = true } ∷ done_of ms rs else done_by m r ∷ mark name (done_of ms rs))
    at true k = refl
    at false k = ap (λ ds. done_by m r ∷ ds) k

pub mark_recorded : (ms : List Metadata) (rs : List FileDescriptorProto) (name : List ℕ) → AreRecorded ms rs → AreRecorded (opened_in name ms) rs
mark_recorded [] [] name h = h
mark_recorded [] (r ∷ rs) name h = absurd h
mark_recorded (m ∷ ms) [] name h = absurd h
mark_recorded (m ∷ ms) (r ∷ rs) name h = at (bytes_eq m.name name) (mark_recorded ms rs name h.1)
  where
    at : (b : Bool) → AreRecorded (opened_in name ms) rs → AreRecorded (if b then record m { is_import = false } ∷ ms else m ∷ opened_in name ms) (r ∷ rs)
    at true k = h
    at false k = (h.0, k)

pub push_known : (ms : List Metadata) (rs : List FileDescriptorProto) (m : Metadata) (r : FileDescriptorProto) → AreRecorded ms rs → done_of (ms ++ m ∷ []) (rs ++ r ∷ []) ≡ done_of ms rs ++ done_by m r ∷ []
push_known [] [] m r h = refl
push_known [] (s ∷ rs) m r h = absurd h
push_known (n ∷ ms) [] m r h = absurd h
push_known (n ∷ ms) (s ∷ rs) m r h = ap (λ ds. done_by n s ∷ ds) (push_known ms rs m r h.1)

pub push_recorded : (ms : List Metadata) (rs : List FileDescriptorProto) (m : Metadata) (r : FileDescriptorProto) → AreRecorded ms rs → r.name ≡ Some m.name → AreRecorded (ms ++ m ∷ []) (rs ++ r ∷ [])
push_recorded [] [] m r h e = (e, tt)
push_recorded [] (s ∷ rs) m r h e = absurd h
push_recorded (n ∷ ms) [] m r h e = absurd h
push_recorded (n ∷ ms) (s ∷ rs) m r h e = (h.0, push_recorded ms rs m r h.1 e)

-- ---- what the rules say

-- a record that keeps the rules has the name that it declares
name_declared : (files : List FileDescriptorProto) (f : FileDescriptorProto) (name : List ℕ) → keeps_rules files f ≡ true → bytes_eq (text_or_empty f.name) name ≡ true → f.name ≡ Some name
name_declared files f name kept same = at f.name (has_name files f kept) same
  where
    at : (o : Option (List ℕ)) → is_some o ≡ true → bytes_eq (text_or_empty o) name ≡ true → o ≡ Some name
    at None h e = absurd (cc)
    at (Some own) h e = ap Some (bytes_are own name e)

-- a linked record has the name that its file declared
pub linked_name : (files : List FileDescriptorProto) (f : FileDescriptorProto) (name : List ℕ) → keeps_rules files f ≡ true → bytes_eq (text_or_empty f.name) name ≡ true → (linked_record files f).name ≡ Some name
linked_name files f name kept same = name_declared files f name kept same

no_place : (rule : ℕ) (files : List FileDescriptorProto) (f : FileDescriptorProto) (place : Place) → Contains (breaches rule files f) place → keeps_rules files f ≡ true → ⊥
no_place rule files f place h k =
    let P : List Place → Type 0 = λ ps. Contains ps place in
    nowhere (subst P (keeps_each files f k rule) h)
  where
    nowhere : Contains [] place → ⊥
    nowhere x = search rules

-- a record that is refused breaks a rule
pub refused_is_unlinked : (files : List FileDescriptorProto) (f : FileDescriptorProto) (error : DescriptorError) → IsRefused files f error → IsUnlinked files f (of_descriptor error)
refused_is_unlinked files f (check.Rule file place rule) h = (at (keeps_rules files f) refl, h)
  where
    at : (b : Bool) → keeps_rules files f ≡ b → b ≡ false
    at false e = refl
    at true e = absurd (no_place rule files f place h.1.broken e)
refused_is_unlinked files f (check.Decode error) h = absurd h
refused_is_unlinked files f check.NoMemory h = tt

-- ---- order

has_file_known : (ms : List Metadata) (rs : List FileDescriptorProto) (name : List ℕ) → AreRecorded ms rs → has_file rs name ≡ is_done (done_of ms rs) name
has_file_known [] [] name h = refl
has_file_known [] (r ∷ rs) name h = absurd h
has_file_known (m ∷ ms) [] name h = absurd h
has_file_known (m ∷ ms) (r ∷ rs) name h = rw (h.0, has_file_known ms rs name h.1) refl

both : (a b : Bool) → (a && b) ≡ true → (a ≡ true) × (b ≡ true)
both true b h = (refl, h)
both false b h = absurd (cc)

-- each import is one of the files
all_there : (ms : List Metadata) (rs : List FileDescriptorProto) (names : List (List ℕ)) → AreRecorded ms rs → list_all (has_file rs) names ≡ true → AllDone (done_of ms rs) names
all_there ms rs [] h k = tt
all_there ms rs (name ∷ names) h k =
    let each = both (has_file rs name) (list_all (has_file rs) names) k in
    (sym (has_file_known ms rs name h) ∙ each.0, all_there ms rs names h each.1)

-- files behind others are ordered
behind : (bms ms : List Metadata) (brs rs : List FileDescriptorProto) → AreRecorded bms brs → AreRecorded ms rs → AreBehind brs rs → IsOrdered (done_of bms brs) (done_of ms rs)
unfolding AreBehind
behind bms [] brs [] before h stand = tt
behind bms [] brs (r ∷ rs) before h stand = absurd h
behind bms (m ∷ ms) brs [] before h stand = absurd h
behind bms (m ∷ ms) brs (r ∷ rs) before h stand =
    let rest : IsOrdered (done_of (bms ++ m ∷ []) (brs ++ r ∷ [])) (done_of ms rs) = behind (bms ++ m ∷ []) ms (brs ++ r ∷ []) rs (push_recorded bms brs m r before h.0) h.1 stand.2 in
    let new : has_file brs m.name ≡ false = ap (λ (o : Option (List ℕ)). has_file brs (text_or_empty o)) (sym h.0) ∙ stand.0 in
    let P : List Done → Type 0 = λ ds. IsOrdered ds (done_of ms rs) in (
      h.0,
      sym (has_file_known bms brs m.name before) ∙ new,
      all_there bms brs r.dependency before stand.1,
      subst P (push_known bms brs m r before) rest,
    )

-- the files of a pool are ordered
pub ordered : (ms : List Metadata) (rs : List FileDescriptorProto) → AreRecorded ms rs → ArePooled [] rs → IsOrdered [] (done_of ms rs)
ordered ms rs h pooled = behind [] ms [] rs tt h (pooled_are_behind rs pooled)

-- ---- one file more

-- what one file more gives
pub record IsFinished (ms now_ms : List Metadata) (rs now_rs : List FileDescriptorProto) (f : Open) : Type 0 where
  pub recorded : AreRecorded now_ms now_rs
  pub done : done_of now_ms now_rs ≡ done_of ms rs ++ done_as (done_of ms rs) f.name f.entry ∷ []
  pub linked_is : keeps_rules (records (done_of ms rs)) f.entry.file ≡ true

pub finished : (ms now_ms : List Metadata) (rs now_rs : List FileDescriptorProto) (m : Metadata) (given : FileDescriptorProto) (f : Open) → AreRecorded ms rs → now_ms ≡ ms ++ m ∷ [] → now_rs ≡ with_file rs given → given ≡ f.entry.file
    → m ≡ record { name = f.name; path = f.entry.path; is_import = true } → keeps_rules rs given ≡ true → bytes_eq (declared_name f.entry) f.name ≡ true → IsFinished ms now_ms rs now_rs f
finished ms now_ms rs now_rs m given f known grown added is told accepted declared =
    let P : FileDescriptorProto → Type 0 = λ g. keeps_rules rs g ≡ true in
    let links : keeps_rules rs f.entry.file ≡ true = subst P is accepted in
    let named : (linked_record rs f.entry.file).name ≡ Some f.name = linked_name rs f.entry.file f.name links declared in
    let new : Metadata = record { name = f.name; path = f.entry.path; is_import = true } in
    record {
      recorded = rw (grown, added, is, told) (push_recorded ms rs new (linked_record rs f.entry.file) known named);
      done = rw (grown, added, is, told, records_known ms rs known) (push_known ms rs new (linked_record rs f.entry.file) known);
      linked_is = rw (records_known ms rs known) links;
    }
