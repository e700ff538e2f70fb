-- The files of the bytes of a set, record by record.
use Rattle.std.proofs.Common.{◌≡◌, ◌∙◌, ℕ, ◌<◌, Bool, true, false, List, [], ◌∷◌, ◌++◌, length, map, Option, Some, None, option_map, refl, sym, ap}
use Rattle.std.proofs.Common.{subst, inl, inr, arith, append-nil, append_assoc, length-append}
use Rattle.std.specs.Prelude.{option_and_then, codes}
use Rattle.std.specs.List.{filter}
use Rattle.std.proofs.lemmas.List.Elements.{filter-append}
use Rattle.pbx_wire.specs.declared.rec.Rec.{Rec, Bytes, out-Rec}
use Rattle.pbx_wire.specs.Spelling.{Spells, SpellsBelow}
use Rattle.pbx_wire.specs.Faults.{SpellsOne}
use Rattle.pbx_wire.specs.Front.{IsFront}
use Rattle.pbx_wire.proofs.Laws.{layer_has}
use Rattle.pbx_content.specs.declared.shape.FieldShape.{FieldShape}
use Rattle.pbx_content.specs.declared.shape.Kind.TheVariants as kind
use Rattle.pbx_content.specs.Content.{Content, content, get, no_fields, Val, many, vals_of}
use Rattle.pbx_content.specs.Records.{bytes_of, is_of, those_of, each, flat, any}
use Rattle.pbx_content.specs.Shape.{fields_of, is_kept, is_rival}
use Rattle.pbx_content.specs.Meaning.{spread, shown, value, with_field, layer, meaning}
use Rattle.pbx_content.proofs.FaultyAlone.{spelled_next}
use Rattle.pbx_content.proofs.FaultyLaw.{are_records, one_inner}
use Rattle.pbx_content.proofs.OntoSplits.{inner_at, meaning_is}
use Rattle.pbx_content.proofs.SoundLaw.{parts_sound}
use Rattle.pbx_content.proofs.Sorted.{after_last_none}
use Rattle.pbx_desc_shapes.specs.DescriptorShape.{descriptor_shape, set_fields, list_field}
use Rattle.pbx_desc_shapes.proofs.DescriptorsProper.{descriptor_shape_proper}
use Rattle.pbx_desc_encoding.specs.Content.{listed, of_records, file_content, file_value}
use Rattle.pbx_desc_encoding.specs.Sets.{set_meaning_of}
use Rattle.pbx_desc_encoding.proofs.Types.{file_set_type}
use Rattle.pbx_desc.specs.Taking.{AreTaken}
use Rattle.pbx_desc.specs.Exact.{is_exact_with, are_exact, is_exact_file}
use Rattle.pbx_desc.proofs.Walk.{whole}
use Rattle.pbx_link.specs.Bytes.{DecodesFiles}
use Rattle.protox_file_sources.specs.Told.{Entry}
use Rattle.protox_file.specs.Sets.{records_of, IsFileOf, AreFilesOf, AreFilesIn, IsAdded}

-- ---- lists

each_first : {X Y : Type 0} (f : X → Option Y) (x : X) (xs : List X) (ys : List Y) → each f (x ∷ xs) ≡ Some ys
    → (y : Y) × (zs : List Y) × (f x ≡ Some y) × (each f xs ≡ Some zs) × (ys ≡ y ∷ zs)
each_first {Y = Y} f x xs ys e = at (f x) (each f xs) refl refl e
  where
    at : (a : Option Y) (b : Option (List Y)) → f x ≡ a → each f xs ≡ b → option_and_then (λ y. option_map (λ zs. y ∷ zs) b) a ≡ Some ys
        → (y : Y) × (zs : List Y) × (f x ≡ Some y) × (each f xs ≡ Some zs) × (ys ≡ y ∷ zs)
    at None b p q e = absurd cc
    at (Some y) None p q e = absurd cc
    at (Some y) (Some zs) p q e = (y, zs, p, q, cc)

each_more : {X Y : Type 0} (f : X → Option Y) (xs : List X) (x : X) (ys : List Y) (y : Y) → each f xs ≡ Some ys → f x ≡ Some y
    → each f (xs ++ x ∷ []) ≡ Some (ys ++ y ∷ [])
each_more f [] x ys y e d = let none : [] ≡ ys = cc in rw (d, ← none) refl
each_more {X = X} {Y = Y} f (w ∷ xs) x ys y e d = at (each_first f w xs ys e) (λ zs q. each_more f xs x zs y q d)
  where
    at : (v : Y) × (zs : List Y) × (f w ≡ Some v) × (each f xs ≡ Some zs) × (ys ≡ v ∷ zs)
        → ((zs : List Y) → each f xs ≡ Some zs → each f (xs ++ x ∷ []) ≡ Some (zs ++ y ∷ []))
        → each f (w ∷ xs ++ x ∷ []) ≡ Some (ys ++ y ∷ [])
    at (v, zs, p, q, is) ih = rw (p, ih zs q, is) refl

flat_ones : {X Y : Type 0} (f : X → Y) (xs : List X) → flat (map (λ x. f x ∷ []) xs) ≡ map f xs
flat_ones f [] = refl
flat_ones f (x ∷ xs) = ap (λ ys. f x ∷ ys) (flat_ones f xs)

-- ---- what the records of a set mean

-- the record of an entry as a value of the set's field
abbrev value_of : Entry → Val
value_of e = file_value e.file

file_read : (r : Rec) (payload : List ℕ) (e : Entry) → bytes_of r ≡ Some payload → IsFileOf payload e
    → spread descriptor_shape (inner_at descriptor_shape 101) (kind.Message 1) r ≡ Some (value_of e ∷ [])
file_read r payload e is file = rw (is, one_inner descriptor_shape 100 (fields_of descriptor_shape 1) payload, file.1.0) refl

files_read : (rs : List Rec) (payloads : List (List ℕ)) (es : List Entry) → each bytes_of rs ≡ Some payloads → AreFilesOf payloads es
    → each (spread descriptor_shape (inner_at descriptor_shape 101) (kind.Message 1)) rs ≡ Some (map (λ e. value_of e ∷ []) es)
files_read [] [] [] e h = refl
files_read [] [] (f ∷ fs) e h = absurd h
files_read [] (p ∷ ps) es e h = absurd cc
files_read (r ∷ rs) [] es e h = absurd (let first = each_first bytes_of r rs [] e in cc (first.4))
files_read (r ∷ rs) (p ∷ ps) [] e h = absurd h
files_read (r ∷ rs) (p ∷ ps) (f ∷ fs) e h =
    let first = each_first bytes_of r rs (p ∷ ps) e in
    let own : first.0 ≡ p = cc (first.4) in
    let others : first.1 ≡ ps = cc (first.4) in
    rw (file_read r p f (first.2 ∙ ap Some own) h.0, files_read rs ps fs (first.3 ∙ ap Some others) h.1) refl

shown_listed : (vs : List Val) → shown descriptor_shape false (kind.Message 1) (Some (many (vals_of vs))) ≡ listed vs
shown_listed [] = refl
shown_listed (v ∷ vs) = refl

-- the field of a set
abbrev set_field : FieldShape
set_field = list_field 1 (codes "file") (codes "file") (kind.Message 1)

no_rival : (rs : List Rec) → any (is_rival set_fields set_field) rs ≡ false
no_rival [] = refl
no_rival (r ∷ rs) = no_rival rs

set_value : (rs : List Rec) (payloads : List (List ℕ)) (es : List Entry) → each bytes_of (those_of 1 rs) ≡ Some payloads → AreFilesOf payloads es
    → value descriptor_shape (inner_at descriptor_shape 101) set_field (those_of 1 rs) ≡ Some (listed (map value_of es))
set_value rs payloads es found files =
    ap (option_map (λ (vs : List (List Val)). shown descriptor_shape false (kind.Message 1) (Some (many (vals_of (flat vs))))))
    (files_read (those_of 1 rs) payloads es found files)
    ∙ ap (λ (vs : List Val). Some (shown descriptor_shape false (kind.Message 1) (Some (many (vals_of vs))))) (flat_ones value_of es)
    ∙ ap Some (shown_listed (map value_of es))

-- the content of a set of these entries and kept records
abbrev set_of : List Entry → List Rec → Content
set_of es kept = content (with_field 1 (listed (map value_of es)) no_fields) kept

set_layer : (rs : List Rec) (payloads : List (List ℕ)) (es : List Entry) → each bytes_of (those_of 1 rs) ≡ Some payloads → AreFilesOf payloads es
    → layer descriptor_shape (inner_at descriptor_shape 101) set_fields rs ≡ Some (set_of es (filter (is_kept set_fields) rs))
set_layer rs payloads es found files =
    let own = set_value rs payloads es found files in
    let last = after_last_none (is_rival set_fields set_field) rs (no_rival rs) in
    rw (own, last, own) refl

set_means : (bytes : List ℕ) (rs : List Rec) (payloads : List (List ℕ)) (es : List Entry) → Spells 100 bytes rs
    → each bytes_of (those_of 1 rs) ≡ Some payloads → AreFilesOf payloads es
    → set_meaning_of bytes ≡ Some (set_of es (filter (is_kept set_fields) rs))
set_means bytes rs payloads es spelled found files =
    ap (option_and_then (meaning descriptor_shape 101 (fields_of descriptor_shape 0))) (are_records 100 bytes rs spelled)
    ∙ ap (λ (gs : List FieldShape). meaning descriptor_shape 101 gs rs) file_set_type
    ∙ meaning_is descriptor_shape 101 set_fields rs
    ∙ set_layer rs payloads es found files

-- ---- the record of a set

values_are : (es : List Entry) → map file_value (records_of es) ≡ map value_of es
values_are [] = refl
values_are (e ∷ es) = ap (λ (vs : List Val). value_of e ∷ vs) (values_are es)

got_first : (v : Option Val) → v ≡ get 1 (with_field 1 v no_fields)
got_first None = refl
got_first (Some v) = refl

all_exact : (payloads : List (List ℕ)) (es : List Entry) → AreFilesOf payloads es → are_exact is_exact_file (records_of es) ≡ true
all_exact [] [] h = refl
all_exact [] (e ∷ es) h = absurd h
all_exact (p ∷ ps) [] h = absurd h
all_exact (p ∷ ps) (e ∷ es) h = rw (h.0.1.1) (all_exact ps es h.1)

-- the whole set decodes to the records
pub decodes_files : (bytes : List ℕ) (es : List Entry) → AreFilesIn bytes es → DecodesFiles bytes (records_of es)
decodes_files bytes es h =
    let kept : List Rec = filter (is_kept set_fields) h.records in
    let means = set_means bytes h.records h.payloads es h.spelled h.found h.files in
    let sound = parts_sound descriptor_shape 0 bytes (set_of es kept) descriptor_shape_proper means in
    let own = ap listed (values_are es) ∙ got_first (listed (map value_of es)) in
    let all : AreTaken set_fields (of_records file_content (records_of es) ∷ []) (true ∷ []) kept (set_of es kept) =
    record { values = ((λ may. own), tt); exact = ((λ may. refl), tt); unread = refl } in
    let made = whole 0 set_fields (of_records file_content (records_of es) ∷ []) (true ∷ []) kept (set_of es kept) file_set_type refl all sound in
    let exact : is_exact_with (are_exact is_exact_file (records_of es) ∷ []) set_fields kept ≡ true =
    subst (λ (x : Bool). is_exact_with (x ∷ []) set_fields kept ≡ true) (sym (all_exact h.payloads es h.files)) made.1 in
    (record { file = records_of es; unknown = kept }, means ∙ ap (λ (c : Content). Some c) (sym made.0), exact, refl)

-- ---- record by record

-- the bytes before the rest are read, and have these files
pub record HasRead (bytes rest : List ℕ) (es : List Entry) : Type 0 where
  pub before : List ℕ
  pub parts : bytes ≡ before ++ rest
  pub files : AreFilesIn before es

none_spelled : Spells 100 [] []
unfolding SpellsBelow
none_spelled = refl

pub none_read : (bytes : List ℕ) → HasRead bytes bytes []
none_read bytes = record {
  before = [];
  parts = refl;
  files = record { records = []; payloads = []; spelled = none_spelled; found = refl; files = tt };
}

files_more : (payloads : List (List ℕ)) (es : List Entry) (p : List ℕ) (e : Entry) → AreFilesOf payloads es → IsFileOf p e
    → AreFilesOf (payloads ++ p ∷ []) (es ++ e ∷ [])
files_more [] [] p e h one = (one, tt)
files_more [] (f ∷ fs) p e h one = absurd h
files_more (q ∷ qs) [] p e h one = absurd h
files_more (q ∷ qs) (f ∷ fs) p e h one = (h.0, files_more qs fs p e h.1 one)

-- the files with those of one record more
files_added : (before first : List ℕ) (r : Rec) (old new : List Entry) → AreFilesIn before old → SpellsOne 100 first r → IsAdded r old new
    → AreFilesIn (before ++ first) new
files_added before first r old new h one (inl (none, same)) = record {
  records = h.records ++ r ∷ [];
  payloads = h.payloads;
  spelled = spelled_next 100 before first h.records r h.spelled one;
  found = ap (each bytes_of) (filter-append (is_of 1) h.records (r ∷ []) ∙ ap (λ (rs : List Rec). those_of 1 h.records ++ rs) none
      ∙ append-nil (those_of 1 h.records)) ∙ h.found;
  files = subst (AreFilesOf h.payloads) (sym same) h.files;
}
files_added before first r old new h one (inr (payload, entry, is, file, more)) = record {
  records = h.records ++ r ∷ [];
  payloads = h.payloads ++ payload ∷ [];
  spelled = spelled_next 100 before first h.records r h.spelled one;
  found = ap (each bytes_of) (filter-append (is_of 1) h.records (r ∷ []) ∙ ap (λ (x : Rec). those_of 1 h.records ++ those_of 1 (x ∷ [])) is)
      ∙ each_more bytes_of (those_of 1 h.records) (Bytes 1 payload) h.payloads payload h.found refl;
  files = subst (AreFilesOf (h.payloads ++ payload ∷ [])) (sym more) (files_more h.payloads old payload entry h.files file);
}

pub more_read : (bytes rest after : List ℕ) (r : Rec) (old new : List Entry) → HasRead bytes rest old → IsFront 100 rest (Some (r, after))
    → IsAdded r old new → HasRead bytes after new
more_read bytes rest after r old new h (first, one, parts) added = record {
  before = h.before ++ first;
  parts = h.parts ∙ ap (λ (x : List ℕ). h.before ++ x) parts ∙ sym (append_assoc h.before first after);
  files = files_added h.before first r old new h.files one added;
}

pub all_read : (bytes rest : List ℕ) (es : List Entry) → HasRead bytes rest es → IsFront 100 rest None → AreFilesIn bytes es
all_read bytes rest es h none =
    subst (λ (x : List ℕ). AreFilesIn x es) (sym (h.parts ∙ ap (λ (x : List ℕ). h.before ++ x) none ∙ append-nil h.before)) h.files

pub less_left : (rest after : List ℕ) (r : Rec) → IsFront 100 rest (Some (r, after)) → length after < length rest
less_left rest after r (first, one, parts) =
    omega (arith, layer_has (SpellsBelow 100) first (out-Rec r) one, ap length parts, length-append first after)

pub ruleset reading = (none_read, more_read, all_read, less_left)
