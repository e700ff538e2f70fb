-- A set is read file by file: it means something exactly where the text of each file does.
use Rattle.std.proofs.Common.{◌≡◌, ℕ, ◌<◌, ◌^◌, Bool, true, false, not, ◌&&◌, cond, List, [], ◌∷◌, ◌++◌, length, map, Option, Some, None, refl, sym, ap, ◌∙◌, arith, rules, append-nil, codes}
use Rattle.std.specs.Prelude.{◌||◌, nat_lt, option_and_then, find, position}
use Rattle.std.specs.Option.{is_some}
use Rattle.std.specs.List.{list_all}
use Rattle.std.proofs.lemmas.Bool.{lt-ltb}
use Rattle.pbx_wire.specs.declared.rec.Rec.{Rec}
use Rattle.pbx_wire.specs.declared.rec.Rec.TheVariants as rec
use Rattle.pbx_wire.specs.declared.rec.Rec.{the_lemmas as rec_lemmas}
use Rattle.pbx_wire.specs.Reading.{records_in}
use Rattle.pbx_wire.specs.Text.{text_of, is_fit, are_fit, is_numbered, are_numbered, depth, depth_of}
use Rattle.pbx_wire.proofs.Written.{written_again, both}
use Rattle.pbx_content.specs.declared.shape.Kind.TheVariants as kind
use Rattle.pbx_content.specs.declared.shape.Cardinality.TheVariants.{Repeated}
use Rattle.pbx_content.specs.declared.shape.FieldShape.{FieldShape}
use Rattle.pbx_content.specs.declared.shape.Shape.{Shape}
use Rattle.pbx_content.specs.Content.{vals_of}
use Rattle.pbx_content.specs.Records.{sorted, insert}
use Rattle.pbx_content.specs.Shape.{fields_of, field_of}
use Rattle.pbx_content.specs.Meaning.{meaning, meaning_of, parts_meaning_of}
use Rattle.pbx_content.specs.Sound.{IsProper}
use Rattle.pbx_content.specs.Encoding.{encoded, content_recs, vals_recs}
use Rattle.pbx_content.proofs.OntoSplits.{not_there, meaning_splits}
use Rattle.pbx_content.proofs.FaultyLaw.{one_inner}
use Rattle.pbx_content.proofs.WrittenShort.{size_first, bytes_within}
use Rattle.pbx_desc_records.specs.declared.file.FileDescriptorProto.{FileDescriptorProto}
use Rattle.pbx_desc_shapes.specs.DescriptorShape.{descriptor_shape, list_field}
use Rattle.pbx_desc_shapes.proofs.DescriptorsProper.{descriptor_shape_proper}
use Rattle.pbx_desc_encoding.specs.Content.{file_value, files_content}
use Rattle.pbx_desc_encoding.specs.Sets.{DecodesSet, is_deep_file}
use Rattle.pbx_desc_decodable.specs.Schema.{descriptor_schema, options_schema}
use Rattle.pbx_desc_decodable.proofs.Opened.{set_field, options_set_field_found}
use Rattle.pbx_desc_decodable.proofs.Proper.{options_schema_proper}
use Rattle.pbx_desc_decodable.proofs.Reading.{message_told, nothing_means}
use Rattle.pbx_desc_decodable.proofs.Found.{none_found, no_place}
use Rattle.pbx_desc_decodable.proofs.Source.{file_alike}
use Rattle.pbx_desc_decodable.specs.Sets.{file_text, is_undecodable, AreDecodable, IsSet, IsSetOrNone}

-- ---- the records of a set

-- the record that a file is
abbrev file_rec : FileDescriptorProto → Rec
file_rec f = rec.Bytes 1 (file_text f)

vals_are : (files : List FileDescriptorProto) → vals_recs descriptor_shape 1 (kind.Message 1) (vals_of (map file_value files)) ≡ map file_rec files
vals_are [] = refl
vals_are (f ∷ fs) = ap (λ rs. file_rec f ∷ rs) (vals_are fs)

in_order : (files : List FileDescriptorProto) → sorted (map file_rec files) ≡ map file_rec files
in_order [] = refl
in_order (f ∷ fs) = ap (insert (file_rec f)) (in_order fs) ∙ first fs
  where
    first : (gs : List FileDescriptorProto) → insert (file_rec f) (map file_rec gs) ≡ file_rec f ∷ map file_rec gs
    first [] = refl
    first (g ∷ gs) = refl

set_recs : (files : List FileDescriptorProto) → content_recs descriptor_shape 0 (files_content files) ≡ map file_rec files
unfolding descriptor_shape
set_recs [] = refl
set_recs (f ∷ fs) =
    ap (λ rs. sorted ((rs ++ []) ++ [])) (vals_are (f ∷ fs))
    ∙ ap (λ rs. sorted (rs ++ [])) (append-nil (map file_rec (f ∷ fs)))
    ∙ ap sorted (append-nil (map file_rec (f ∷ fs)))
    ∙ in_order (f ∷ fs)

-- ---- their text spells them

-- the text of the records
abbrev set_text : List FileDescriptorProto → List ℕ
set_text files = text_of (map file_rec files)

are_numbered_all : (files : List FileDescriptorProto) → are_numbered (map file_rec files) ≡ true
are_numbered_all [] = refl
are_numbered_all (f ∷ fs) = let one : is_numbered (file_rec f) ≡ true = search (rules, rec_lemmas) in rw one (are_numbered_all fs)

are_shallow : (files : List FileDescriptorProto) → depth_of (map file_rec files) ≡ 0
are_shallow [] = refl
are_shallow (f ∷ fs) = let one : depth (file_rec f) ≡ 0 = search (rules, rec_lemmas) in rw (one, are_shallow fs) refl

are_fit_all : (files : List FileDescriptorProto) → length (set_text files) < 2 ^ 64 → are_fit (map file_rec files) ≡ true
are_fit_all [] short = refl
are_fit_all (f ∷ fs) short =
    let one : is_fit (file_rec f) ≡ nat_lt (length (file_text f)) (2 ^ 64) = search (rules, rec_lemmas) in
    let first = size_first (file_rec f) (map file_rec fs) in
    let fits : is_fit (file_rec f) ≡ true = one ∙ lt-ltb (length (file_text f)) (2 ^ 64) (omega (arith, short, first, bytes_within 1 (file_text f))) in
    rw fits (are_fit_all fs (omega (arith, short, first)))

recs_again : (files : List FileDescriptorProto) → length (set_text files) < 2 ^ 64 → records_in 100 (set_text files) ≡ Some (map file_rec files)
recs_again files short =
    written_again 100 (map file_rec files) (are_numbered_all files) (are_fit_all files short) (omega (arith, are_shallow files))

-- ---- what they mean, file by file

-- the text of the file means something
abbrev reads_in : Shape → FileDescriptorProto → Bool
reads_in s f = is_some (meaning_of s 1 (file_text f))

abbrev reads : FileDescriptorProto → Bool
reads f = reads_in descriptor_schema f

-- the first type is that of a set of the second
record IsOfSets (s : Shape) : Type 0 where
  proper : IsProper s
  field : FieldShape
  found : field_of 1 (fields_of s 0) ≡ Some field
  kind : field.kind ≡ kind.Message 1
  cardinality : field.cardinality ≡ Repeated

file_told : (s : Shape) → IsOfSets s → (f : FileDescriptorProto) → reads_in s f ≡ is_some (meaning s 101 (fields_of s 0) (file_rec f ∷ []))
file_told s h f =
    ap is_some (sym (one_inner s 100 (fields_of s 1) (file_text f)))
    ∙ message_told s 101 0 1 h.field (file_rec f) (file_text f) h.proper h.found h.kind h.cardinality refl

all_told : (s : Shape) → IsOfSets s → (files : List FileDescriptorProto)
    → list_all (reads_in s) files ≡ is_some (meaning s 101 (fields_of s 0) (map file_rec files))
all_told s h [] = sym (nothing_means s 101 (fields_of s 0))
all_told s h (f ∷ fs) =
    ap (λ b. b && list_all (reads_in s) fs) (file_told s h f)
    ∙ ap (λ b. is_some (meaning s 101 (fields_of s 0) (file_rec f ∷ [])) && b) (all_told s h fs)
    ∙ sym (meaning_splits s 101 (fields_of s 0) (file_rec f ∷ []) (map file_rec fs))

set_told : (s : Shape) → IsOfSets s → (files : List FileDescriptorProto) (bytes : List ℕ) → bytes ≡ encoded descriptor_shape 0 (files_content files)
    → length bytes < 2 ^ 64 → is_some (parts_meaning_of s 0 bytes) ≡ list_all (reads_in s) files
set_told s h files bytes is short =
    let same : bytes ≡ set_text files = is ∙ ap text_of (set_recs files) in
    let again = recs_again files (omega (arith, short, ap length same)) in
    ap (λ t. is_some (parts_meaning_of s 0 t)) same
    ∙ ap (λ o. is_some (option_and_then (meaning s 101 (fields_of s 0)) o)) again
    ∙ sym (all_told s h files)

-- ---- what they mean without `source_code_info`

shape_of_sets : IsOfSets descriptor_shape
unfolding descriptor_shape
shape_of_sets = record {
  proper = descriptor_shape_proper;
  field = list_field 1 (codes "file") (codes "file") (kind.Message 1);
  found = refl;
  kind = refl;
  cardinality = refl;
}

options_of_sets : IsOfSets options_schema
options_of_sets = record { proper = options_schema_proper; field = set_field; found = options_set_field_found; kind = refl; cardinality = refl }

all_alike : (files : List FileDescriptorProto) → list_all (reads_in descriptor_shape) files ≡ true
    → list_all (reads_in options_schema) files ≡ list_all reads files
all_alike [] h = refl
all_alike (f ∷ fs) h =
    let parts = both (reads_in descriptor_shape f) (list_all (reads_in descriptor_shape) fs) h in
    rw (file_alike (file_text f) parts.0, all_alike fs parts.1) refl

options_told : (files : List FileDescriptorProto) (bytes : List ℕ) → bytes ≡ encoded descriptor_shape 0 (files_content files)
    → DecodesSet bytes (files_content files) → length bytes < 2 ^ 64 → is_some (parts_meaning_of options_schema 0 bytes) ≡ list_all reads files
options_told files bytes is decodes short =
    set_told options_schema options_of_sets files bytes is short
    ∙ all_alike files (sym (set_told descriptor_shape shape_of_sets files bytes is short) ∙ ap is_some decodes.1)

-- ---- the first file that cannot be read again

decodable_from : (files : List FileDescriptorProto) → find is_deep_file files ≡ None → list_all reads files ≡ true → AreDecodable files
decodable_from [] deep all = refl
decodable_from (f ∷ fs) deep all = at (is_deep_file f) refl deep (reads f) refl all (decodable_from fs)
  where
    at : (d : Bool) → is_deep_file f ≡ d → cond d (Some f) (find is_deep_file fs) ≡ None → (r : Bool) → reads f ≡ r → r && list_all reads fs ≡ true
        → (find is_deep_file fs ≡ None → list_all reads fs ≡ true → AreDecodable fs) → AreDecodable (f ∷ fs)
    at true d none r e h rest = absurd cc
    at false d none true e h rest =
        let own : is_undecodable f ≡ false = rw (d, e) refl in
        ap (λ b. cond b (Some f) (find is_undecodable fs)) own ∙ rest none h
    at false d none false e h rest = absurd cc

all_from : (files : List FileDescriptorProto) → AreDecodable files → list_all reads files ≡ true
all_from [] h = refl
all_from (f ∷ fs) h = at (is_deep_file f) (reads f) h (all_from fs)
  where
    at : (d r : Bool) → cond (d || not r) (Some f) (find is_undecodable fs) ≡ None → (AreDecodable fs → list_all reads fs ≡ true) → r && list_all reads fs ≡ true
    at true r h rest = absurd cc
    at false true h rest = rest h
    at false false h rest = absurd cc

some_deep : (files : List FileDescriptorProto) → AreDecodable files → find is_deep_file files ≡ None
some_deep [] h = refl
some_deep (f ∷ fs) h = at (is_deep_file f) (reads f) h (some_deep fs)
  where
    at : (d r : Bool) → cond (d || not r) (Some f) (find is_undecodable fs) ≡ None → (AreDecodable fs → find is_deep_file fs ≡ None)
        → cond d (Some f) (find is_deep_file fs) ≡ None
    at true r h rest = absurd cc
    at false true h rest = rest h
    at false false h rest = absurd cc

-- a set whose text means something
pub set_decodable : (files : List FileDescriptorProto) (bytes : List ℕ) (place : Option ℕ) → place ≡ position is_deep_file files → is_some place ≡ false
    → bytes ≡ encoded descriptor_shape 0 (files_content files) → DecodesSet bytes (files_content files) → length bytes < 2 ^ 64
    → true ≡ is_some (parts_meaning_of options_schema 0 bytes) → AreDecodable files × IsSet files bytes
set_decodable files bytes place deep none is decodes short told =
    let all : list_all reads files ≡ true = sym (told ∙ options_told files bytes is decodes short) in
    (decodable_from files (none_found is_deep_file files (sym deep ∙ not_there place none)) all, (is, decodes))

-- a set whose text means nothing
pub set_undecodable : (files : List FileDescriptorProto) (bytes : List ℕ) → bytes ≡ encoded descriptor_shape 0 (files_content files)
    → DecodesSet bytes (files_content files) → length bytes < 2 ^ 64 → false ≡ is_some (parts_meaning_of options_schema 0 bytes) → AreDecodable files → ⊥
set_undecodable files bytes is decodes short told decodable =
    let bad : false ≡ true = told ∙ options_told files bytes is decodes short ∙ all_from files decodable in
    absurd cc

-- a deep file cannot be read again
pub no_set : (files : List FileDescriptorProto) (place : Option ℕ) → place ≡ position is_deep_file files → is_some place ≡ true → IsSetOrNone files None
no_set files place deep some = λ decodable.
    let none : place ≡ None = deep ∙ no_place is_deep_file files (some_deep files decodable) in
    let bad : true ≡ false = sym some ∙ ap is_some none in
    absurd cc

-- ---- one file

pub one_told : (f : FileDescriptorProto) (bytes : Option (List ℕ)) → IsSetOrNone (f ∷ []) bytes → is_some bytes ≡ not (is_undecodable f)
one_told f bytes h = at (is_undecodable f) refl bytes h
  where
    at : (b : Bool) → is_undecodable f ≡ b → (o : Option (List ℕ)) → IsSetOrNone (f ∷ []) o → is_some o ≡ not b
    at true e None h = refl
    at false e (Some set) h = refl
    at true e (Some set) h = let bad : Some f ≡ None = sym (ap (λ b. cond b (Some f) None) e) ∙ h.0 in absurd cc
    at false e None h = absurd (h (ap (λ b. cond b (Some f) None) e))
