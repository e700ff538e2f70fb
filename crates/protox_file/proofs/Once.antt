-- The bytes of a set have one list of files.
use Rattle.std.proofs.Common.{◌≡◌, ◌∙◌, ℕ, List, [], ◌∷◌, Some, refl, sym, ap, subst}
use Rattle.pbx_wire.specs.declared.rec.Rec.{Rec}
use Rattle.pbx_content.specs.Records.{bytes_of, those_of, each}
use Rattle.pbx_content.proofs.FaultyLaw.{are_records}
use Rattle.pbx_desc_records.specs.declared.file.FileDescriptorProto.{FileDescriptorProto}
use Rattle.pbx_desc_encoding.specs.Content.{file_content}
use Rattle.pbx_desc.proofs.One.{file_one}
use Rattle.protox_file_sources.specs.Library.{alone}
use Rattle.protox_file_sources.specs.Told.{Entry}
use Rattle.protox_file.specs.Sets.{IsFileOf, AreFilesOf, AreFilesIn}
use Rattle.protox_file.specs.Laws.{SetsReadOnce}

-- bytes fix the record that they decode to, in which nothing stands beside its content
same_file : (p : List ℕ) (e f : Entry) → IsFileOf p e → IsFileOf p f → e ≡ f
same_file p e f h k =
    let told : Some (file_content e.file) ≡ Some (file_content f.file) = sym h.1.0 ∙ k.1.0 in
    let same : file_content e.file ≡ file_content f.file = cc in
    h.0 ∙ ap (λ (g : FileDescriptorProto). record (alone g) { encoded = Some p }) (file_one e.file f.file h.1.1 k.1.1 same) ∙ sym k.0

same_files : (ps : List (List ℕ)) (es fs : List Entry) → AreFilesOf ps es → AreFilesOf ps fs → es ≡ fs
same_files [] [] [] h k = refl
same_files [] [] (f ∷ fs) h k = absurd k
same_files [] (e ∷ es) fs h k = absurd h
same_files (p ∷ ps) [] fs h k = absurd h
same_files (p ∷ ps) (e ∷ es) [] h k = absurd k
same_files (p ∷ ps) (e ∷ es) (f ∷ fs) h k = rw (same_file p e f h.0 k.0, same_files ps es fs h.1 k.1) refl

pub sets_read_once : SetsReadOnce
sets_read_once bytes es fs h k =
    let spelled : Some h.records ≡ Some k.records = sym (are_records 100 bytes h.records h.spelled) ∙ are_records 100 bytes k.records k.spelled in
    let records : h.records ≡ k.records = cc in
    let found : Some h.payloads ≡ Some k.payloads = sym h.found ∙ ap (λ (rs : List Rec). each bytes_of (those_of 1 rs)) records ∙ k.found in
    let payloads : h.payloads ≡ k.payloads = cc in
    same_files k.payloads es fs (subst (λ (ps : List (List ℕ)). AreFilesOf ps es) payloads h.files) k.files
