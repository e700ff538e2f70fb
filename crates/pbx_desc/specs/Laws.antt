-- Laws of the definitions, each proved as the contract of a public function.
use Rattle.std.specs.Prelude.{◌≡◌, ℕ, List, Bool, true, Some}
use Rattle.pbx_content.specs.Content.{Content}
use Rattle.pbx_desc_encoding.specs.Content.{file_content, file_set_content}
use Rattle.pbx_desc_shapes.specs.DescriptorShape.{descriptor_shape}
use Rattle.pbx_desc.specs.Decoding.{Decoding, meaning_by, Whole, ByParts}
use Rattle.pbx_desc.specs.Exact.{is_exact_file, is_exact_file_set}

-- two exact records with the same content are the same
abbrev pub FixedByContent : {R : Type 0} → (R → Content) → (R → Bool) → Type 0
FixedByContent {R} content_of is_exact = (a b : R) → is_exact a ≡ true → is_exact b ≡ true → content_of a ≡ content_of b → a ≡ b

-- two exact records that hold what the same bytes mean, read so as a message of the type at the place, are the same
abbrev pub FixedByBytes : {R : Type 0} → Decoding → ℕ → (R → Content) → (R → Bool) → Type 0
FixedByBytes {R} how t content_of is_exact =
    (bytes : List ℕ) (a b : R) → is_exact a ≡ true → is_exact b ≡ true
    → meaning_by how descriptor_shape t bytes ≡ Some (content_of a) → meaning_by how descriptor_shape t bytes ≡ Some (content_of b) → a ≡ b

-- so the bytes of a file fix its record
abbrev pub FileFixedByBytes : Type 0
FileFixedByBytes = FixedByBytes Whole 1 file_content is_exact_file

-- and those of a set of files theirs
abbrev pub FileSetFixedByBytes : Type 0
FileSetFixedByBytes = FixedByBytes ByParts 0 file_set_content is_exact_file_set
