-- Sets that are written file by file.
use Rattle.std.proofs.Common.{◌≡◌, ℕ, suc, not, ◌+◌, ◌≤◌, Bool, true, false, cond, if◌then◌else◌, List, [], ◌∷◌, ◌++◌, length, map, Option, Some, None, refl, sym, ap, ◌∙◌, subst, arith}
use Rattle.std.specs.Prelude.{◌==◌, nat_lt, position}
use Rattle.std.specs.Option.{option_or}
use Rattle.std.specs.List.{filter, position_or_len}
use Rattle.std.proofs.Common.{length-append}
use Rattle.std.proofs.lemmas.List.{map-append, take_all}
use Rattle.std.proofs.lemmas.List.Folds.{position_or_len_push}
use Rattle.std.proofs.lemmas.Bool.Decides.{nat_tests}
use Rattle.pbx_wire.specs.Text.{text as text_of_rec, text_of, are_fit}
use Rattle.pbx_wire.specs.declared.rec.Rec.{Rec}
use Rattle.pbx_wire.proofs.Texts.{text_of-append, text_of_one}
use Rattle.pbx_content_map.specs.Entries.{IsAscending}
use Rattle.pbx_content_codec.specs.declared.contents.Held.{Held}
use Rattle.pbx_content.specs.declared.shape.Shape.{Shape}
use Rattle.pbx_content.specs.declared.shape.Cardinality.TheVariants.{Repeated}
use Rattle.pbx_content.specs.declared.shape.Kind.TheVariants as kind
use Rattle.pbx_content.specs.Content.{content}
use Rattle.pbx_content.specs.Encoding.{encoded, payload, content_recs}
use Rattle.pbx_content.specs.Sound.{IsSound, depth}
use Rattle.pbx_desc_shapes.specs.DescriptorShape.{descriptor_shape, set_fields}
use Rattle.pbx_desc_records.specs.declared.file.FileDescriptorProto.{FileDescriptorProto}
use Rattle.pbx_desc_encoding.specs.Building.{entries, Writes, IsWritten}
use Rattle.pbx_desc_encoding.specs.Content.{of_records, file_content, file_value, files_content}
use Rattle.pbx_desc_encoding.specs.Levels.{file_levels}
use Rattle.pbx_desc_encoding.specs.Sets.{SetText, IsSetOf, is_deep_file}
use Rattle.pbx_desc_encoding.specs.Sound.{AreOf}
use Rattle.pbx_wire.specs.Number.{is_writable_beside}
use Rattle.pbx_desc_encoding.proofs.Behind.{begin, anew, written, closed, all_sent}
use Rattle.pbx_desc_encoding.proofs.Depths.{file_depth}
use Rattle.pbx_desc_encoding.proofs.Told.{are_pushed}
use Rattle.pbx_desc_encoding.proofs.Types.{file_set_type}

-- ---- levels

pub shallow_is : (f : FileDescriptorProto) → file_levels f ≤ 100 → false ≡ is_deep_file f
shallow_is f h = let few : depth (file_content f) ≤ 100 = omega (arith, h, file_depth f) in grind (arith, nat_tests, few)

-- ---- the first of a list that passes

place_within : {X : Type 0} (p : X → Bool) (xs : List X) → position_or_len p xs ≤ length xs
place_within p [] = omega arith
place_within p (x ∷ xs) = at (p x) refl (place_within p xs)
  where
    at : (b : Bool) → p x ≡ b → position_or_len p xs ≤ length xs → cond (not b) (1 + position_or_len p xs) 0 ≤ suc (length xs)
    at true e rest = omega arith
    at false e rest = omega (arith, rest)

first_of : (i n : ℕ) (b same less : Bool) → i ≤ n → (i == n) ≡ same → nat_lt i n ≡ less
    → cond (nat_lt (cond same (n + cond b 0 1) i) (n + 1)) (Some (cond same (n + cond b 0 1) i)) None ≡ option_or (cond less (Some i) None) (if b then Some n else None)
first_of i n true true true le same less = absurd (grind (arith, nat_tests, same, less))
first_of i n false true true le same less = absurd (grind (arith, nat_tests, same, less))
first_of i n true true false le same less = let here : nat_lt (n + 0) (n + 1) ≡ true = grind (arith, nat_tests) in rw here (ap Some (omega arith))
first_of i n false true false le same less = let past : nat_lt (n + 1) (n + 1) ≡ false = grind (arith, nat_tests) in rw past refl
first_of i n b false true le same less = let before : nat_lt i (n + 1) ≡ true = grind (arith, nat_tests, le) in rw before refl
first_of i n b false false le same less = absurd (grind (arith, nat_tests, le, same, less))

pub first_with : {X : Type 0} (p : X → Bool) (xs : List X) (x : X) → position p (xs ++ x ∷ []) ≡ option_or (position p xs) (if p x then Some (length xs) else None)
first_with p xs x =
    let i = position_or_len p xs in
    rw (position_or_len_push p xs x, length-append xs (x ∷ []))
    (first_of i (length xs) (p x) (i == length xs) (nat_lt i (length xs)) (place_within p xs) refl refl)

-- ---- the text

one_more : (files : List FileDescriptorProto) (f : FileDescriptorProto)
    → text_of (map (λ g. payload 1 (content_recs descriptor_shape 1 (file_content g))) (files ++ f ∷ []))
    ≡ text_of (map (λ g. payload 1 (content_recs descriptor_shape 1 (file_content g))) files) ++ text_of_rec (payload 1 (content_recs descriptor_shape 1 (file_content f)))
one_more files f =
    let g : FileDescriptorProto → Rec = λ g. payload 1 (content_recs descriptor_shape 1 (file_content g)) in
    ap text_of (map-append g files (f ∷ [])) ∙ text_of-append (map g files) (g f ∷ []) ∙ ap (λ (t : List ℕ). text_of (map g files) ++ t) (text_of_one (g f))

-- a set with one file more
pub with_one : (before after : SetText) (f : FileDescriptorProto) (files : List FileDescriptorProto) (deep : Bool) → IsSetOf before files
    → after.text ≡ before.text ++ text_of_rec (payload 1 (content_recs descriptor_shape 1 (file_content f))) → IsSound descriptor_shape 1 (file_content f)
    → after.len ≡ before.len + 1 → deep ≡ is_deep_file f → after.deep ≡ option_or before.deep (if deep then Some before.len else None) → IsSetOf after (files ++ f ∷ [])
with_one before after f files deep is text sound len told first = record {
  text = text ∙ ap (λ (t : List ℕ). t ++ text_of_rec (payload 1 (content_recs descriptor_shape 1 (file_content f)))) is.text ∙ sym (one_more files f);
  sound =
      subst (AreOf descriptor_shape (kind.Message 1)) (sym (map-append file_value files (f ∷ [])))
      (are_pushed descriptor_shape (kind.Message 1) (map file_value files) (file_value f) is.sound sound);
  len = len ∙ ap (λ (n : ℕ). n + 1) is.len ∙ sym (length-append files (f ∷ []));
  deep = first ∙ ap (λ (o : Option ℕ). option_or o (if deep then Some before.len else None)) is.deep
      ∙ ap (λ (n : ℕ). option_or (position is_deep_file files) (if deep then Some n else None)) is.len
      ∙ ap (λ (b : Bool). option_or (position is_deep_file files) (if b then Some (length files) else None)) told
      ∙ sym (first_with is_deep_file files f);
}

-- what is written, where nothing stands behind the files
pub set_written : (set : SetText) (files : List FileDescriptorProto) (shape : Shape) (list : List (ℕ × Held)) (unknown : List Rec) (new : List ℕ) → IsSetOf set files
    → list ≡ [] → unknown ≡ [] → shape ≡ descriptor_shape
    → (IsAscending list → new ≡ set.text ++ encoded shape 0 (content (entries list) (filter (is_writable_beside (1 ∷ [])) unknown)))
    → are_fit (filter (is_writable_beside (1 ∷ [])) unknown) ≡ true → IsWritten 0 (files_content files) [] new
set_written set files shape list unknown new is empty none same text fit =
    let rows : Writes Repeated (kind.Message 1) 1 (of_records file_content files) [] set.text =
    all_sent 1 1 file_content files files (length files) [] set.text refl (omega arith)
    (is.text ∙ ap (λ (fs : List FileDescriptorProto). text_of (map (λ g. payload 1 (content_recs descriptor_shape 1 (file_content g))) fs)) (sym (take_all (length files) files (omega arith))))
    (subst (λ (fs : List FileDescriptorProto). AreOf descriptor_shape (kind.Message 1) (map file_value fs)) (sym (take_all (length files) files (omega arith))) is.sound) in
    let start = begin 0 set_fields (of_records file_content files ∷ []) [] [] file_set_type refl in
    let left = anew list (written start rows refl refl refl refl refl refl) empty in
    closed [] [] list shape new left file_set_type refl same
    (subst (λ (rs : List Rec). IsAscending list → new ≡ set.text ++ encoded shape 0 (content (entries list) (filter (is_writable_beside (1 ∷ [])) rs))) none text)
    (subst (λ (rs : List Rec). are_fit (filter (is_writable_beside (1 ∷ [])) rs) ≡ true) none fit)
