-- Lengths of texts: each record's payload is no longer than the text of all, and records left out make it no longer.
use Rattle.std.proofs.Common.{◌≡◌, ℕ, ◌+◌, ◌*◌, ◌≤◌, Bool, true, false, cond, if◌then◌else◌, nat_lt, List, [], ◌∷◌, ◌++◌, length, refl, ap, ◌∙◌, arith}
use Rattle.std.proofs.Common.{length-append, rules}
use Rattle.std.specs.List.{filter}
use Rattle.pbx_wire.specs.Varint.{varint}
use Rattle.pbx_wire.specs.Text.{text, text_of}
use Rattle.pbx_wire.proofs.Texts.{text_of-append}
use Rattle.pbx_wire.specs.declared.rec.Rec.{Rec}
use Rattle.pbx_wire.specs.declared.rec.Rec.{the_lemmas as rec_lemmas}
use Rattle.pbx_wire.specs.declared.rec.Rec.TheVariants as rec
use Rattle.pbx_content.specs.Records.{number_of, insert, sorted}
use Rattle.pbx_content.specs.Encoding.{with_kept}

-- the length of the text of records
abbrev pub size : List Rec → ℕ
size rs = length (text_of rs)

pub size_first : (r : Rec) (rs : List Rec) → size (r ∷ rs) ≡ length (text r) + size rs
size_first r rs = length-append (text r) (text_of rs)

pub bytes_within : (n : ℕ) (b : List ℕ) → length b ≤ length (text (rec.Bytes n b))
bytes_within n b =
    let is : text (rec.Bytes n b) ≡ varint (n * 8 + 2) ++ varint (length b) ++ b = search (rules, rec_lemmas) in
    omega (arith, ap length is, length-append (varint (n * 8 + 2) ++ varint (length b)) b)

pub size-filter : (p : Rec → Bool) (rs : List Rec) → size (filter p rs) ≤ size rs
size-filter p [] = omega arith
size-filter p (r ∷ rs) = at (p r) (size-filter p rs)
  where
    at : (b : Bool) → size (filter p rs) ≤ size rs → size (cond b (r ∷ filter p rs) (filter p rs)) ≤ size (r ∷ rs)
    at true ih = omega (arith, ih, size_first r rs, size_first r (filter p rs))
    at false ih = omega (arith, ih, size_first r rs)

size-insert : (r : Rec) (ss : List Rec) → size (insert r ss) ≡ size (r ∷ ss)
size-insert r [] = refl
size-insert r (s ∷ ss) = at (nat_lt (number_of s) (number_of r)) (size-insert r ss)
  where
    at : (b : Bool) → size (insert r ss) ≡ size (r ∷ ss) → size (if b then s ∷ insert r ss else r ∷ s ∷ ss) ≡ size (r ∷ s ∷ ss)
    at true ih = omega (arith, ih, size_first s (insert r ss), size_first r ss, size_first r (s ∷ ss), size_first s ss)
    at false ih = refl

size-sorted : (rs : List Rec) → size (sorted rs) ≡ size rs
size-sorted [] = refl
size-sorted (r ∷ rs) = omega (arith, size-insert r (sorted rs), size_first r (sorted rs), size_first r rs, size-sorted rs)

pub size-append : (xs ys : List Rec) → size (xs ++ ys) ≡ size xs + size ys
size-append xs ys = ap length (text_of-append xs ys) ∙ length-append (text_of xs) (text_of ys)

pub size-with_kept : (b : Bool) (rs kept : List Rec) → size (with_kept b rs kept) ≡ size rs + size kept
size-with_kept true rs kept = omega (arith, size-append (sorted rs) kept, size-sorted rs)
size-with_kept false rs kept = omega (arith, size-sorted (rs ++ kept), size-append rs kept)
