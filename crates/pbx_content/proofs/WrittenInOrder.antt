-- The records of fields in order stand in order.
use Rattle.std.proofs.Common.{◌≡◌, ℕ, ◌≤◌, List, [], ◌∷◌, ◌++◌, ap, ◌∙◌, arith, append-nil, refl}
use Rattle.std.proofs.Common.{Bool, true, false}
use Rattle.pbx_wire.specs.declared.rec.Rec.{Rec}
use Rattle.pbx_content.specs.declared.shape.Shape.{Shape}
use Rattle.pbx_content.specs.declared.shape.FieldShape.{FieldShape}
use Rattle.pbx_content.specs.Content.{Fields, no_fields, field, IsAbove, IsAscending}
use Rattle.pbx_content.specs.Records.{number_of, sorted}
use Rattle.pbx_content.specs.Shape.{field_of}
use Rattle.pbx_content.specs.Encoding.{with_kept, fields_recs, field_recs}
use Rattle.pbx_content.proofs.Sorted.{IsLow, IsSorted}
use Rattle.pbx_content.proofs.Settled.{sorted_same}
use Rattle.pbx_content.proofs.WrittenFields.{HaveNumber, have_number}

record InOrder (m : ℕ) (rs : List Rec) : Type 0 where
  low : IsLow m rs
  ascend : IsSorted rs

lowered : (m n : ℕ) (rs : List Rec) → m ≤ n → IsLow n rs → IsLow m rs
lowered m n [] le h = tt
lowered m n (r ∷ rs) le h = (omega (arith, le, h.0), lowered m n rs le h.1)

-- records of one number before others, none of which is below it
behind : (m n : ℕ) (rs ss : List Rec) → m ≤ n → HaveNumber n rs → InOrder n ss → InOrder m (rs ++ ss)
behind m n [] ss le h rest = record { low = lowered m n ss le rest.low; ascend = rest.ascend }
behind m n (r ∷ rs) ss le h rest =
    let all = behind (number_of r) n rs ss (omega (arith, h.0)) h.1 rest in
    let low = behind m n rs ss le h.1 rest in
    record { low = (omega (arith, le, h.0), low.low); ascend = (all.low, all.ascend) }

in_order : (shape : Shape) (gs : List FieldShape) (m : ℕ) (fs : Fields) → IsAbove m fs → InOrder m (fields_recs shape gs fs)
in_order shape gs m no_fields h = record { low = tt; ascend = tt }
in_order shape gs m (field n v fs) h =
    behind m n (field_recs shape (field_of n gs) v) (fields_recs shape gs fs) (omega (arith, h.0)) (have_number shape n gs v) (in_order shape gs n fs h.1)

-- The records of fields whose numbers ascend are in order.
pub fields_sorted : (shape : Shape) (gs : List FieldShape) (fs : Fields) → IsAscending fs → sorted (fields_recs shape gs fs) ≡ fields_recs shape gs fs
fields_sorted shape gs no_fields h = refl
fields_sorted shape gs (field n v fs) h =
    let rest = in_order shape gs n fs h in
    sorted_same (fields_recs shape gs (field n v fs))
    (behind 0 n (field_recs shape (field_of n gs) v) (fields_recs shape gs fs) (omega arith) (have_number shape n gs v) rest).ascend

-- With no kept records, or with kept ones behind them all, nothing moves.
pub kept_none : (shape : Shape) (gs : List FieldShape) (fs : Fields) (keeps : Bool) → IsAscending fs → with_kept keeps (fields_recs shape gs fs) [] ≡ fields_recs shape gs fs
kept_none shape gs fs true h = append-nil (sorted (fields_recs shape gs fs)) ∙ fields_sorted shape gs fs h
kept_none shape gs fs false h = ap sorted (append-nil (fields_recs shape gs fs)) ∙ fields_sorted shape gs fs h

pub kept_behind : (shape : Shape) (gs : List FieldShape) (fs : Fields) (kept : List Rec) → IsAscending fs → with_kept true (fields_recs shape gs fs) kept ≡ fields_recs shape gs fs ++ kept
kept_behind shape gs fs kept h = ap (λ (rs : List Rec). rs ++ kept) (fields_sorted shape gs fs h)
