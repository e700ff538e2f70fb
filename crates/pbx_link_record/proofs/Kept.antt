-- Records that are kept.
use Rattle.std.proofs.Common.{◌≡◌, ℕ, Bool, true, false, ◌&&◌, List, [], ◌∷◌, map, refl, sym, ap, ◌∙◌, subst}
use Rattle.std.specs.Prelude.{◌==◌, not, Result, IfOk, if◌then◌else◌}
use Rattle.std.specs.List.{filter}
use Rattle.pbx_wire.specs.declared.rec.Rec.{Rec}
use Rattle.pbx_wire.specs.Text.{is_numbered}
use Rattle.pbx_wire.specs.Number.{is_writable_beside}
use Rattle.pbx_content.specs.declared.shape.FieldShape.{FieldShape}
use Rattle.pbx_content.specs.Records.{number_of, any, sorted}
use Rattle.pbx_content.specs.Shape.{is_float, is_read_as}
use Rattle.pbx_link_record.specs.Unknown.{unread, settled_unknown, fields_of}
use Rattle.pbx_link_record.specs.declared.unknown.RecordType.{RecordType}
use Rattle.pbx_link_record.specs.declared.unknown.RecordType.TheVariants as types
use Rattle.pbx_link_record.proofs.Ordered.{filter_same}

-- ---- records of no field

abbrev pub numbers : List FieldShape → List ℕ
numbers gs = map (λ (f : FieldShape). f.number) gs

abbrev pub has_float : List FieldShape → Bool
has_float gs = any (λ (f : FieldShape). is_float f.kind) gs

and_true : (b : Bool) → (b && true) ≡ b
and_true true = refl
and_true false = refl

-- fields that are no floats read the records of their numbers
read_alike : (gs : List FieldShape) (r : Rec) → has_float gs ≡ false → any (is_read_as r) gs ≡ any (λ n. number_of r == n) (numbers gs)
read_alike [] r e = refl
read_alike (g ∷ gs) r e = at (is_float g.kind) refl e (read_alike gs r)
  where
    at : (b : Bool) → is_float g.kind ≡ b → (if b then true else has_float gs) ≡ false
        → (has_float gs ≡ false → any (is_read_as r) gs ≡ any (λ n. number_of r == n) (numbers gs))
        → any (is_read_as r) (g ∷ gs) ≡ any (λ n. number_of r == n) (numbers (g ∷ gs))
    at true q f rest = absurd cc
    at false q f rest = rw (q, and_true (number_of r == g.number), rest f) refl

no_float : (t : RecordType) → has_float (fields_of t) ≡ false
no_float types.File = refl
no_float types.Message = refl
no_float types.Field = refl
no_float types.ExtensionRange = refl
no_float types.ReservedRange = refl
no_float types.Oneof = refl
no_float types.Enum = refl
no_float types.EnumReservedRange = refl
no_float types.EnumValue = refl
no_float types.Service = refl
no_float types.Method = refl
no_float types.SourceCodeInfo = refl
no_float types.Location = refl

others_unread : (t : RecordType) (rs : List Rec) → filter (is_writable_beside (numbers (fields_of t))) rs ≡ unread (fields_of t) rs
unfolding unread
others_unread t rs = filter_same _ _ (λ r. ap (λ b. is_numbered r && not b) (sym (read_alike (fields_of t) r (no_float t)))) rs

pub settled_is : (t : RecordType) (rs kept : List Rec) (known : List ℕ) → known ≡ numbers (fields_of t) → kept ≡ filter (is_writable_beside known) rs
    → sorted kept ≡ settled_unknown (fields_of t) rs
unfolding settled_unknown
settled_is t rs kept known e f = ap sorted (f ∙ ap (λ (ns : List ℕ). filter (is_writable_beside ns) rs) e ∙ others_unread t rs)

none_known : (rs : List Rec) → filter (is_writable_beside []) rs ≡ unread [] rs
unfolding unread
none_known rs = refl

pub written_is : {E : Type 0} (result : Result (List Rec) E) (rs : List Rec) → IfOk result (λ k. k ≡ filter (is_writable_beside []) rs) → IfOk result (λ k. k ≡ unread [] rs)
written_is result rs h = subst (λ (ks : List Rec). IfOk result (λ k. k ≡ ks)) (none_known rs) h
