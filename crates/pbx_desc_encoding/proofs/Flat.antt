-- Levels of lists of records, and of messages.
use Rattle.std.proofs.Common.{◌≡◌, ℕ, ◌+◌, ◌<◌, ◌≤◌, List, [], ◌∷◌, ◌++◌, length, map, take, get_or, sym, subst, arith}
use Rattle.std.proofs.lemmas.List.{take_more}
use Rattle.pbx_wire.specs.Text.{depth_of}
use Rattle.pbx_desc_records.specs.declared.message.DescriptorProto.{DescriptorProto, out-DescriptorProto}
use Rattle.pbx_desc_encoding.specs.Levels.{below, field_levels, enum_levels, extension_range_levels, options_levels, oneof_levels, reserved_range_levels, message_levels}
use Rattle.pbx_desc_encoding.proofs.Depths.{levels_within, below-map, message_levels_at}

below_last : {R : Type 0} (f : R → ℕ) (n : ℕ) (rs : List R) (r : R) → below f rs ≤ n → f r < n → below f (rs ++ r ∷ []) ≤ n
below_last f n [] r h here = omega (arith, here)
below_last f n (x ∷ rs) r h here = omega (arith, h, below_last f n rs r (omega (arith, h)) here)

-- one record more of a list
pub below_more : {R : Type 0} (f : R → ℕ) (n : ℕ) (rs : List R) (i : ℕ) (r : R) → i < length rs → r ≡ get_or rs i r → below f (take i rs) ≤ n → f r < n
    → below f (take (i + 1) rs) ≤ n
below_more {R} f n rs i r lt is before here =
    subst (λ (xs : List R). below f xs ≤ n) (sym (take_more rs i r lt)) (subst (λ (x : R). below f (take i rs ++ x ∷ []) ≤ n) is (below_last f n (take i rs) r before here))

-- a message with few levels beside the messages nested in it
pub message_within : (m : DescriptorProto) (n : ℕ) → 3 ≤ n → below field_levels (out-DescriptorProto m).field ≤ 2 → below enum_levels (out-DescriptorProto m).enum_type ≤ 3
    → below extension_range_levels (out-DescriptorProto m).extension_range ≤ 2 → below field_levels (out-DescriptorProto m).extension ≤ 2
    → options_levels (out-DescriptorProto m).options ≤ 1 → below oneof_levels (out-DescriptorProto m).oneof_decl ≤ 2
    → below reserved_range_levels (out-DescriptorProto m).reserved_range ≤ 1 → depth_of (out-DescriptorProto m).unknown ≡ 0
    → below message_levels (out-DescriptorProto m).nested_type ≤ n → message_levels m ≤ n
message_within m n three field enum range extension options oneof reserved unknown nested =
    let o = out-DescriptorProto m in
    subst (λ (l : ℕ). l ≤ n) (sym (message_levels_at m))
    (levels_within n
    (below field_levels o.field ∷ below (λ n. n) (map message_levels o.nested_type) ∷ below enum_levels o.enum_type ∷ below extension_range_levels o.extension_range
    ∷ below field_levels o.extension ∷ options_levels o.options ∷ below oneof_levels o.oneof_decl ∷ below reserved_range_levels o.reserved_range ∷ [])
    o.unknown (
      omega (arith, three, field),
      (
        subst (λ (l : ℕ). l ≤ n) (sym (below-map o.nested_type)) nested,
        (
          omega (arith, three, enum),
          (
            omega (arith, three, range),
            (omega (arith, three, extension), (omega (arith, three, options), (omega (arith, three, oneof), (omega (arith, three, reserved), tt)))),
          ),
        ),
      ),
    )
    (omega (arith, unknown)))
