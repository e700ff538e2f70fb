-- Files that nest too many levels.
use Rattle.std.proofs.Common.{◌≡◌, ℕ, suc, ◌+◌, ◌≤◌, Bool, true, false, cond, List, [], ◌∷◌, map, length, Some, None, refl, arith}
use Rattle.std.specs.Prelude.{nat_lt, position}
use Rattle.std.specs.List.{position_or_len}
use Rattle.pbx_content.specs.Content.{vals_of}
use Rattle.pbx_content.specs.Sound.{depth, PartsFit, vals_depth}
use Rattle.pbx_desc_records.specs.declared.file.FileDescriptorProto.{FileDescriptorProto}
use Rattle.pbx_desc_encoding.specs.Content.{file_value, file_content, files_content}
use Rattle.pbx_desc_encoding.specs.Sets.{is_deep_file}

-- ---- where none passes

bounded : (d : ℕ) → nat_lt 100 d ≡ false → d + 1 ≤ 101
bounded d h = grind (arith, h)

none_is : (b : Bool) (i : ℕ) → cond b (Some i) None ≡ None → b ≡ false
none_is true i h = absurd (cc)
none_is false i h = refl

less_by_one : (a b c : ℕ) → a ≡ 1 + b → nat_lt a (suc c) ≡ false → nat_lt b c ≡ false
less_by_one a b c e h = grind (arith, e, h)

not_first : (a n : ℕ) → a ≡ 0 → nat_lt a (suc n) ≡ false → ⊥
not_first a n e h = grind (arith, e, h)

behind : {X : Type 0} (p : X → Bool) (x : X) (xs : List X) → p x ≡ false → position p (x ∷ xs) ≡ None → position p xs ≡ None
behind p x xs e h =
    let long : nat_lt (position_or_len p (x ∷ xs)) (suc (length xs)) ≡ false = none_is (nat_lt (position_or_len p (x ∷ xs)) (suc (length xs))) _ h in
    let step : position_or_len p (x ∷ xs) ≡ 1 + position_or_len p xs = rw e refl in
    rw (less_by_one (position_or_len p (x ∷ xs)) (position_or_len p xs) (length xs) step long) refl

shallow : (files : List FileDescriptorProto) → position is_deep_file files ≡ None → vals_depth (vals_of (map file_value files)) ≤ 101
shallow [] h = omega arith
shallow (f ∷ fs) h = at (is_deep_file f) refl (shallow fs)
  where
    at : (b : Bool) → is_deep_file f ≡ b → (position is_deep_file fs ≡ None → vals_depth (vals_of (map file_value fs)) ≤ 101)
        → vals_depth (vals_of (map file_value (f ∷ fs))) ≤ 101
    at true e later =
        let first : position_or_len is_deep_file (f ∷ fs) ≡ 0 = rw e refl in
        let long : nat_lt (position_or_len is_deep_file (f ∷ fs)) (suc (length fs)) ≡ false = none_is (nat_lt (position_or_len is_deep_file (f ∷ fs)) (suc (length fs))) _ h in
        absurd (not_first (position_or_len is_deep_file (f ∷ fs)) (length fs) first long)
    at false e later = omega (arith, bounded (depth (file_content f)) e, later (behind is_deep_file f fs e h))

pub none_deep : (files : List FileDescriptorProto) → position is_deep_file files ≡ None → PartsFit (files_content files)
none_deep [] h = (omega arith, omega arith)
none_deep (f ∷ fs) h = (omega (arith, shallow (f ∷ fs) h), omega arith)
