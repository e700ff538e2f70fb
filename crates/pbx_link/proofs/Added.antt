-- Records that are added to a pool, one after another.
use Rattle.std.proofs.Common.{◌≡◌, ℕ, suc, ◌<◌, Bool, true, false, List, [], ◌∷◌, ◌++◌, length, take, drop, get_or, if◌then◌else◌, Option, Some, None, inl, inr, refl, sym, ap, arith}
use Rattle.std.specs.Prelude.{◌≢◌}
use Rattle.pbx_desc_records.specs.declared.file.FileDescriptorProto.{FileDescriptorProto}
use Rattle.pbx_wire.specs.declared.error.DecodeError.{DecodeError as Fault}
use Rattle.pbx_wire.specs.declared.error.DecodeError.TheVariants as faults
use Rattle.pbx_content.specs.Content.{Content}
use Rattle.pbx_content.specs.Faults.{IsFirst, IsToldFault}
use Rattle.pbx_desc_encoding.specs.Sets.{set_meaning_of, IsSetFault}
use Rattle.pbx_link_rules.specs.Breaches.{keeps_rules}
use Rattle.pbx_link_rules.specs.Pool.{with_file}
use Rattle.pbx_link_definitions.specs.declared.error.DescriptorError.{DescriptorError}
use Rattle.pbx_link_definitions.specs.declared.error.DescriptorError.TheVariants.{Rule, Decode, NoMemory}
use Rattle.pbx_link.specs.Pool.{IsRefused}
use Rattle.pbx_link.specs.Bytes.{with_files, AreRefused, undecoded_as, IsSetRefused}

-- one record more
pub one_more : (files fs mid : List FileDescriptorProto) (f : FileDescriptorProto) → with_files files fs ≡ Some mid → keeps_rules mid f ≡ true
    → with_files files (fs ++ f ∷ []) ≡ Some (with_file mid f)
one_more files [] mid f added keeps = let same : files ≡ mid = cc in rw (same, keeps) refl
one_more files (g ∷ gs) mid f added keeps = by (keeps_rules files g) added (λ rest. one_more (with_file files g) gs mid f rest keeps)
  where
    by : (b : Bool) → (if b then with_files (with_file files g) gs else None) ≡ Some mid
        → (with_files (with_file files g) gs ≡ Some mid → with_files (with_file files g) (gs ++ f ∷ []) ≡ Some (with_file mid f))
        → (if b then with_files (with_file files g) (gs ++ f ∷ []) else None) ≡ Some (with_file mid f)
    by true added more = more added
    by false added more = absurd (cc)

-- a record that is refused behind those before it
pub refused_there : (files fs before after mid : List FileDescriptorProto) (f : FileDescriptorProto) (e : DescriptorError) → fs ≡ before ++ f ∷ after
    → with_files files before ≡ Some mid → IsRefused mid f e → AreRefused files fs e
refused_there files fs before after mid f (Rule file place rule) split added refused =
    record { before = before; refused = f; after = after; middle = mid; split = split; added = added; name = refused.0; breaks = refused.1 }
refused_there files fs before after mid f (Decode error) split added refused = refused
refused_there files fs before after mid f NoMemory split added refused = tt

-- a list whose items up to one were yielded is those, that one and the rest
pub split_there : {X : Type 0} (all xs : List X) (x : X) → xs ≡ take (length xs) all → length xs < length all → x ≡ get_or all (length xs) x
    → all ≡ xs ++ x ∷ drop (suc (length xs)) all
split_there [] xs x same less here = absurd (omega (arith, less))
split_there (a ∷ all) [] x same less here = ap (λ b. b ∷ all) (sym here)
split_there {X} (a ∷ all) (y ∷ xs) x same less here =
    let first : y ≡ a = cc in
    let rest : xs ≡ take (length xs) all = cc in
    rw (sym first) (ap (λ (zs : List X). y ∷ zs) (split_there all xs x rest (omega (arith, less)) here))

-- ---- faults of bytes

-- a told fault is want of memory, or the first fault of bytes that decode to nothing
abbrev pub IsUndecoded : Option Content → (Fault → Type 0) → DescriptorError → Type 0
IsUndecoded meant Breaks (Rule file place rule) = ⊥
IsUndecoded meant Breaks (Decode fault) = IsFirst meant Breaks fault
IsUndecoded meant Breaks NoMemory = Unit {0}

told_first : (meant : Option Content) (Breaks : Fault → Type 0) (fault : Fault) → fault ≢ faults.NoMemory → IsToldFault meant Breaks fault → IsFirst meant Breaks fault
told_first meant Breaks fault other (inl e) = absurd (other e)
told_first meant Breaks fault other (inr first) = first

pub undecoded_is : (meant : Option Content) (Breaks : Fault → Type 0) (fault : Fault) → IsToldFault meant Breaks fault → IsUndecoded meant Breaks (undecoded_as fault)
undecoded_is meant Breaks (faults.Varint at) told = told_first meant Breaks (faults.Varint at) (λ e. cc) told
undecoded_is meant Breaks (faults.Key at) told = told_first meant Breaks (faults.Key at) (λ e. cc) told
undecoded_is meant Breaks (faults.WireType at) told = told_first meant Breaks (faults.WireType at) (λ e. cc) told
undecoded_is meant Breaks (faults.Underflow at) told = told_first meant Breaks (faults.Underflow at) (λ e. cc) told
undecoded_is meant Breaks (faults.Utf8 at) told = told_first meant Breaks (faults.Utf8 at) (λ e. cc) told
undecoded_is meant Breaks (faults.EndGroup at) told = told_first meant Breaks (faults.EndGroup at) (λ e. cc) told
undecoded_is meant Breaks (faults.TooDeep at) told = told_first meant Breaks (faults.TooDeep at) (λ e. cc) told
undecoded_is meant Breaks faults.NoMemory told = tt

pub set_refused : (files : List FileDescriptorProto) (bytes : List ℕ) (e : DescriptorError) → IsUndecoded (set_meaning_of bytes) (IsSetFault bytes) e
    → IsSetRefused files bytes e
set_refused files bytes (Rule file place rule) u = absurd u
set_refused files bytes (Decode fault) u = u
set_refused files bytes NoMemory u = tt
