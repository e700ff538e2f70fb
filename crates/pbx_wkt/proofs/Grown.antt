-- The pool of the built-in files, one file after another.
use Rattle.std.proofs.Common.{◌≡◌, ◌∙◌, ℕ, zero, suc, ◌+◌, List, [], ◌∷◌, ◌++◌, take, true, Some, sym, ap, subst, add-one, arith}
use Rattle.std.specs.Prelude.{slice_get, Contains}
use Rattle.pbx_desc_records.specs.declared.file.FileDescriptorProto.{FileDescriptorProto}
use Rattle.pbx_link_definitions.specs.Definitions.{Place}
use Rattle.pbx_link_rules.specs.Breaches.{keeps_rules, BreaksFirst}
use Rattle.pbx_link_rules.proofs.RulesKept.{keeps_each}
use Rattle.pbx_link_rules.specs.Pool.{with_file}
use Rattle.pbx_wkt_files.specs.Files.{wkt_files}
use Rattle.pbx_wkt_laws.proofs.Kept.{files_linked}

take_more : (fs : List FileDescriptorProto) (i : ℕ) (f : FileDescriptorProto) → slice_get fs i ≡ Some f → take i fs ++ f ∷ [] ≡ take (i + 1) fs
take_more [] zero f h = cc
take_more [] (suc i) f h = cc
take_more (g ∷ fs) zero f h = let same : g ≡ f = cc in ap (λ x. x ∷ []) (sym same)
take_more (g ∷ fs) (suc i) f h = rw add-one (ap (λ xs. g ∷ xs) (take_more fs i f h ∙ ap (λ n. take n fs) (add-one i)))

-- the file of this index keeps the rules among those of lesser ones
pub next_keeps : (i : ℕ) (f : FileDescriptorProto) → slice_get wkt_files i ≡ Some f → keeps_rules (take i wkt_files) f ≡ true
next_keeps i f h = (files_linked i f h).keeps

-- and with it they are those up to it
pub next_added : (i : ℕ) (f : FileDescriptorProto) → slice_get wkt_files i ≡ Some f → with_file (take i wkt_files) f ≡ take (i + 1) wkt_files
next_added i f h = ap (λ g. take i wkt_files ++ g ∷ []) (sym (files_linked i f h).is) ∙ take_more wkt_files i f h

-- where the rules are kept, none is the first that is broken
pub none_breaks : (files : List FileDescriptorProto) (f : FileDescriptorProto) (rule : ℕ) (place : Place) → keeps_rules files f ≡ true
    → BreaksFirst files f rule place → ⊥
none_breaks files f rule place keeps breaks =
    let none : Contains [] place = subst (λ ps. Contains ps place) (keeps_each files f keeps rule) breaks.broken in omega (arith, none.1)
