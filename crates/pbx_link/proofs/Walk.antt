-- Messages or extensions of a pool from a place on.
use Rattle.std.proofs.Common.{◌≡◌, ◌∙◌, ℕ, ◌+◌, ◌-◌, ◌<◌, ◌≤◌, List, [], ◌∷◌, ◌++◌, map, drop, length, get_or, Some, ap, sym, arith}
use Rattle.std.specs.Prelude.{slice_get}
use Rattle.std.specs.Iterator.{MakesProgress, item_count}
use Rattle.std.specs.List.{flat_map}
use Rattle.std.proofs.Math.ListN.{drop_of_length-le}
use Rattle.std.proofs.Math.Seq.{drop-append-add, drop-nil}
use Rattle.std.proofs.lemmas.List.{drop_more, length-map, drop-append-le}
use Rattle.std.proofs.lemmas.Option.{slice_get_within, get_or_from_slice_get}
use Rattle.pbx_desc_records.specs.declared.file.FileDescriptorProto.{FileDescriptorProto}
use Rattle.pbx_link_definitions.specs.Definitions.{Part}
use Rattle.pbx_link_meaning.specs.Descriptors.{Described, described}
use Rattle.pbx_link.specs.Tables.{part_at, told_from}
use Rattle.pbx_link.proofs.Parts.{next_at}

module _ {X : Type 0} (none : X) (tell : FileDescriptorProto → List (Part X)) (pool : List FileDescriptorProto) where
  abbrev own : FileDescriptorProto → List (Described X)
  own f = map (described pool f) (tell f)

  -- those of a file before those of the files behind it
  opened : (i j : ℕ) (f : FileDescriptorProto) → i < length pool → f ≡ get_or pool i f
      → told_from tell pool i j ≡ drop j (own f ++ flat_map own (drop (i + 1) pool))
  opened i j f lt is =
      ap (λ (fs : List FileDescriptorProto). drop j (flat_map own fs))
      (drop_more pool i f lt ∙ ap (λ (g : FileDescriptorProto). g ∷ drop (i + 1) pool) (sym is))

  pub file_passed : (i j : ℕ) (f : FileDescriptorProto) → i < length pool → f ≡ get_or pool i f → length (tell f) ≤ j
      → told_from tell pool i j ≡ told_from tell pool (i + 1) (j - length (tell f))
  file_passed i j f lt is le =
      let same : length (own f) + (j - length (tell f)) ≡ j = omega (arith, length-map (tell f) (described pool f), le) in
      opened i j f lt is ∙ ap (λ (n : ℕ). drop n (own f ++ flat_map own (drop (i + 1) pool))) (sym same)
      ∙ drop-append-add (own f) (flat_map own (drop (i + 1) pool)) (j - length (tell f))

  pub none_left : (i j : ℕ) → length pool ≤ i → told_from tell pool i j ≡ []
  none_left i j le = ap (λ (fs : List FileDescriptorProto). drop j (flat_map own fs)) (drop_of_length-le pool le) ∙ drop-nil j

  pub next_told : (i j : ℕ) (f : FileDescriptorProto) → slice_get pool i ≡ Some f → j < length (tell f)
      → told_from tell pool i j ≡ described pool f (part_at none (tell f) j) ∷ told_from tell pool i (j + 1)
  next_told i j f found lt =
      let rest = flat_map own (drop (i + 1) pool) in
      let within : i < length pool = slice_get_within pool i f found in
      let is : f ≡ get_or pool i f = sym (get_or_from_slice_get pool i f f found) in
      let short : j ≤ length (own f) = omega (arith, length-map (tell f) (described pool f), lt) in
      let long : j + 1 ≤ length (own f) = omega (arith, length-map (tell f) (described pool f), lt) in
      opened i j f within is ∙ drop-append-le j (own f) rest short
      ∙ ap (λ (ds : List (Described X)). ds ++ rest) (next_at (described pool f) (tell f) j (record { scope = []; place = []; index = 0; item = none }) lt)
      ∙ ap (λ (ds : List (Described X)). described pool f (part_at none (tell f) j) ∷ ds)
      (sym (drop-append-le (j + 1) (own f) rest long) ∙ sym (opened i (j + 1) f within is))

pub next_standing : {X : Type 0} (none : X) (tell : FileDescriptorProto → List (Part X)) (pool tables p : List FileDescriptorProto) (i j file index : ℕ)
    (t f : FileDescriptorProto) → tables ≡ pool → p ≡ pool → t ≡ f
    → told_from tell tables i j ≡ told_from tell tables file index → slice_get tables file ≡ Some f → index < length (tell f)
    → told_from tell pool i j ≡ described p t (part_at none (tell t) index) ∷ told_from tell pool file (index + 1)
next_standing none tell pool tables p i j file index t f same other handle there found lt =
    ap (λ (ts : List FileDescriptorProto). told_from tell ts i j) (sym same) ∙ there ∙ next_told none tell tables file index f found lt
    ∙ ap (λ (ts : List FileDescriptorProto). described ts f (part_at none (tell f) index) ∷ told_from tell ts file (index + 1)) same
    ∙ ap (λ (q : List FileDescriptorProto). described q f (part_at none (tell f) index) ∷ told_from tell pool file (index + 1)) (sym other)
    ∙ ap (λ (g : FileDescriptorProto). described p g (part_at none (tell g) index) ∷ told_from tell pool file (index + 1)) (sym handle)

-- an iterator that gave the first of what was left has less left
pub goes_on : {A : Type 0} (can : List A → Type 0) (s t : List A) (x : A) → can t → s ≡ x ∷ t → MakesProgress can (item_count (λ it. it)) s (Some x) t
goes_on can s t x ok e = let more : length s ≡ length (x ∷ t) = ap length e in record { on = λ _. (ok, tt, omega (arith, more)); keeps = ok; rests = λ _. tt }
