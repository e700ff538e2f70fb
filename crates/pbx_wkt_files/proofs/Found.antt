-- The first file of a name, by the names of the files one after another.
use Rattle.std.proofs.Common.{◌≡◌, ◌∙◌, ℕ, zero, suc, ◌+◌, List, [], ◌∷◌, drop, Bool, true, false, Option, Some, refl, ap, add-one}
use Rattle.std.specs.Prelude.{find, slice_get, IfSome}
use Rattle.std.specs.Str.{bytes_eq}
use Rattle.pbx_desc_records.specs.declared.file.FileDescriptorProto.{FileDescriptorProto}
use Rattle.pbx_link_definitions.specs.Names.{is_named}

abbrev pub Named : List FileDescriptorProto → ℕ → List ℕ → Type 0
Named files i own = IfSome (slice_get files i) (λ (f : FileDescriptorProto). f.name ≡ Some own)

abbrev pub found : List ℕ → List FileDescriptorProto → Option FileDescriptorProto
found name files = find (λ (f : FileDescriptorProto). is_named f.name name) files

-- a file of another name is passed by
pub passed : (files : List FileDescriptorProto) (i : ℕ) (own name : List ℕ) → Named files i own → bytes_eq own name ≡ false
    → found name (drop i files) ≡ found name (drop (i + 1) files)
passed [] zero own name h e = refl
passed [] (suc i) own name h e = rw add-one refl
passed (f ∷ fs) zero own name h e = let other : is_named f.name name ≡ false = ap (λ n. is_named n name) h ∙ e in rw other refl
passed (f ∷ fs) (suc i) own name h e = rw add-one (passed fs i own name h e ∙ ap (λ n. found name (drop n fs)) (add-one i))

-- a file of the name is found
pub here : (files : List FileDescriptorProto) (i : ℕ) (own name : List ℕ) (g : FileDescriptorProto) → Named files i own → bytes_eq own name ≡ true
    → slice_get files i ≡ Some g → found name (drop i files) ≡ Some g
here [] zero own name g h e is = cc
here [] (suc i) own name g h e is = cc
here (f ∷ fs) zero own name g h e is = let fits : is_named f.name name ≡ true = ap (λ n. is_named n name) h ∙ e in rw fits is
here (f ∷ fs) (suc i) own name g h e is = here fs i own name g h e is
