-- Parts of the files of a pool, beside the pool and alone.
use Rattle.std.proofs.Common.{◌≡◌, ◌∙◌, List, [], ◌∷◌, ◌++◌, map, refl, ap}
use Rattle.std.specs.List.{flat_map}
use Rattle.std.proofs.lemmas.List.{map-append}
use Rattle.pbx_desc_records.specs.declared.file.FileDescriptorProto.{FileDescriptorProto}
use Rattle.pbx_link_definitions.specs.Definitions.{Part}
use Rattle.pbx_link_meaning.specs.Descriptors.{Described, described}

abbrev pub File : Type 0
File = FileDescriptorProto

module _ {X : Type 0} (pool : List File) where
  pub parts_of_described : (f : File) (ps : List (Part X)) → map (λ (d : Described X). d.part) (map (described pool f) ps) ≡ ps
  parts_of_described f [] = refl
  parts_of_described f (p ∷ ps) = ap (λ (qs : List (Part X)). p ∷ qs) (parts_of_described f ps)

  abbrev pub described_parts : (File → List (Part X)) → List File → List (Described X)
  described_parts tell files = flat_map (λ f. map (described pool f) (tell f)) files

  -- the parts themselves
  pub parts_back : (tell : File → List (Part X)) (files : List File) → map (λ (d : Described X). d.part) (described_parts tell files) ≡ flat_map tell files
  parts_back tell [] = refl
  parts_back tell (f ∷ fs) =
      map-append (λ (d : Described X). d.part) (map (described pool f) (tell f)) (described_parts tell fs)
      ∙ ap (λ (ps : List (Part X)). ps ++ map (λ (d : Described X). d.part) (described_parts tell fs)) (parts_of_described f (tell f))
      ∙ ap (λ (ps : List (Part X)). tell f ++ ps) (parts_back tell fs)
