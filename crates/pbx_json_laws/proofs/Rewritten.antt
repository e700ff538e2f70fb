-- The laws of what is written of a content that a tree stands for.
use Rattle.std.proofs.Common.{◌≡◌, ℕ, zero, suc, length, Bool, false, if◌then◌else◌, Some, None, option_map, refl, ap, sym, ◌∙◌, subst}
use Rattle.serde_json.specs.Data.{Data}
use Rattle.pbx_content.specs.Content as content
use Rattle.pbx_content.specs.Content.{Content}
use Rattle.pbx_content.specs.Encoding.{encoded}
use Rattle.pbx_content.specs.Meaning.{meaning_of}
use Rattle.pbx_content.specs.Sound.{IsProper}
use Rattle.pbx_content.specs.declared.shape.Kind.TheVariants as kind
use Rattle.pbx_content.specs.declared.shape.Shape.{Shape}
use Rattle.pbx_json_meaning.specs.Asked.{one}
use Rattle.pbx_json_meaning.specs.Canonical.{Writing, writing, canonical, content_tree, payload_tree}
use Rattle.pbx_json_meaning.specs.Clash.{ByJsonName, ByAnyName, naming_of, name_fault}
use Rattle.pbx_json_meaning.specs.Laws.{CanonicalStands, WrittenStands}
use Rattle.pbx_json_meaning.specs.Named.{IsWellNamed}
use Rattle.pbx_json_meaning.specs.Stands.{Stands, message_in}
use Rattle.pbx_json_meaning.specs.Trees.{HasTexts}
use Rattle.pbx_json_meaning.specs.declared.options.SerializeOptions.{SerializeOptions}
use Rattle.pbx_json_payload_laws.proofs.Read.{encoded_is_read}
use Rattle.pbx_json_laws.proofs.Again.{content_back}
use Rattle.pbx_json_laws.proofs.AnyBack.{Reads}
use Rattle.pbx_json_laws.proofs.Fits.{FitsAs}
use Rattle.pbx_json_laws.proofs.FitSound.{content_sound}
use Rattle.pbx_json_laws.proofs.FitTrees.{standing_fits}
use Rattle.pbx_json_laws.proofs.NamesBack.{clear_by_any_name}
use Rattle.pbx_json_laws.proofs.NoKept.{fits_kept}
use Rattle.pbx_json_laws.proofs.Parts.{of_some, from_then}
use Rattle.pbx_json_laws.proofs.Read.{said_is}
use Rattle.pbx_json_laws.proofs.Written.{content_down}

module _ (shape : Shape) (proper : IsProper shape) (well : IsWellNamed shape) (o : SerializeOptions) (clean : name_fault (naming_of o) shape ≡ None) where
  -- what is written where payloads stand no deeper than this many turns
  abbrev pub within : ℕ → Writing
  within turns = record { options = o; payloads = payload_tree shape o turns }

  -- what the encoding of a content means
  pub means_itself : (u : ℕ) (p q : Content) → FitsAs shape p u → meaning_of shape u (encoded shape u p) ≡ Some q → q ≡ p
  means_itself u p q h e = encoded_is_read shape u p q proper (content_sound shape p u h) (fits_kept shape p u h) e

  -- the trees of payloads read back
  abbrev pub PayloadsBack : Writing → Type 0
  PayloadsBack w = (u : ℕ) (p : Content) (d : Data) → FitsAs shape p u → w.payloads u (encoded shape u p) ≡ Some d → Reads shape u p d

  -- a tree that is written reads back
  tree_back : (w : Writing) → w.options ≡ o → PayloadsBack w → (t : ℕ) (c : Content) (d : Data) → FitsAs shape c t → content_tree shape w c t ≡ Some d → Reads shape t c d
  tree_back w is payloads t c d h made =
      let none : name_fault (naming_of w.options) shape ≡ None = ap (λ x. name_fault (naming_of x) shape) is ∙ clean in
      let it = content_back shape proper well w none payloads c t h (content_down shape w c t h d made) in
      let same : it.0 ≡ d = of_some it.0 d (sym it.1 ∙ made) in
      subst (Reads shape t c) same it.2

  pub turns_back : (turns : ℕ) → PayloadsBack (within turns)
  unfolding payload_tree
  turns_back zero u p d h made = absurd (cc)
  turns_back (suc turns) u p d h made =
      let it = from_then (λ c. content_tree shape (within turns) c u) (meaning_of shape u (encoded shape u p)) d made in
      let same : it.0 ≡ p = means_itself u p it.0 h it.1 in
      tree_back (within turns) refl (turns_back turns) u p d h (ap (λ c. content_tree shape (within turns) c u) (sym same) ∙ it.2)

  pub writing_back : PayloadsBack (writing shape o)
  writing_back u p d h made = turns_back (suc (length (encoded shape u p))) u p d h made

  -- the canonical tree stands for the content
  again : (t : ℕ) (allow : Bool) (tree d : Data) (c : Content) → HasTexts tree → Stands shape t allow tree c → canonical shape t c o ≡ Some d
      → Stands shape t false d c
  again t allow tree d c texts h made =
      let reads = tree_back (writing shape o) refl writing_back t c d (standing_fits shape t allow tree c proper well texts h) made in
      ap message_in (said_is shape false d (one (kind.Message t))) ∙ ap (λ r. message_in (option_map (λ c. Some (content.message c)) r)) reads

pub canonical_stands : CanonicalStands
canonical_stands shape t allow tree d c o proper well clean texts by_json h made =
    let none : name_fault (naming_of o) shape ≡ None = ap (λ b. name_fault (if b then ByAnyName else ByJsonName) shape) by_json ∙ clean in
    again shape proper well o none t allow tree d c texts h made

pub written_stands : WrittenStands
written_stands shape proper well clean t allow tree d c o texts h made =
    again shape proper well o (clear_by_any_name shape (naming_of o) clean) t allow tree d c texts h made
