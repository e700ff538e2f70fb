-- Numbers of lists, as they are packed.
use Rattle.std.proofs.Common.{◌≡◌, ℕ, List, [], ◌∷◌, ◌++◌, map, refl, sym, ap, ◌∙◌}
use Rattle.std.specs.List.{concat}
use Rattle.pbx_content.specs.declared.shape.Kind.{Kind}
use Rattle.pbx_content.specs.Content.{vals_of}
use Rattle.pbx_content.specs.Shape.{Form, as_payload, form_of}
use Rattle.pbx_content.specs.Encoding.{numeral, number_text, packed_text}
use Rattle.pbx_content_codec.specs.declared.contents.Held.{Held}
use Rattle.pbx_content_codec.specs.View.{val_of}

abbrev pub numeral_in : Kind → Held → ℕ
numeral_in k h = numeral k (val_of h)

packed_is : (k : Kind) (hs : List Held) → packed_text k (vals_of (map val_of hs)) ≡ concat (map (number_text (form_of k)) (map (numeral_in k) hs))
packed_is k [] = refl
packed_is k (h ∷ hs) = ap (λ b. number_text (form_of k) (numeral_in k h) ++ b) (packed_is k hs)

pub packed_as : (form : Form) (k : Kind) (hs : List Held) → form_of k ≡ form
    → concat (map (number_text form) (map (numeral_in k) hs)) ≡ packed_text k (vals_of (map val_of hs))
packed_as form k hs e = rw (← e) (sym (packed_is k hs))

nothing : (ns : List ℕ) → concat (map (number_text as_payload) ns) ≡ []
nothing [] = refl
nothing (n ∷ ns) = nothing ns

pub nothing_packed : (k : Kind) (hs : List Held) → form_of k ≡ as_payload → [] ≡ packed_text k (vals_of (map val_of hs))
nothing_packed k hs e = sym (nothing (map (numeral_in k) hs)) ∙ packed_as as_payload k hs e
