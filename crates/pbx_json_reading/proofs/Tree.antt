-- The tree's values as those that meanings speak of.
use Rattle.std.proofs.Common.{◌≡◌, List, [], ◌∷◌, ◌++◌, length, map, refl, sym, ap, ◌∙◌, rules}
use Rattle.std.specs.Prelude.{◌==◌}
use Rattle.std.proofs.Math.Dec.{eqb-suc-zero}
use Rattle.std.proofs.lemmas.List.{map-append}
use Rattle.pbx_wire.specs.declared.text.Text.{Text}
use Rattle.pbx_content.specs.declared.shape.Kind.{Kind}
use Rattle.pbx_content.specs.declared.shape.Shape.{Shape}
use Rattle.pbx_content.specs.Content.{text, message, many, keyed, vals_of, pairs_of}
use Rattle.pbx_content.specs.Meaning.{is_default}
use Rattle.pbx_content_codec.specs.declared.contents.Held.{Held}
use Rattle.pbx_content_codec.specs.declared.contents.Held as held
use Rattle.pbx_content_codec.specs.declared.contents.Pair.{Pair}
use Rattle.pbx_content_codec.specs.declared.contents.Contents.{Contents, the_lemmas}
use Rattle.pbx_content_codec.specs.View.{content_of, val_of, pair_of}

pub val_of-Many : (hs : List Held) → val_of (held.Many hs) ≡ many (vals_of (map val_of hs))
val_of-Many hs = search (rules, the_lemmas)

pub val_of-Pairs : (ps : List Pair) → val_of (held.Pairs ps) ≡ keyed (pairs_of (map pair_of ps))
val_of-Pairs ps = search (rules, the_lemmas)

pub val_of_text : (t : Text) → val_of (held.Text t) ≡ text t
val_of_text t = search (rules, the_lemmas)

pub val_of_message : (c : Contents) → val_of (held.Message c) ≡ message (content_of c)
val_of_message c = search (rules, the_lemmas)

-- one more text, as a value and as itself
pub texts_more : (hs : List Held) (ts : List Text) (t : Text) → map val_of hs ≡ map text ts → map val_of (hs ++ held.Text t ∷ []) ≡ map text (ts ++ t ∷ [])
texts_more hs ts t same =
    map-append val_of hs (held.Text t ∷ [])
    ∙ ap (λ vs. vs ++ val_of (held.Text t) ∷ []) same
    ∙ ap (λ v. map text ts ++ v ∷ []) (val_of_text t)
    ∙ sym (map-append text ts (t ∷ []))
