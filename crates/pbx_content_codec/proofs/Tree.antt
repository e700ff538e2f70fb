-- The tree's values as those that meanings speak of.
use Rattle.std.proofs.Common.{◌≡◌, ℕ, zero, suc, ◌<◌, ◌≤◌, pos, List, [], ◌∷◌, ◌++◌, length, map, get_or, Some, refl, sym, ap, arith, rules}
use Rattle.std.specs.Prelude.{◌==◌}
use Rattle.std.proofs.Math.Dec.{eqb-suc-zero}
use Rattle.pbx_wire.specs.declared.rec.Rec.{Rec}
use Rattle.pbx_wire.specs.declared.text.Text.{Text}
use Rattle.pbx_content.specs.declared.shape.Kind.{Kind}
use Rattle.pbx_content.specs.declared.shape.Shape.{Shape}
use Rattle.pbx_content.specs.declared.shape.EnumShape.{EnumShape}
use Rattle.pbx_content.specs.Content.{Key, content, Val, text, message, many, keyed, vals_of, pairs_of}
use Rattle.pbx_content.specs.Shape.{first_of, enum_values_at}
use Rattle.pbx_content.specs.Meaning.{is_default}
use Rattle.pbx_content.specs.Onto.{elements, list_of, pair_list, pairs_held}
use Rattle.pbx_content_codec.specs.declared.contents.Held.{Held}
use Rattle.pbx_content_codec.specs.declared.contents.Held as held
use Rattle.pbx_content_codec.specs.declared.contents.Pair.{Pair}
use Rattle.pbx_content_codec.specs.declared.key.MapKey.{MapKey}
use Rattle.pbx_content_codec.specs.declared.contents.Held.TheViews.{roll-Contents, roll-Pair}
use Rattle.pbx_content_codec.specs.declared.contents.Contents.{Contents, out-Contents, the_lemmas}
use Rattle.pbx_content_codec.specs.Merging.{kept_more}
use Rattle.pbx_content_codec.specs.View.{content_of, val_of, fields_in, entry_of, key_of, pair_of}

pub content_is : (c : Contents) → content_of c ≡ content (fields_in (map entry_of (out-Contents c).fields)) (out-Contents c).kept
content_is c = search (rules, the_lemmas)

pub rolled : (fs : List (ℕ × Held)) (ks : List Rec) → content_of (roll-Contents (record { fields = fs; kept = ks })) ≡ content (fields_in (map entry_of fs)) ks
rolled fs ks = search (rules, the_lemmas)

pub val_of-Many : (hs : List Held) → val_of (held.Many hs) ≡ many (vals_of (map val_of hs))
val_of-Many hs = search (rules, the_lemmas)

pub val_of-Pairs : (ps : List Pair) → val_of (held.Pairs ps) ≡ keyed (pairs_of (map pair_of ps))
val_of-Pairs ps = search (rules, the_lemmas)

pub list-vals : (vs : List Val) → list_of (vals_of vs) ≡ vs
list-vals [] = refl
list-vals (v ∷ vs) = ap (λ (t : List Val). v ∷ t) (list-vals vs)

pub default_many : (shape : Shape) (k : Kind) (hs : List Held) → is_default shape k (val_of (held.Many hs)) ≡ (length hs == 0)
default_many shape k hs = rw (val_of-Many hs) (at hs)
  where
    at : (hs : List Held) → is_default shape k (many (vals_of (map val_of hs))) ≡ (length hs == 0)
    at [] = refl
    at (h ∷ hs) = sym (eqb-suc-zero (length hs))

pub default_pairs : (shape : Shape) (k : Kind) (ps : List Pair) → is_default shape k (val_of (held.Pairs ps)) ≡ (length ps == 0)
default_pairs shape k ps = rw (val_of-Pairs ps) (at ps)
  where
    at : (ps : List Pair) → is_default shape k (keyed (pairs_of (map pair_of ps))) ≡ (length ps == 0)
    at [] = refl
    at (p ∷ ps) = sym (eqb-suc-zero (length ps))

pub elements_many : (hs : List Held) → elements (Some (val_of (held.Many hs))) ≡ map val_of hs
elements_many hs = rw (val_of-Many hs) (list-vals (map val_of hs))

-- ---- defaults of enums

pub values_here : (es : List EnumShape) (e : ℕ) (d : EnumShape) → e < length es → first_of (get_or es e d).values ≡ first_of (enum_values_at es e)
values_here [] e d h = absurd (omega arith)
values_here (x ∷ es) zero d h = refl
values_here (x ∷ es) (suc e) d h = values_here es e d (omega arith)

pub no_values : (es : List EnumShape) (e : ℕ) → length es ≤ e → pos 0 ≡ first_of (enum_values_at es e)
no_values [] e h = refl
no_values (x ∷ es) zero h = absurd (omega arith)
no_values (x ∷ es) (suc e) h = no_values es e (omega arith)

pub val_of-Text : (t : Text) → val_of (held.Text t) ≡ text t
val_of-Text t = search (rules, the_lemmas)

pub kept_is : (c : Contents) (r : Rec) → content_of (roll-Contents (record {
  fields = (out-Contents c).fields;
  kept =
      (out-Contents c).kept ++ r ∷ [];
})) ≡ kept_more (content_of c) r
kept_is c r = rw (content_is c, rolled) refl

pub val_of_message : (c : Contents) → val_of (held.Message c) ≡ message (content_of c)
val_of_message c = search (rules, the_lemmas)

pub list-pairs : (ps : List (Key × Val)) → pair_list (pairs_of ps) ≡ ps
list-pairs [] = refl
list-pairs (p ∷ ps) = ap (λ (t : List (Key × Val)). p ∷ t) (list-pairs ps)

pub pairs_there : (ps : List Pair) → pairs_held (Some (val_of (held.Pairs ps))) ≡ map pair_of ps
pairs_there ps = rw (val_of-Pairs ps) (list-pairs (map pair_of ps))

pub pair_made : (k : MapKey) (h : Held) → ◌≡◌ {A = Key × Val} (pair_of (roll-Pair (record { key = k; held = h }))) (key_of k, val_of h)
pair_made k h = refl
