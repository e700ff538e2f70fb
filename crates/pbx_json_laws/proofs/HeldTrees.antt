-- What is written of the value of one field: of a `Struct`, a `ListValue` or a `Value`.
use Rattle.std.proofs.Common.{◌≡◌, ℕ, ◌==◌, Bool, true, false, if◌then◌else◌, Option, Some, None, refl, ap, sym, ◌∙◌, arith}
use Rattle.std.specs.Prelude.{Ok}
use Rattle.std.proofs.lemmas.Bool.Decides.{nat_tests}
use Rattle.serde_json.specs.Data.{Data}
use Rattle.pbx_content.specs.Content as content
use Rattle.pbx_content.specs.Content.{Content, Fields, Val, get}
use Rattle.pbx_content.specs.Encoding.{type_of}
use Rattle.pbx_content.specs.declared.shape.Kind.{Kind}
use Rattle.pbx_content.specs.declared.shape.Shape.{Shape}
use Rattle.pbx_wkt_types.specs.declared.form.Form.{Form}
use Rattle.pbx_wkt_types.specs.declared.form.Form.TheVariants as forms
use Rattle.pbx_json_meaning.specs.Asked.{Asked, one}
use Rattle.pbx_json_meaning.specs.Canonical.{Writing, told_tree, kind_asked, array_tree, entries_tree, number_tree, truth_by, text_by, bytes_by, tells, content_tree, fields_tell, vals_tell, pairs_tell}
use Rattle.pbx_json_meaning.specs.Scalars.{family}
use Rattle.pbx_json_meaning.specs.WriteFaults.{leaf, elements, keyed, Taken, held_parts, content_parts, parts_of}

pub same_number : (n : ℕ) → (n == n) ≡ true
same_number n = grind (arith, nat_tests)

-- the value that stands first is that of its number
pub get_first : (n : ℕ) (v : Val) (fs : Fields) → get n (content.field n v fs) ≡ Some v
get_first n v fs = rw (same_number n) refl

-- what is no message
abbrev pub is_message : Option Val → Bool
is_message (Some (content.message c)) = true
is_message _ = false

pub nothing_held : (shape : Shape) (t : ℕ) (form : Form) (x : Option Val) → is_message x ≡ false → held_parts shape t form x ≡ Ok leaf
nothing_held shape t form (Some (content.message c)) h = absurd (cc)
nothing_held shape t forms.Misshapen None h = refl
nothing_held shape t _ None h = refl
nothing_held shape t forms.Misshapen (Some v) h = refl
nothing_held shape t _ (Some v) h = refl

module _ (shape : Shape) where
  module _ (o : Writing) where
    -- what is written of a value hangs on the kind that is asked for
    pub tells_alike : (v : Val) (a b : Asked) → kind_asked a ≡ kind_asked b → tells shape o v a ≡ tells shape o v b
    tells_alike (content.number z) a b e = ap (λ k. number_tree shape o k z) e
    tells_alike (content.truth z) a b e = ap (λ k. truth_by (family k) z) e
    tells_alike (content.text z) a b e = ap (λ k. text_by (family k) z) e
    tells_alike (content.octets z) a b e = ap (λ k. bytes_by (family k) z) e
    tells_alike (content.message c) a b e = ap (λ k. content_tree shape o c (type_of k)) e
    tells_alike (content.many vs) a b e = ap (λ k. array_tree k (vals_tell shape o vs)) e
    tells_alike (content.keyed ps) a b e = ap (λ k. entries_tree k (pairs_tell shape o ps)) e

    -- the tree of a value that may be there, or another
    abbrev pub tree_or : Kind → Option Data → Option Val → Option Data
    tree_or k otherwise None = otherwise
    tree_or k otherwise (Some v) = tells shape o v (one k)

    pub told_at : (n : ℕ) (k : Kind) (otherwise : Option Data) (fs : Fields)
        → told_tree n k otherwise (fields_tell shape o fs) ≡ tree_or k otherwise (get n fs)
    told_at n k otherwise content.no_fields = refl
    told_at n k otherwise (content.field m v fs) = at (m == n) refl (n == m) refl (told_at n k otherwise fs)
      where
        at : (a : Bool) → (m == n) ≡ a → (b : Bool) → (n == m) ≡ b
            → told_tree n k otherwise (fields_tell shape o fs) ≡ tree_or k otherwise (get n fs)
            → (if a then tells shape o v (one k) else told_tree n k otherwise (fields_tell shape o fs))
            ≡ tree_or k otherwise (if b then Some v else get n fs)
        at true p true q ih = refl
        at false p false q ih = ih
        at true p false q ih = absurd (let other : (n == m) ≡ true = grind (arith, nat_tests) in let bad : true ≡ false = sym other ∙ q in cc)
        at false p true q ih = absurd (let other : (m == n) ≡ true = grind (arith, nat_tests) in let bad : true ≡ false = sym other ∙ p in cc)

  pub parts_alike : (v : Val) (a b : Asked) → kind_asked a ≡ kind_asked b → parts_of shape v a ≡ parts_of shape v b
  parts_alike (content.number z) a b e = refl
  parts_alike (content.truth z) a b e = refl
  parts_alike (content.text z) a b e = refl
  parts_alike (content.octets z) a b e = refl
  parts_alike (content.message c) a b e = ap (λ k. content_parts shape (type_of k) c) e
  parts_alike (content.many vs) a b e = let P : Kind → Taken = λ k. Ok (elements k vs) in ap P e
  parts_alike (content.keyed ps) a b e = let P : Kind → Taken = λ k. Ok (keyed k ps) in ap P e
