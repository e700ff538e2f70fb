-- The words of the language, apart from one another.
use Rattle.std.proofs.Common.{◌≡◌, ℕ, List, true, codes, if◌then◌else◌, refl, sym, ap, ◌∙◌}
use Rattle.std.specs.Str.{bytes_eq}
use Rattle.pbx_parse_tree.specs.declared.tree.Scalar.{Scalar}
use Rattle.pbx_parse_tree.specs.declared.tree.Scalar.TheVariants as scalars
use Rattle.pbx_parse_tree.specs.declared.tree.Label.{Label}
use Rattle.pbx_parse_tree.specs.declared.tree.Label.TheVariants as labels
use Rattle.pbx_parse_tree.specs.declared.tree.Modifier.{Modifier}
use Rattle.pbx_parse_tree.specs.declared.tree.Modifier.TheVariants as modifiers
use Rattle.pbx_parse_tree.specs.Words.{scalar_word, label_word, modifier_word, is_scalar_word, is_label_word}

-- the scalar type of the word, where it is one's
scalar_at : List ℕ → Scalar
scalar_at t =
    if bytes_eq t (codes "double") then scalars.Double
    else (if bytes_eq t (codes "float") then scalars.Float
    else (if bytes_eq t (codes "int32") then scalars.Int32
    else (if bytes_eq t (codes "int64") then scalars.Int64
    else (if bytes_eq t (codes "uint32") then scalars.Uint32
    else (if bytes_eq t (codes "uint64") then scalars.Uint64
    else (if bytes_eq t (codes "sint32") then scalars.Sint32
    else (if bytes_eq t (codes "sint64") then scalars.Sint64
    else (if bytes_eq t (codes "fixed32") then scalars.Fixed32
    else (if bytes_eq t (codes "fixed64") then scalars.Fixed64
    else (if bytes_eq t (codes "sfixed32") then scalars.Sfixed32
    else (if bytes_eq t (codes "sfixed64") then scalars.Sfixed64
    else (if bytes_eq t (codes "bool") then scalars.Bool
    else (if bytes_eq t (codes "string") then scalars.String
    else scalars.Bytes)))))))))))))

scalar_back : (s : Scalar) → scalar_at (scalar_word s) ≡ s
unfolding scalar_at
scalar_back scalars.Double = refl
scalar_back scalars.Float = refl
scalar_back scalars.Int32 = refl
scalar_back scalars.Int64 = refl
scalar_back scalars.Uint32 = refl
scalar_back scalars.Uint64 = refl
scalar_back scalars.Sint32 = refl
scalar_back scalars.Sint64 = refl
scalar_back scalars.Fixed32 = refl
scalar_back scalars.Fixed64 = refl
scalar_back scalars.Sfixed32 = refl
scalar_back scalars.Sfixed64 = refl
scalar_back scalars.Bool = refl
scalar_back scalars.String = refl
scalar_back scalars.Bytes = refl

pub scalar_same : (a b : Scalar) → scalar_word a ≡ scalar_word b → a ≡ b
scalar_same a b e = sym (scalar_back a) ∙ ap scalar_at e ∙ scalar_back b

pub word_of_scalar : (s : Scalar) → is_scalar_word (scalar_word s) ≡ true
word_of_scalar scalars.Double = refl
word_of_scalar scalars.Float = refl
word_of_scalar scalars.Int32 = refl
word_of_scalar scalars.Int64 = refl
word_of_scalar scalars.Uint32 = refl
word_of_scalar scalars.Uint64 = refl
word_of_scalar scalars.Sint32 = refl
word_of_scalar scalars.Sint64 = refl
word_of_scalar scalars.Fixed32 = refl
word_of_scalar scalars.Fixed64 = refl
word_of_scalar scalars.Sfixed32 = refl
word_of_scalar scalars.Sfixed64 = refl
word_of_scalar scalars.Bool = refl
word_of_scalar scalars.String = refl
word_of_scalar scalars.Bytes = refl

label_at : List ℕ → Label
label_at t = if bytes_eq t (codes "optional") then labels.Optional else (if bytes_eq t (codes "required") then labels.Required else labels.Repeated)

label_back : (l : Label) → label_at (label_word l) ≡ l
unfolding label_at
label_back labels.Optional = refl
label_back labels.Required = refl
label_back labels.Repeated = refl

pub label_same : (a b : Label) → label_word a ≡ label_word b → a ≡ b
label_same a b e = sym (label_back a) ∙ ap label_at e ∙ label_back b

pub word_of_label : (l : Label) → is_label_word (label_word l) ≡ true
word_of_label labels.Optional = refl
word_of_label labels.Required = refl
word_of_label labels.Repeated = refl

modifier_at : List ℕ → Modifier
modifier_at t = if bytes_eq t (codes "public") then modifiers.Public else modifiers.Weak

modifier_back : (m : Modifier) → modifier_at (modifier_word m) ≡ m
unfolding modifier_at
modifier_back modifiers.Public = refl
modifier_back modifiers.Weak = refl

pub modifier_same : (a b : Modifier) → modifier_word a ≡ modifier_word b → a ≡ b
modifier_same a b e = sym (modifier_back a) ∙ ap modifier_at e ∙ modifier_back b
