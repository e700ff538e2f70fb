-- Contents that are made field by field.
use Rattle.std.specs.Prelude.{◌≡◌, ℕ, Bool, Option, Some, None}
use Rattle.pbx_content_codec.specs.declared.contents.Contents.{Contents}
use Rattle.pbx_content_codec.specs.View.{content_of}
use Rattle.pbx_content.specs.declared.shape.Cardinality.{Cardinality}
use Rattle.pbx_content.specs.declared.shape.Kind.{Kind}
use Rattle.pbx_content.specs.Content.{Content, Fields, fields, with_fields, with_value, Val}
use Rattle.pbx_content.specs.Meaning.{shown}
use Rattle.pbx_content.specs.Sound.{IsSound}
use Rattle.pbx_desc_shapes.specs.TypesShape.{types_shape}
use Rattle.pbx_types.specs.Sound.{MayHave, some_field}

-- the fields with this at a number, if there is a value
abbrev pub put_in : ℕ → Option Val → Fields → Fields
put_in n None fs = fs
put_in n (Some v) fs = with_value n v fs

-- a value, if there is one that is shown, is put under a number, and a field of this cardinality and kind may have it
pub record Puts (c : Cardinality) (presence : Bool) (k : Kind) (n : ℕ) (v : Option Val) (old new : Content) : Type 0 where
  pub put : new ≡ with_fields old (put_in n (shown types_shape presence k v) (fields old))
  pub value : MayHave (some_field c presence k) v

-- the tree holds the content, which a message of the type may have
pub record Holds (t : ℕ) (c : Content) (contents : Contents) : Type 0 where
  pub content : content_of contents ≡ c
  pub sound : IsSound types_shape t c
