-- A tree that is read as nothing stands for nothing.
use Rattle.std.proofs.Common.{◌≡◌, ◌∙◌, ◌⊎◌, inl, inr, not, Some, None, sym}
use Rattle.serde_json.specs.Data.{Data}
use Rattle.pbx_content.specs.Content.{Content}
use Rattle.pbx_desc_records.specs.declared.message.DescriptorProto.{DescriptorProto}
use Rattle.pbx_link_meaning.specs.Descriptors.{Described}
use Rattle.pbx_link_meaning.specs.Shapes.{shape_of, place_of}
use Rattle.pbx_json_meaning.specs.Stands.{content_for}
use Rattle.pbx_json_meaning.specs.declared.error.JsonError.{JsonError}
use Rattle.pbx_json_meaning.specs.declared.kind.JsonKind.TheVariants.{NoMemory}
use Rattle.pbx_json_meaning.specs.declared.options.DeserializeOptions.{DeserializeOptions}
use Rattle.pbx_message_dynamic.specs.Trees.{IsUnread}

pub unread : (d : Described DescriptorProto) (o : DeserializeOptions) (tree : Data) (e : JsonError)
    → (e.kind ≡ NoMemory) ⊎ (content_for (shape_of d.pool) (place_of d) (not o.deny_unknown_fields) tree ≡ None) → IsUnread d o tree e
unread d o tree e (inl memory) = inl memory
unread d o tree e (inr none) = inr (λ (c : Content) stands. let bad : None ≡ Some c = sym none ∙ stands in cc)
