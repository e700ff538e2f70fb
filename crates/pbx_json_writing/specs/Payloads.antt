-- The payload that was found in an `Any`.
use Rattle.std.specs.Prelude.{◌≡◌, Some}
use Rattle.pbx_content.specs.Content.{Fields, get}
use Rattle.pbx_content.specs.Meaning.{meaning_of}
use Rattle.pbx_content.specs.Sound.{IsSound}
use Rattle.pbx_content.specs.declared.shape.Shape.{Shape}
use Rattle.pbx_content_codec.specs.View.{content_of}
use Rattle.pbx_json_meaning.specs.Forms.{text_at, bytes_at}
use Rattle.pbx_json_meaning.specs.Urls.{type_of_url}
use Rattle.pbx_json_writing.specs.declared.any.Payload.{Payload}

-- the payload of an `Any` of these fields, which a message of its type may have
pub record IsPayloadOf (shape : Shape) (fs : Fields) (payload : Payload) : Type 0 where
  pub named : type_of_url shape (text_at (get 1 fs)) ≡ Some payload.type_at
  pub means : meaning_of shape payload.type_at (bytes_at (get 2 fs)) ≡ Some (content_of payload.contents)
  pub sound : IsSound shape payload.type_at (content_of payload.contents)
