-- How payloads are written: as the contents that their bytes mean, and not at all where they mean nothing.
use Rattle.std.proofs.Common.{◌≡◌, ℕ, List, length, Some, None, ap}
use Rattle.std.specs.Prelude.{option_and_then}
use Rattle.pbx_content.specs.Content.{Content}
use Rattle.pbx_content.specs.Meaning.{meaning_of}
use Rattle.pbx_content.specs.declared.shape.Shape.{Shape}
use Rattle.pbx_json_meaning.specs.Canonical.{Writing, writing, content_tree, payload_tree, tree_of_payload}
use Rattle.pbx_json_meaning.specs.declared.options.SerializeOptions.{SerializeOptions}
use Rattle.pbx_json_payload_laws.proofs.Payloads.{payloads_by_content}

-- payloads are written by their contents
pub record WritesPayloads (shape : Shape) (o : Writing) : Type 0 where
  pub by_content : (u : ℕ) (bytes : List ℕ) (p : Content) → meaning_of shape u bytes ≡ Some p → o.payloads u bytes ≡ content_tree shape o p u
  pub by_none : (u : ℕ) (bytes : List ℕ) → meaning_of shape u bytes ≡ None → o.payloads u bytes ≡ None

-- what means nothing has no tree
none_by_none : (shape : Shape) (o : SerializeOptions) (u : ℕ) (bytes : List ℕ) → meaning_of shape u bytes ≡ None → tree_of_payload shape o u bytes ≡ None
unfolding payload_tree
none_by_none shape o u bytes means =
    ap (option_and_then (λ c. content_tree shape (record { options = o; payloads = payload_tree shape o (length bytes) }) c u)) means

pub writes_payloads : (shape : Shape) (o : SerializeOptions) → WritesPayloads shape (writing shape o)
writes_payloads shape o = record { by_content = payloads_by_content shape o; by_none = none_by_none shape o }
