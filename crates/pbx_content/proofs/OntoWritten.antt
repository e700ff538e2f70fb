-- Bytes behind a content mean what they mean behind its canonical records.
use Rattle.std.proofs.Common.{◌≡◌, ℕ, List, ◌++◌, Option, Some, None, option_map, sym, ap, ◌∙◌, arith}
use Rattle.std.specs.Prelude.{◌↔◌, option_and_then}
use Rattle.pbx_wire.specs.declared.rec.Rec.{Rec}
use Rattle.pbx_wire.proofs.Breaking.{are_spelled}
use Rattle.pbx_content.specs.declared.shape.Shape.{Shape}
use Rattle.pbx_content.specs.Content.{Content, content}
use Rattle.pbx_content.specs.Records.{records_in}
use Rattle.pbx_content.specs.Shape.{fields_of}
use Rattle.pbx_content.specs.Meaning.{meaning}
use Rattle.pbx_content.specs.Onto.{meaning_onto}
use Rattle.pbx_content.specs.Encoding.{content_recs, encoded}
use Rattle.pbx_content.specs.Same.{settled, IsDecodedTo}
use Rattle.pbx_content.specs.Laws.{MergedIsFollowing, MergedJudgesTheNew}
use Rattle.pbx_content.proofs.Written.{content_spelled, means, message_means}
use Rattle.pbx_content.proofs.SoundValues.{mapped_is, bound_is}
use Rattle.pbx_content.proofs.FaultyFields.{spelled_both}
use Rattle.pbx_content.proofs.OntoLaw.{judges_new}
use Rattle.pbx_content.proofs.OntoAppends.{onto_following}
use Rattle.pbx_content.proofs.OntoMore.{more_records, onto_more}
use Rattle.pbx_content.proofs.OntoSettled.{onto_settled}

-- what bytes spell and what others spell, they spell together
both_spelled : (levels : ℕ) (a b : List ℕ) (rs ss : List Rec) → records_in levels a ≡ Some rs → records_in levels b ≡ Some ss
    → records_in levels (a ++ b) ≡ Some (rs ++ ss)
both_spelled levels a b rs ss d e =
    (are_spelled levels (a ++ b) (rs ++ ss)).1 (spelled_both levels a b rs ss ((are_spelled levels a rs).0 d) ((are_spelled levels b ss).0 e))

-- what is the same as what is there is the same as some that is there
is_decoded : (shape : Shape) (t : ℕ) (o : Option Content) (c : Content) → option_map (settled shape t) o ≡ Some (settled shape t c) → IsDecodedTo shape t o c
is_decoded shape t o c e = mapped_is (settled shape t) o (settled shape t c) e

pub merged_following : MergedIsFollowing
merged_following shape levels t (content fs kept) new bytes proper sound short deep enough merged =
    let gs = fields_of shape t in
    let old = content fs kept in
    let own = content_recs shape t old in
    let new_recs = bound_is (meaning_onto shape 100 gs old) (records_in 100 bytes) new merged in
    let rs = new_recs.0 in
    let spelled =
    both_spelled levels (encoded shape t old) bytes own rs (content_spelled shape t levels fs kept proper sound short (omega (arith, deep)))
    (more_records 100 levels bytes rs enough new_recs.1) in
    let meant = message_means shape levels t fs kept proper (means shape proper levels) sound short (omega (arith, deep)) in
    let same : option_map (settled shape t) (meaning shape levels gs (own ++ rs)) ≡ Some (settled shape t new) =
    ap (option_map (settled shape t)) (sym (onto_following shape levels t own rs (settled shape t old) proper meant))
    ∙ onto_settled shape levels t old rs proper
    ∙ ap (option_map (settled shape t)) (onto_more shape 100 levels gs old new rs enough new_recs.2) in
    rw spelled (is_decoded shape t (meaning shape levels gs (own ++ rs)) new same)

pub merged_where : MergedJudgesTheNew
merged_where shape t old bytes = at (records_in 100 bytes)
  where
    at : (o : Option (List Rec))
        → (option_and_then (meaning_onto shape 100 (fields_of shape t) old) o ≡ None) ↔ (option_and_then (meaning shape 100 (fields_of shape t)) o ≡ None)
    at None = (λ e. e, λ e. e)
    at (Some rs) = judges_new shape 100 (fields_of shape t) old rs
