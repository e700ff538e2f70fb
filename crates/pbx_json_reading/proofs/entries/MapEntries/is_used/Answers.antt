use Rattle.std.proofs.Common.{◌∙◌, ap, ℤ}
use Rattle.std.specs.Int.{w128}
use Rattle.std.specs.BTreeSet.{contains}
use Rattle.std.specs.Ordering.{int_cmp}
use Rattle.std.proofs.lemmas.Int.{to_z-of_z}
use Rattle.pbx_content_codec.specs.View.{key_of}
use Rattle.pbx_json_reading.proofs.EntryKeys.{used_number}
use Rattle.pbx_json_reading.proofs.entries.MapEntries.is_used.Goals as goal

pub returns-in-Some : goal.returns-in-Some
returns-in-Some c =
    c.contains.ensures ∙ ap (λ (z : ℤ). contains int_cmp c.args.self.now.numbers z) (to_z-of_z w128 c.in-Some.number c.in-Some.ensures.fits)
    ∙ used_number (key_of c.args.key.now) c.in-Some.number c.args.self.now.numbers c.in-Some.ensures.is
