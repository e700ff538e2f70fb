use Rattle.std.proofs.Common.{◌∙◌}
use Rattle.protox_generate.specs.Sources.{files_to}
use Rattle.protox_generate.proofs.Transcoded.{file_more}
use Rattle.protox_generate.proofs.files.GeneratedFiles.new.Goals as goal

pub loop-before-init : goal.loop-before-init
unfolding files_to
loop-before-init c = c.new-sources.ensures.items

pub loop-before-preserved : goal.loop-before-preserved
loop-before-preserved c =
    file_more c.loop-before.before c.loop-before.sources.items c.push.new.self.items _ _ c.loop-before.invariant
    (c.in_ok-name.ensures ∙ c.as_str.ensures.value ∙ c.in_ok-file_name.ensures)
    (c.in_ok-text.ensures ∙ c.as_str-in-loop-before.ensures.value ∙ c.in_ok-source.ensures)
    c.in_ok-push.ensures.items
