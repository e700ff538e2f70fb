use Rattle.std.proofs.Common.{ap, sym, ◌∙◌}
use Rattle.pbx_desc_encoding.specs.Sets.{SetText}
use Rattle.pbx_desc_encoding.proofs.Deep.{none_deep}
use Rattle.pbx_desc_encoding.proofs.set.FileSet.deep_file.Goals as goal

pub returns-clause-first : goal.returns-clause-first
returns-clause-first c = λ files is. ap (λ (s : SetText). s.deep) c.self.view_is ∙ is.deep

pub returns-clause-fits : goal.returns-clause-fits
returns-clause-fits c = λ files is none. none_deep files (sym is.deep ∙ sym (ap (λ (s : SetText). s.deep) c.self.view_is) ∙ none)
