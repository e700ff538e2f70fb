use Rattle.std.proofs.Common.{refl, ap}
use Rattle.std.specs.Map.{lookup}
use Rattle.std.specs.BTreeMap.{is_at}
use Rattle.std.proofs.lemmas.Map.Text.{text_cmp}
use Rattle.pbx_link_names.specs.Packages.{node_in, child_of}
use Rattle.pbx_link_names.proofs.Added.{none_there, none_sound}
use Rattle.pbx_link_names.proofs.package_names.PackageNames.new.Goals as goal

pub returns-clause-none : goal.returns-clause-none
unfolding child_of
returns-clause-none c = λ name. none_there (record { nodes = c.new.result; count = 1 }) name (λ n p. ap (λ es. node_in n (lookup (is_at (text_cmp p)) es)) c.new.ensures.empty)

pub returns-clause-sound : goal.returns-clause-sound
unfolding child_of
returns-clause-sound c = none_sound (record { nodes = c.new.result; count = 1 }) refl (λ n p. ap (λ es. node_in n (lookup (is_at (text_cmp p)) es)) c.new.ensures.empty)
