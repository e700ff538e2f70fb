-- The package of a file, added and taken out again.
use Rattle.std.proofs.Common.{◌≡◌, ◌∙◌, ◌<◌, ℕ, List, refl, ap, sym, subst}
use Rattle.std.specs.Prelude.{Option, Some, None}
use Rattle.pbx_link_names.specs.Packages.{child_of, is_there, IsSound, IsMissing, HasAdded}
use Rattle.pbx_link_names.specs.declared.package_names.PackageNames.{PackageNames}
use Rattle.pbx_link_names.specs.declared.package_names.Missing.{Missing}
use Rattle.pbx_link_names.proofs.Trees.{bounded}
use Rattle.pbx_link_names.proofs.Added.{added_already, all_back, back_sound, name_added}
use Rattle.pbx_link_pool.specs.Packages.{IsMissingOf, HasPackage, IsAlikeBut, IsForgotten}

-- with what was added taken out again, all is found as before
pub package_back : (old some new : PackageNames) (p : Option (List ℕ)) (missing : Option Missing) → IsMissingOf old p missing → IsAlikeBut missing old some → IsForgotten missing some new → IsSound old
    → IsSound new × ((q : List ℕ) → is_there q new ≡ is_there q old)
package_back old some new p None m alike gone s =
    let same : new ≡ old = gone ∙ alike in
    (subst IsSound (sym same) s, λ q. ap (λ (names : PackageNames). is_there q names) same)
package_back old some new None (Some missing) m alike gone s = absurd (cc)
package_back old some new (Some name) (Some missing) m alike gone s = (
  back_sound some new missing.node _ (alike.1 s (bounded (child_of old) old.count s m.0 missing.node m.1)) gone,
  all_back old some new name missing s m alike.0 gone,
)

-- nothing is missing of the package
pub already : (names : PackageNames) (p : Option (List ℕ)) → IsSound names → IsMissingOf names p None → HasPackage p names names
already names None s m = (s, λ q. refl)
already names (Some name) s m = (s, added_already names name m)

-- what was missing of the package is added
pub package_added : (old new : PackageNames) (p : Option (List ℕ)) (missing : Missing) → ((n : List ℕ) → IsSound old → IsMissing old n (Some missing) → HasAdded n old new)
    → (IsSound old → missing.node < old.count → IsSound new) → IsSound old → IsMissingOf old p (Some missing) → HasPackage p old new
package_added old new None missing added sound s m = absurd (cc)
package_added old new (Some name) missing added sound s m = let both = name_added old new name missing m added sound s in (both.1, both.0)
