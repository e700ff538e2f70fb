-- Codes of values.
use Rattle.std.specs.Prelude.{ℕ, ℤ, List, refl}
use Rattle.std.specs.Coded.{Coded, code_by, coded×, coded_ℕ, coded_ℤ, coded_list}
use Rattle.pbx_link_definitions.specs.Definitions.{Part}

-- a part as its scope, its place, its index and its item
abbrev pub part_code : {X : Type 0} → Coded X → Coded (Part X)
part_code {X} code =
    code_by (List ℕ × (List ℤ × (ℕ × X))) (coded× (coded_list coded_ℕ) (coded× (coded_list coded_ℤ) (coded× coded_ℕ code)))
    (λ p. (p.scope, (p.place, (p.index, p.item))))
    (λ t. record { scope = t.0; place = t.1.0; index = t.1.1.0; item = t.1.1.1 }) (λ _. refl)
