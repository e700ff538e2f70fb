-- Values under names.
use Rattle.std.specs.Prelude.{ℕ, List, Option, None, cond}
use Rattle.std.specs.Borrow.{Bor}
use Rattle.std.specs.BTreeMap.{get_by_text}
use Rattle.std.specs.List.{list_any}
use Rattle.std.specs.Map.{lookup}
use Rattle.std.specs.Str.{bytes_eq}
use Rattle.pbx_link_names.specs.declared.name_map.NameMap.{NameMap}

-- the value under the name
unfoldable pub under : {V : Type 0} → List ℕ → NameMap V → Option V
under name map = get_by_text map.values name

-- the value of the first item of this name
abbrev pub first_under : {V : Type 0} → List ℕ → List (List ℕ × V) → Option V
first_under name items = lookup (bytes_eq name) items

-- the value, where the name is none of these
abbrev pub without : {V : Type 0} → List ℕ → List (Bor (List ℕ)) → Option V → Option V
without name names value = cond (list_any (λ n. bytes_eq name n.now) names) None value

-- the value, where no item has this name
abbrev pub without_items : {V : Type 0} → List ℕ → List (List ℕ × V) → Option V → Option V
without_items name items value = cond (list_any (λ x. bytes_eq name x.0) items) None value
