-- Packages and what their names begin with, as nodes of their parts (Protocol Buffers "Language Guide": Packages).
use Rattle.std.specs.Prelude.{◌≡◌, ◌<◌, ℕ, zero, suc, ◌+◌, ◌==◌, ◌&&◌, ◌||◌, Bool, true, false, List, [], ◌∷◌, ◌++◌, reverse, Option, Some, None, is_some, if◌then◌else◌}
use Rattle.std.specs.BTreeMap.{BTreeMap, get, get_by_text}
use Rattle.std.specs.Ordering.{nat_cmp}
use Rattle.std.specs.Str.{bytes_eq}
use Rattle.pbx_link_definitions.specs.Names.{among, prefixes, first_part, name_parts}
use Rattle.pbx_link_names.specs.declared.package_names.PackageNames.{PackageNames}
use Rattle.pbx_link_names.specs.declared.package_names.Missing.{Missing}

-- what is below each node by a part
abbrev pub Children : Type 0
Children = ℕ → List ℕ → Option ℕ

-- the node of a part below the node, where the nodes of the part stand in a map
abbrev pub node_in : ℕ → Option (BTreeMap ℕ ℕ) → Option ℕ
node_in node None = None
node_in node (Some nodes) = get nat_cmp nodes node

-- the node of the part below the node
unfoldable pub child_of : PackageNames → ℕ → List ℕ → Option ℕ
child_of names node part = node_in node (get_by_text names.nodes part)

-- the node of the part below the node, if there is one
abbrev pub below : Children → List ℕ → Option ℕ → Option ℕ
below children part None = None
below children part (Some node) = children node part

-- the node of these parts, the last of which stands first
unfoldable pub node_of : Children → List (List ℕ) → Option ℕ
node_of children [] = Some 0
node_of children (part ∷ parts) = below children part (node_of children parts)

-- the name is there
unfoldable pub is_there : List ℕ → PackageNames → Bool
is_there name names = is_some (node_of (child_of names) (reverse (name_parts name)))

-- the names have what they had, and what the name begins with
abbrev pub HasAdded : List ℕ → PackageNames → PackageNames → Type 0
HasAdded name old new = (q : List ℕ) → is_there q new ≡ (among (prefixes name) q || is_there q old)

-- ---- nodes

-- the part below the node
abbrev pub is_edge : ℕ → List ℕ → ℕ → List ℕ → Bool
is_edge node part n p = n == node && bytes_eq part p

-- each node but 0 stands below one other, by one part, and all are less than the count
abbrev pub AreTree : Children → ℕ → Type 0
AreTree children count =
    (0 < count)
    × ((n c : ℕ) (p : List ℕ) → children n p ≡ Some c → (n < count) × (0 < c) × (c < count))
    × ((n m c : ℕ) (p q : List ℕ) → children n p ≡ Some c → children m q ≡ Some c → (n ≡ m) × (p ≡ q))

-- the nodes are those of names
abbrev pub IsSound : PackageNames → Type 0
IsSound names = AreTree (child_of names) names.count

-- both have the same nodes
abbrev pub HasSameNodes : PackageNames → PackageNames → Type 0
HasSameNodes old new = (new.count ≡ old.count) × ((n : ℕ) (p : List ℕ) → child_of new n p ≡ child_of old n p)

-- a node more, which is the part below the node
abbrev pub HasChild : ℕ → List ℕ → ℕ → PackageNames → PackageNames → Type 0
HasChild node part child old new =
    (child ≡ old.count) × (new.count ≡ old.count + 1)
    × ((n : ℕ) (p : List ℕ) → child_of new n p ≡ (if is_edge node part n p then Some child else child_of old n p))

-- no node is the part below the node, and else all is as it was
abbrev pub IsWithout : ℕ → List ℕ → PackageNames → PackageNames → Type 0
IsWithout node part old new =
    (new.count ≡ old.count) × ((n : ℕ) (p : List ℕ) → child_of new n p ≡ (if is_edge node part n p then None else child_of old n p))

-- ---- what is missing of a name

-- the name is there, or the first of the parts is not below the node of the parts before these
abbrev pub IsMissing : PackageNames → List ℕ → Option Missing → Type 0
IsMissing names name None = is_some (node_of (child_of names) (reverse (name_parts name))) ≡ true
IsMissing names name (Some missing) =
    (parts : List (List ℕ)) × (node_of (child_of names) parts ≡ Some missing.node) × (child_of names missing.node (first_part missing.parts.now) ≡ None)
    × (name_parts name ≡ reverse parts ++ name_parts missing.parts.now)

-- the nodes that were there have the same below them, but not by the first of the parts
abbrev pub AreAlikeBut : Missing → PackageNames → PackageNames → Type 0
AreAlikeBut missing old new =
    (n : ℕ) (p : List ℕ) → n < old.count → is_edge missing.node (first_part missing.parts.now) n p ≡ false → child_of new n p ≡ child_of old n p
