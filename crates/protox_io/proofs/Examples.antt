-- The definitions of paths, tried on paths.
use Rattle.std.proofs.Common.{◌≡◌, [], ◌∷◌, codes, refl}
use Rattle.protox_io.specs.Paths.{Root, Current, Parent, Named, components, disk_key}

pub empty : disk_key [] ≡ []
empty = refl

pub dot : disk_key (codes ".") ≡ []
dot = refl

pub parts_of : components (codes "a/./b//c/") ≡ Named (codes "a") ∷ Named (codes "b") ∷ Named (codes "c") ∷ []
parts_of = refl

pub dot_first : components (codes "./m.proto") ≡ Current ∷ Named (codes "m.proto") ∷ []
dot_first = refl

pub dot_behind_root : components (codes "/./..") ≡ Root ∷ Parent ∷ []
dot_behind_root = refl

pub dotted_names : components (codes ".a/...") ≡ Named (codes ".a") ∷ Named (codes "...") ∷ []
dotted_names = refl

pub key_without_dot : disk_key (codes "./m.proto") ≡ disk_key (codes "m.proto")
key_without_dot = refl

pub rooted : disk_key (codes "/m") ≡ Root ∷ Named (codes "m") ∷ []
rooted = refl

pub relative : disk_key (codes "m") ≡ Named (codes "m") ∷ []
relative = refl

pub root_alone : disk_key (codes "//") ≡ Root ∷ []
root_alone = refl

pub parent_of_root : disk_key (codes "/..") ≡ Root ∷ []
parent_of_root = refl

pub parent_stays : disk_key (codes "a/../../b") ≡ Parent ∷ Named (codes "b") ∷ []
parent_stays = refl

pub parents_stay : disk_key (codes "../../a") ≡ Parent ∷ Parent ∷ Named (codes "a") ∷ []
parents_stay = refl

pub parent_carried_out : disk_key (codes "/a/b/../../../c/./d/") ≡ Root ∷ Named (codes "c") ∷ Named (codes "d") ∷ []
parent_carried_out = refl

pub parent_of_dot : disk_key (codes "./../a") ≡ Parent ∷ Named (codes "a") ∷ []
parent_of_dot = refl
