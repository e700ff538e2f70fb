-- What is said of a tree, by what it is to be read as and by what the trees inside it say.
use Rattle.std.proofs.Common.{◌≡◌, List, [], Bool, refl}
use Rattle.serde_json.specs.Data.{Data, null, boolean, number, string, array, object}
use Rattle.pbx_content.specs.declared.shape.Shape.{Shape}
use Rattle.pbx_json_meaning.specs.Asked.{Asked, Target, target}
use Rattle.pbx_json_meaning.specs.Stands.{Reading, Says, Entry, read_as, shown_for, said, items_said, entries_said}

-- what the trees inside a tree say
abbrev pub items_in : Shape → Bool → Data → List Says
items_in shape allow (array ds) = items_said shape allow ds
items_in shape allow _ = []

abbrev pub entries_in : Shape → Bool → Data → List Entry
entries_in shape allow (object ms) = entries_said shape allow ms
entries_in shape allow _ = []

-- what a tree says as one of these
abbrev pub says_as : Shape → Bool → Data → Target → Reading
says_as shape allow d tg = read_as shape allow tg d (items_in shape allow d) (entries_in shape allow d)

pub said_is : (shape : Shape) (allow : Bool) (d : Data) (a : Asked) → said shape allow d a ≡ shown_for shape a (says_as shape allow d (target shape d a))
said_is shape allow null a = refl
said_is shape allow (boolean b) a = refl
said_is shape allow (number n) a = refl
said_is shape allow (string s) a = refl
said_is shape allow (array ds) a = refl
said_is shape allow (object ms) a = refl
