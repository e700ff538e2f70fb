-- Lists and maps, item by item.
use Rattle.std.proofs.Common.{List, [], ◌∷◌, refl}
use Rattle.std.specs.List.{AllByRecursion}
use Rattle.pbx_content.specs.declared.shape.Kind.{Kind}
use Rattle.pbx_content.specs.declared.shape.Shape.{Shape}
use Rattle.pbx_content.specs.Content.{Key, Val, vals_of, pairs_of}
use Rattle.pbx_content.specs.Sound.{IsBefore, AreElements, ArePairs, IsElement}
use Rattle.pbx_message_laws.specs.Settable.{IsPairOf, IsBeforeFirst, AscendByKey}
use Rattle.pbx_message_laws.specs.Laws.{ListIsOfKind, MapIsOfKinds, SignedInOrder, UnsignedInOrder, TruthsInOrder, TextsInOrder}

each_element : (shape : Shape) (k : Kind) (vs : List Val) → AreElements shape k (vals_of vs) → AllByRecursion (IsElement shape k) vs
each_element shape k [] h = tt
each_element shape k (v ∷ vs) h = (h.0, each_element shape k vs h.1)

all_elements : (shape : Shape) (k : Kind) (vs : List Val) → AllByRecursion (IsElement shape k) vs → AreElements shape k (vals_of vs)
all_elements shape k [] h = tt
all_elements shape k (v ∷ vs) h = (h.0, all_elements shape k vs h.1)

pub list_is_of_kind : ListIsOfKind
list_is_of_kind shape k vs = (each_element shape k vs, all_elements shape k vs)

first_is : (k : Key) (ps : List (Key × Val)) → IsBefore k (pairs_of ps) → IsBeforeFirst k ps
first_is k [] h = tt
first_is k (p ∷ ps) h = h

is_first : (k : Key) (ps : List (Key × Val)) → IsBeforeFirst k ps → IsBefore k (pairs_of ps)
is_first k [] h = tt
is_first k (p ∷ ps) h = h

each_pair : (shape : Shape) (key k : Kind) (ps : List (Key × Val)) → ArePairs shape key k (pairs_of ps)
    → AllByRecursion (IsPairOf shape key k) ps × AscendByKey ps
each_pair shape key k [] h = (tt, tt)
each_pair shape key k (p ∷ ps) h = let rest = each_pair shape key k ps h.3 in (((h.0, h.1), rest.0), (first_is p.0 ps h.2, rest.1))

all_pairs : (shape : Shape) (key k : Kind) (ps : List (Key × Val)) → AllByRecursion (IsPairOf shape key k) ps × AscendByKey ps
    → ArePairs shape key k (pairs_of ps)
all_pairs shape key k [] h = tt
all_pairs shape key k (p ∷ ps) h = (h.0.0.0, h.0.0.1, is_first p.0 ps h.1.0, all_pairs shape key k ps (h.0.1, h.1.1))

pub map_is_of_kinds : MapIsOfKinds
map_is_of_kinds shape key k ps = (each_pair shape key k ps, all_pairs shape key k ps)

pub signed_in_order : SignedInOrder
signed_in_order a b = refl

pub unsigned_in_order : UnsignedInOrder
unsigned_in_order m n = refl

pub truths_in_order : TruthsInOrder
truths_in_order a b = refl

pub texts_in_order : TextsInOrder
texts_in_order s t = refl
