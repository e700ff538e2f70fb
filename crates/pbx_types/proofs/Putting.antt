-- Members of a Value that are put in.
use Rattle.std.proofs.Common.{◌≡◌, ℕ, ℤ, Bool, true, List, [], ◌∷◌, Option, Some, None, option_map, refl, ◌∙◌}
use Rattle.std.specs.Int.{w32}
use Rattle.std.specs.Int.RustNames.{FitsSigned}
use Rattle.std.specs.Str.{is_utf8}
use Rattle.pbx_content.specs.Content.{Content, content, fields, no_fields, field, with_fields, with_value, Val, number, truth, text, message}
use Rattle.pbx_content.specs.Sound.{IsSound}
use Rattle.pbx_desc_shapes.specs.TypesShape.{types_shape, value_fields}
use Rattle.pbx_types.specs.FieldContent.{fields_from}
use Rattle.pbx_types.specs.Content.{last_member}
use Rattle.pbx_types.specs.Layers.{PutsMember}

put_alone : (n : ℕ) (v w : Val) (vs : List (Option Val)) (old new : Content) → fields_from value_fields vs ≡ field n v no_fields → w ≡ v → new ≡ with_fields old (with_value n w (fields old))
    → fields old ≡ no_fields → new ≡ with_fields old (fields_from value_fields vs)
put_alone n v w vs old new all is e none = e ∙ rw (is, none, all) refl

pub list_put : (u v w x : Option Val) (l : Content) (h : Val) (old new : Content) → IsSound types_shape 7 l → h ≡ message l → new ≡ with_fields old (with_value 6 h (fields old))
    → PutsMember (last_member (u ∷ v ∷ w ∷ x ∷ Some (message l) ∷ [])) old new
list_put u v w x l h old new sound is e = record {
  put = put_alone 6 (message l) h (last_member (u ∷ v ∷ w ∷ x ∷ Some (message l) ∷ [])) old new refl is e;
  values = (tt, (tt, (tt, (tt, ((refl, (7, refl, sound)), tt)))));
  one = refl;
}

pub struct_put : (u v w : Option Val) (l : Content) (h : Val) (old new : Content) → IsSound types_shape 4 l → h ≡ message l → new ≡ with_fields old (with_value 5 h (fields old))
    → PutsMember (last_member (u ∷ v ∷ w ∷ Some (message l) ∷ None ∷ [])) old new
struct_put u v w l h old new sound is e = record {
  put = put_alone 5 (message l) h (last_member (u ∷ v ∷ w ∷ Some (message l) ∷ None ∷ [])) old new refl is e;
  values = (tt, (tt, (tt, ((refl, (4, refl, sound)), (tt, tt)))));
  one = refl;
}

pub truth_put : (u v : Option Val) (b : Bool) (h : Val) (old new : Content) → h ≡ truth b → new ≡ with_fields old (with_value 4 h (fields old))
    → PutsMember (last_member (u ∷ v ∷ Some (truth b) ∷ None ∷ None ∷ [])) old new
truth_put u v b h old new is e = record {
  put = put_alone 4 (truth b) h (last_member (u ∷ v ∷ Some (truth b) ∷ None ∷ None ∷ [])) old new refl is e;
  values = (tt, (tt, ((refl, refl), (tt, (tt, tt)))));
  one = refl;
}

pub text_put : (u : Option Val) (s : List ℕ) (h : Val) (old new : Content) → is_utf8 s ≡ true → h ≡ text s → new ≡ with_fields old (with_value 3 h (fields old))
    → PutsMember (last_member (u ∷ Some (text s) ∷ None ∷ None ∷ None ∷ [])) old new
text_put u s h old new utf8 is e = record {
  put = put_alone 3 (text s) h (last_member (u ∷ Some (text s) ∷ None ∷ None ∷ None ∷ [])) old new refl is e;
  values = (tt, ((refl, (refl, utf8)), (tt, (tt, (tt, tt)))));
  one = refl;
}

pub number_put : (z : ℤ) (h : Val) (old new : Content) → FitsSigned w32 z → h ≡ number z → new ≡ with_fields old (with_value 1 h (fields old))
    → PutsMember (last_member (Some (number z) ∷ None ∷ None ∷ None ∷ None ∷ [])) old new
number_put z h old new fits is e = record {
  put = put_alone 1 (number z) h (last_member (Some (number z) ∷ None ∷ None ∷ None ∷ None ∷ [])) old new refl is e;
  values = ((refl, fits), (tt, (tt, (tt, (tt, tt)))));
  one = refl;
}

pub nothing_put : (c : Content) → PutsMember (last_member (None ∷ None ∷ None ∷ None ∷ None ∷ [])) c c
nothing_put c = record { put = at c; values = (tt, (tt, (tt, (tt, (tt, tt))))); one = refl }
  where
    at : (c : Content) → fields c ≡ no_fields → c ≡ with_fields c (fields_from value_fields (last_member (None ∷ None ∷ None ∷ None ∷ None ∷ [])))
    at (content fs ks) e = rw e refl
