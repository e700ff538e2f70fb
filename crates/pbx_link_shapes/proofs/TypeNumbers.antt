-- The numbers of fields under their names.
use Rattle.std.proofs.Common.{◌≡◌, ℕ, ◌+◌, ◌<◌, Bool, true, false, not, ◌&&◌, cond, List, [], ◌∷◌, ◌++◌, length, take, get_or, Option, Some, None, refl, sym, ap, ◌∙◌}
use Rattle.std.specs.Prelude.{find, option_map}
use Rattle.std.specs.Option.{option_or}
use Rattle.std.specs.Str.{bytes_eq}
use Rattle.std.proofs.lemmas.List.{take_more}
use Rattle.std.proofs.lemmas.List.Folds.{find-append}
use Rattle.pbx_content.specs.declared.shape.FieldShape.{FieldShape}
use Rattle.pbx_link_names.specs.Names.{first_under}
use Rattle.pbx_link_names.proofs.Values.{turned}
use Rattle.pbx_link_shapes.specs.Named.{is_named, number_in}

-- an item more
one_more : (q : List ℕ) (xs : List (List ℕ × ℕ)) (x : List ℕ × ℕ) → first_under q (xs ++ x ∷ []) ≡ option_or (first_under q xs) (cond (bytes_eq x.0 q) (Some x.1) None)
one_more q [] x = ap (λ (b : Bool). cond b (Some x.1) None) (turned q x.0)
one_more q (y ∷ ys) x = at (one_more q ys x) (bytes_eq q y.0)
  where
    at : first_under q (ys ++ x ∷ []) ≡ option_or (first_under q ys) (cond (bytes_eq x.0 q) (Some x.1) None)
        → (b : Bool) → cond b (Some y.1) (first_under q (ys ++ x ∷ [])) ≡ option_or (cond b (Some y.1) (first_under q ys)) (cond (bytes_eq x.0 q) (Some x.1) None)
    at h true = refl
    at h false = h

-- a field more
field_more : (q : List ℕ) (fs : List FieldShape) (i : ℕ) (f : FieldShape) → i < length fs → f ≡ get_or fs i f
    → number_in q (take (i + 1) fs) ≡ option_or (number_in q (take i fs)) (cond (not f.is_extension && bytes_eq f.name q) (Some f.number) None)
field_more q fs i f lt is =
    ap (number_in q) (take_more fs i f lt ∙ ap (λ (g : FieldShape). take i fs ++ g ∷ []) (sym is))
    ∙ ap (option_map (λ (g : FieldShape). g.number)) (find-append (is_named q) (take i fs) (f ∷ []))
    ∙ mapped (find (is_named q) (take i fs)) (not f.is_extension && bytes_eq f.name q)
  where
    mapped : (o : Option FieldShape) (b : Bool) → option_map (λ (g : FieldShape). g.number) (option_or o (cond b (Some f) None))
        ≡ option_or (option_map (λ (g : FieldShape). g.number) o) (cond b (Some f.number) None)
    mapped None true = refl
    mapped None false = refl
    mapped (Some g) b = refl

nothing_more : (o : Option ℕ) → option_or o None ≡ o
nothing_more None = refl
nothing_more (Some n) = refl

-- what the items so far say of each name
abbrev pub AreNumbers : List (List ℕ × ℕ) → List FieldShape → Type 0
AreNumbers items fs = (q : List ℕ) → first_under q items ≡ number_in q fs

pub field_added : (fs : List FieldShape) (i : ℕ) (f : FieldShape) (items now : List (List ℕ × ℕ)) → i < length fs → f ≡ get_or fs i f → AreNumbers items (take i fs)
    → f.is_extension ≡ false → now ≡ items ++ (f.name, f.number) ∷ [] → AreNumbers now (take (i + 1) fs)
field_added fs i f items now lt is so_far own made q =
    ap (first_under q) made ∙ one_more q items (f.name, f.number)
    ∙ ap (λ (o : Option ℕ). option_or o (cond (bytes_eq f.name q) (Some f.number) None)) (so_far q)
    ∙ ap (λ (b : Bool). option_or (number_in q (take i fs)) (cond (not b && bytes_eq f.name q) (Some f.number) None)) (sym own)
    ∙ sym (field_more q fs i f lt is)

pub extension_left : (fs : List FieldShape) (i : ℕ) (f : FieldShape) (items : List (List ℕ × ℕ)) → i < length fs → f ≡ get_or fs i f → AreNumbers items (take i fs)
    → f.is_extension ≡ true → AreNumbers items (take (i + 1) fs)
extension_left fs i f items lt is so_far extends q =
    so_far q ∙ sym (nothing_more (number_in q (take i fs)))
    ∙ ap (λ (b : Bool). option_or (number_in q (take i fs)) (cond (not b && bytes_eq f.name q) (Some f.number) None)) (sym extends)
    ∙ sym (field_more q fs i f lt is)
