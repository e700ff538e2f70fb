-- What the content of a record tells of the record: the values of its fields, and its unknown records by number.
use Rattle.std.proofs.Common.{◌≡◌, ◌∙◌, ℕ, zero, suc, ℤ, ◌==◌, ◌&&◌, ◌||◌, not, List, [], ◌∷◌, map, length, Bool, true, false, if◌then◌else◌, Option, None}
use Rattle.std.proofs.Common.{Some, option_map, refl, ap, sym, arith}
use Rattle.std.specs.List.{list_any}
use Rattle.std.proofs.lemmas.Bool.{false≢true}
use Rattle.std.proofs.lemmas.Bool.Decides.{nat_tests}
use Rattle.pbx_wire.specs.declared.rec.Rec.{Rec}
use Rattle.pbx_content.specs.declared.shape.FieldShape.{FieldShape}
use Rattle.pbx_content.specs.Content.{Content, Fields, no_fields, field, Val, number, text, message, vals_of, fields}
use Rattle.pbx_content.specs.Content.{kept, get}
use Rattle.pbx_content.specs.Meaning.{with_field}
use Rattle.pbx_content.specs.Records.{sorted}
use Rattle.pbx_desc_records.specs.declared.options.Options.{Options}
use Rattle.pbx_desc_encoding.specs.Content.{fields_from, record_content, of_text, of_number, of_truth, of_record, listed, of_texts, of_numbers, of_records}
use Rattle.pbx_desc_encoding.specs.Content.{options_content, of_options}
use Rattle.pbx_link_record.specs.Unknown.{unread, settled_unknown}
use Rattle.pbx_link_record.specs.Settled.{written_options, settled_options}

-- ---- fields of different numbers

abbrev has_number : ℕ → List FieldShape → Bool
has_number n gs = list_any (λ (g : FieldShape). n == g.number) gs

-- no number stands twice
abbrev pub are_distinct : List FieldShape → Bool
are_distinct [] = true
are_distinct (g ∷ gs) = not (has_number g.number gs) && are_distinct gs

-- there is a value, or none, for each field
abbrev pub fit : List FieldShape → List (Option Val) → Type 0
fit gs vs = length vs ≡ length gs

absent : (n : ℕ) (gs : List FieldShape) (vs : List (Option Val)) → has_number n gs ≡ false → get n (fields_from gs vs) ≡ None
absent n [] vs h = refl
absent n (g ∷ gs) [] h = refl
absent n (g ∷ gs) (None ∷ vs) h = at (n == g.number) h (λ e. absent n gs vs e)
  where
    at : (b : Bool) → (b || has_number n gs) ≡ false → (has_number n gs ≡ false → get n (fields_from gs vs) ≡ None) → get n (fields_from gs vs) ≡ None
    at true e ih = absurd (false≢true (sym e))
    at false e ih = ih e
absent n (g ∷ gs) (Some v ∷ vs) h = at (n == g.number) h (λ e. absent n gs vs e)
  where
    at : (b : Bool) → (b || has_number n gs) ≡ false → (has_number n gs ≡ false → get n (fields_from gs vs) ≡ None)
        → (if b then Some v else get n (fields_from gs vs)) ≡ None
    at true e ih = absurd (false≢true (sym e))
    at false e ih = ih e

-- the value of the first field
first_value : (g : FieldShape) (v : Option Val) (fs : Fields) → get g.number fs ≡ None → get g.number (with_field g.number v fs) ≡ v
first_value g None fs none = none
first_value g (Some v) fs none = let same : (g.number == g.number) ≡ true = grind (arith, nat_tests) in rw same refl

-- the fields behind the first
rest_of : Fields → Fields
rest_of no_fields = no_fields
rest_of (field n v fs) = fs

rest_same : (n : ℕ) (v : Option Val) (fs gs : Fields) → with_field n v fs ≡ with_field n v gs → fs ≡ gs
unfolding rest_of
rest_same n None fs gs e = e
rest_same n (Some v) fs gs e = ap rest_of e

values_told : (gs : List FieldShape) → are_distinct gs ≡ true → (vs ws : List (Option Val)) → fit gs vs → fit gs ws → fields_from gs vs ≡ fields_from gs ws
    → vs ≡ ws
values_told [] d [] [] f h e = refl
values_told [] d (v ∷ vs) ws f h e = absurd (omega (arith, f))
values_told [] d [] (w ∷ ws) f h e = absurd (omega (arith, h))
values_told (g ∷ gs) d [] ws f h e = absurd (omega (arith, f))
values_told (g ∷ gs) d (v ∷ vs) [] f h e = absurd (omega (arith, h))
values_told (g ∷ gs) d (v ∷ vs) (w ∷ ws) f h e =
    let apart = both (has_number g.number gs) (are_distinct gs) d in
    let first : v ≡ w =
    sym (first_value g v (fields_from gs vs) (absent g.number gs vs apart.0)) ∙ ap (get g.number) e
    ∙ first_value g w (fields_from gs ws) (absent g.number gs ws apart.0) in
    let rest : fields_from gs vs ≡ fields_from gs ws =
    rest_same g.number v (fields_from gs vs) (fields_from gs ws) (e ∙ ap (λ (x : Option Val). with_field g.number x (fields_from gs ws)) (sym first)) in
    let more : vs ≡ ws = values_told gs apart.1 vs ws (omega (arith, f)) (omega (arith, h)) rest in
    ap (λ (x : Option Val). x ∷ vs) first ∙ ap (λ (xs : List (Option Val)). w ∷ xs) more
  where
    both : (a b : Bool) → (not a && b) ≡ true → (a ≡ false) × (b ≡ true)
    both true b k = absurd (false≢true k)
    both false b k = (refl, k)

-- ---- the content of a record

pub record Tells (gs : List FieldShape) (vs ws : List (Option Val)) (rs ss : List Rec) : Type 0 where
  pub values : vs ≡ ws
  pub unknown : settled_unknown gs rs ≡ settled_unknown gs ss

pub content_tells : (gs : List FieldShape) → are_distinct gs ≡ true → (vs ws : List (Option Val)) → fit gs vs → fit gs ws → (rs ss : List Rec)
    → record_content gs vs rs ≡ record_content gs ws ss → Tells gs vs ws rs ss
unfolding settled_unknown unread
content_tells gs d vs ws f h rs ss e = record {
  values = values_told gs d vs ws f h (ap fields e);
  unknown = ap (λ (c : Content). sorted (kept c)) e;
}

-- the value of a field by its index
abbrev pub nth : ℕ → List (Option Val) → Option Val
nth i [] = None
nth zero (v ∷ vs) = v
nth (suc i) (v ∷ vs) = nth i vs

-- ---- values

pub text_told : (a b : Option (List ℕ)) → of_text a ≡ of_text b → a ≡ b
text_told None None e = refl
text_told None (Some y) e = absurd (cc)
text_told (Some x) None e = absurd (cc)
text_told (Some x) (Some y) e = let same : x ≡ y = cc in ap (λ (z : List ℕ). Some z) same

pub number_told : (a b : Option ℤ) → of_number a ≡ of_number b → a ≡ b
number_told None None e = refl
number_told None (Some y) e = absurd (cc)
number_told (Some x) None e = absurd (cc)
number_told (Some x) (Some y) e = let same : x ≡ y = cc in ap (λ (z : ℤ). Some z) same

pub truth_told : (a b : Option Bool) → of_truth a ≡ of_truth b → a ≡ b
truth_told None None e = refl
truth_told None (Some y) e = absurd (cc)
truth_told (Some x) None e = absurd (cc)
truth_told (Some x) (Some y) e = let same : x ≡ y = cc in ap (λ (z : Bool). Some z) same

vals_told : (vs ws : List Val) → vals_of vs ≡ vals_of ws → vs ≡ ws
vals_told [] [] e = refl
vals_told [] (w ∷ ws) e = absurd (cc)
vals_told (v ∷ vs) [] e = absurd (cc)
vals_told (v ∷ vs) (w ∷ ws) e =
    let first : v ≡ w = cc in
    let rest : vals_of vs ≡ vals_of ws = cc in
    ap (λ (x : Val). x ∷ vs) first ∙ ap (λ (xs : List Val). w ∷ xs) (vals_told vs ws rest)

pub list_told : (vs ws : List Val) → listed vs ≡ listed ws → vs ≡ ws
list_told [] [] e = refl
list_told [] (w ∷ ws) e = absurd (cc)
list_told (v ∷ vs) [] e = absurd (cc)
list_told (v ∷ vs) (w ∷ ws) e = let same : vals_of (v ∷ vs) ≡ vals_of (w ∷ ws) = cc in vals_told (v ∷ vs) (w ∷ ws) same

-- items that are told by their values, up to a change
pub items_told : {R S : Type 0} (f : R → Val) (s : R → S) → ((x y : R) → f x ≡ f y → s x ≡ s y) → (xs ys : List R) → map f xs ≡ map f ys → map s xs ≡ map s ys
items_told f s h [] [] e = refl
items_told f s h [] (y ∷ ys) e = absurd (cc)
items_told f s h (x ∷ xs) [] e = absurd (cc)
items_told {R} {S} f s h (x ∷ xs) (y ∷ ys) e =
    let first : f x ≡ f y = cc in
    let rest : map f xs ≡ map f ys = cc in
    ap (λ (z : S). z ∷ map s xs) (h x y first) ∙ ap (λ (zs : List S). s y ∷ zs) (items_told f s h xs ys rest)

pub same_items : {X : Type 0} (xs : List X) → map (λ x. x) xs ≡ xs
same_items [] = refl
same_items (x ∷ xs) = ap (λ ys. x ∷ ys) (same_items xs)

pub texts_told : (xs ys : List (List ℕ)) → of_texts xs ≡ of_texts ys → xs ≡ ys
texts_told xs ys e =
    sym (same_items xs) ∙ items_told text (λ x. x) one xs ys (list_told (map text xs) (map text ys) e) ∙ same_items ys
  where
    one : (x y : List ℕ) → text x ≡ text y → x ≡ y
    one x y h = cc

pub numbers_told : (xs ys : List ℤ) → of_numbers xs ≡ of_numbers ys → xs ≡ ys
numbers_told xs ys e =
    sym (same_items xs) ∙ items_told number (λ x. x) one xs ys (list_told (map number xs) (map number ys) e) ∙ same_items ys
  where
    one : (x y : ℤ) → number x ≡ number y → x ≡ y
    one x y h = cc

pub message_told : (c d : Content) → message c ≡ message d → c ≡ d
message_told c d e = cc

-- records that are told by their contents, up to a change
pub records_told : {R : Type 0} (c : R → Content) (s : R → R) → ((x y : R) → c x ≡ c y → s x ≡ s y) → (xs ys : List R) → of_records c xs ≡ of_records c ys
    → map s xs ≡ map s ys
records_told {R} c s h xs ys e =
    items_told (λ (x : R). message (c x)) s (λ x y k. h x y (message_told (c x) (c y) k)) xs ys
    (list_told (map (λ (x : R). message (c x)) xs) (map (λ (x : R). message (c x)) ys) e)

pub record_told : {R : Type 0} (c : R → Content) (s : R → R) → ((x y : R) → c x ≡ c y → s x ≡ s y) → (a b : Option R) → of_record c a ≡ of_record c b
    → option_map s a ≡ option_map s b
record_told c s h None None e = refl
record_told c s h None (Some y) e = absurd (cc)
record_told c s h (Some x) None e = absurd (cc)
record_told {R} c s h (Some x) (Some y) e = let same : c x ≡ c y = cc in ap (λ (z : R). Some z) (h x y same)

pub options_told : (a b : Option Options) → of_options a ≡ of_options b → settled_options a ≡ settled_options b
unfolding unread
options_told a b e = record_told options_content written_options (λ x y k. ap (λ (c : Content). record { recs = kept c }) k) a b e
