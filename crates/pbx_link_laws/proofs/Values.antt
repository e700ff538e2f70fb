-- Values of fields of descriptor records, settled, and contents made of them.
use Rattle.std.proofs.Common.{◌≡◌, ◌∙◌, ℕ, ℤ, List, [], ◌∷◌, map, Bool, true, false, Option, None, Some, option_map, refl, ap, sym}
use Rattle.pbx_wire.specs.declared.rec.Rec.{Rec}
use Rattle.pbx_content.specs.declared.shape.FieldShape.{FieldShape}
use Rattle.pbx_content.specs.Content.{Content, content, Fields, no_fields, field, Val, text, number, message, Vals, val, many, vals_of}
use Rattle.pbx_content.specs.Records.{sorted}
use Rattle.pbx_content.specs.Same.{settled_kept, type_in, settled, settled_fields, settled_val, settled_vals}
use Rattle.pbx_content.specs.Shape.{fields_of, keeps_order_of, field_of}
use Rattle.pbx_content.proofs.Sorted.{filter-sorted}
use Rattle.pbx_desc_records.specs.declared.options.Options.{Options}
use Rattle.pbx_desc_shapes.specs.DescriptorShape.{descriptor_shape}
use Rattle.pbx_desc_encoding.specs.Content.{is_writable, writable, fields_from, record_content, of_text, of_number, of_truth, of_record, listed, of_texts, of_numbers}
use Rattle.pbx_desc_encoding.specs.Content.{of_records, options_content, of_options}
use Rattle.pbx_link_record.specs.Unknown.{unread, settled_unknown}
use Rattle.pbx_link_record.specs.Settled.{written_options, settled_options}
use Rattle.pbx_link_laws.proofs.Recs.{filter_again}
use Rattle.pbx_link_laws.proofs.Lists.{map_twice}

-- ---- values

-- a value in a field that holds messages of the type, if there is one, settled
abbrev pub settled_if : ℕ → Option Val → Option Val
settled_if t v = option_map (settled_val descriptor_shape t) v

pub text_same : (t : ℕ) (o : Option (List ℕ)) → settled_if t (of_text o) ≡ of_text o
text_same t None = refl
text_same t (Some x) = refl

pub number_same : (t : ℕ) (o : Option ℤ) → settled_if t (of_number o) ≡ of_number o
number_same t None = refl
number_same t (Some x) = refl

pub truth_same : (t : ℕ) (o : Option Bool) → settled_if t (of_truth o) ≡ of_truth o
truth_same t None = refl
truth_same t (Some x) = refl

-- the elements of a list
vals_settled : {R : Type 0} (t : ℕ) (f g : R → Val) → ((x : R) → settled_val descriptor_shape t (f x) ≡ g x) → (xs : List R)
    → settled_vals descriptor_shape t (vals_of (map f xs)) ≡ vals_of (map g xs)
vals_settled t f g e [] = refl
vals_settled t f g e (x ∷ xs) =
    ap (λ (v : Val). val v (settled_vals descriptor_shape t (vals_of (map f xs)))) (e x) ∙ ap (val (g x)) (vals_settled t f g e xs)

pub list_same : {R : Type 0} (t : ℕ) (f g : R → Val) → ((x : R) → settled_val descriptor_shape t (f x) ≡ g x) → (xs : List R)
    → settled_if t (listed (map f xs)) ≡ listed (map g xs)
list_same t f g e [] = refl
list_same t f g e (x ∷ xs) = ap (λ (vs : Vals). Some (many vs)) (vals_settled t f g e (x ∷ xs))

pub texts_same : (t : ℕ) (xs : List (List ℕ)) → settled_if t (of_texts xs) ≡ of_texts xs
texts_same t xs = list_same t text text (λ x. refl) xs

pub numbers_same : (t : ℕ) (xs : List ℤ) → settled_if t (of_numbers xs) ≡ of_numbers xs
numbers_same t xs = list_same t number number (λ x. refl) xs

-- records whose contents are settled where the records are
pub records_same : {R : Type 0} (t : ℕ) (c : R → Content) (s : R → R) → ((x : R) → settled descriptor_shape t (c x) ≡ c (s x)) → (xs : List R)
    → settled_if t (of_records c xs) ≡ of_records c (map s xs)
records_same {R} t c s e xs =
    list_same t (λ x. message (c x)) (λ x. message (c (s x))) (λ x. ap message (e x)) xs ∙ sym (ap listed (map_twice s (λ (x : R). message (c x)) xs))

pub record_same : {R : Type 0} (t : ℕ) (c : R → Content) (s : R → R) → ((x : R) → settled descriptor_shape t (c x) ≡ c (s x)) → (o : Option R)
    → settled_if t (of_record c o) ≡ of_record c (option_map s o)
record_same t c s e None = refl
record_same t c s e (Some x) = ap (λ (d : Content). Some (message d)) (e x)

-- ---- fields

-- the values of some of the fields of a type, each settled as its field says
abbrev pub settled_values : List FieldShape → List FieldShape → List (Option Val) → List (Option Val)
settled_values all [] vs = []
settled_values all (g ∷ gs) [] = []
settled_values all (g ∷ gs) (v ∷ vs) = settled_if (type_in (field_of g.number all)) v ∷ settled_values all gs vs

fields_settled : (all gs : List FieldShape) (vs : List (Option Val))
    → settled_fields descriptor_shape all (fields_from gs vs) ≡ fields_from gs (settled_values all gs vs)
fields_settled all [] vs = refl
fields_settled all (g ∷ gs) [] = refl
fields_settled all (g ∷ gs) (None ∷ vs) = fields_settled all gs vs
fields_settled all (g ∷ gs) (Some v ∷ vs) =
    ap (field g.number (settled_val descriptor_shape (type_in (field_of g.number all)) v)) (fields_settled all gs vs)

-- ---- contents

writable_settled : (gs : List FieldShape) (rs : List Rec) → writable gs (settled_unknown gs rs) ≡ sorted (writable gs rs)
unfolding settled_unknown unread
writable_settled gs rs = filter-sorted (is_writable gs) (writable gs rs) ∙ ap sorted (filter_again (is_writable gs) rs)

-- the content of a record whose unknown records are sorted
pub content_settled : (t : ℕ) (gs : List FieldShape) → fields_of descriptor_shape t ≡ gs → keeps_order_of descriptor_shape t ≡ false
    → (vs ws : List (Option Val))
    → settled_values gs gs vs ≡ ws → (rs : List Rec) → settled descriptor_shape t (record_content gs vs rs) ≡ record_content gs ws (settled_unknown gs rs)
content_settled t gs fields order vs ws e rs =
    ap (λ (all : List FieldShape). content (settled_fields descriptor_shape all (fields_from gs vs))
    (settled_kept (keeps_order_of descriptor_shape t) (writable gs rs))) fields
    ∙ ap (λ (b : Bool). content (settled_fields descriptor_shape gs (fields_from gs vs)) (settled_kept b (writable gs rs))) order
    ∙ ap (λ (fs : Fields). content fs (sorted (writable gs rs))) (fields_settled gs gs vs ∙ ap (fields_from gs) e)
    ∙ ap (content (fields_from gs ws)) (sym (writable_settled gs rs))

-- options, whose records keep their order
options_settled : (t : ℕ) → keeps_order_of descriptor_shape t ≡ true → (o : Options)
    → settled descriptor_shape t (options_content o) ≡ options_content (written_options o)
unfolding unread
options_settled t order o =
    ap (λ (b : Bool). content no_fields (settled_kept b (writable [] o.recs))) order ∙ ap (content no_fields) (sym (filter_again (is_writable []) o.recs))

pub options_same : (t : ℕ) → keeps_order_of descriptor_shape t ≡ true → (o : Option Options) → settled_if t (of_options o) ≡ of_options (settled_options o)
options_same t order None = refl
options_same t order (Some o) = ap (λ (c : Content). Some (message c)) (options_settled t order o)
