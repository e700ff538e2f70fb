-- A content as a list of marks, from which a stack gives it back: what a model's `Value` asks of its type.
use Rattle.std.specs.Prelude.{◌≡◌, ◌⊎◌, ℕ, ℤ, Bool, true, false, List, [], ◌∷◌, refl}
use Rattle.std.specs.Coded.{Coded, code_by, coded×, coded_ℕ, coded_ℤ, coded_bool, coded_list, coded⊎}
use Rattle.std.proofs.Common.{◌∙◌, ap, inl, inr}
use Rattle.pbx_wire.specs.declared.rec.Rec.{Rec}
use Rattle.pbx_wire.specs.contracts.rec.Rec as rec_type
use Rattle.pbx_content.specs.Content.{Key, truth_key, number_key, text_key, Content, content, Fields, no_fields, field, Val, number, truth, text}
use Rattle.pbx_content.specs.Content.{octets, message, many, keyed, Vals, no_vals, val, Pairs, no_pairs, pair}

-- ---- keys

-- a key as one of its sorts
abbrev key_parts : Key → Bool ⊎ (ℤ ⊎ List ℕ)
key_parts (truth_key b) = inl b
key_parts (number_key z) = inr (inl z)
key_parts (text_key s) = inr (inr s)

abbrev key_from : Bool ⊎ (ℤ ⊎ List ℕ) → Key
key_from (inl b) = truth_key b
key_from (inr (inl z)) = number_key z
key_from (inr (inr s)) = text_key s

pub key-from-parts : (k : Key) → key_from (key_parts k) ≡ k
key-from-parts (truth_key b) = refl
key-from-parts (number_key z) = refl
key-from-parts (text_key s) = refl

abbrev pub key_code : Coded Key
key_code = code_by (Bool ⊎ (ℤ ⊎ List ℕ)) (coded⊎ coded_bool (coded⊎ coded_ℤ (coded_list coded_ℕ))) key_parts key_from key-from-parts

-- ---- contents

pub data Mark : Type 0 where
  a_number : ℤ → Mark
  a_truth : Bool → Mark
  a_text : List ℕ → Mark
  some_octets : List ℕ → Mark
  a_message : Mark
  a_many : Mark
  a_map : Mark
  end_vals : Mark
  more_vals : Mark
  end_pairs : Mark
  more_pairs : Key → Mark
  end_fields : Mark
  more_fields : ℕ → Mark
  a_content : List Rec → Mark

-- what stands on the stack
pub data Part : Type 0 where
  of_val : Val → Part
  of_vals : Vals → Part
  of_pairs : Pairs → Part
  of_fields : Fields → Part
  of_content : Content → Part

abbrev mutual
  content_marks : Content → List Mark → List Mark
  content_marks (content fs kept) rest = fields_marks fs (a_content kept ∷ rest)

  fields_marks : Fields → List Mark → List Mark
  fields_marks no_fields rest = end_fields ∷ rest
  fields_marks (field n v fs) rest = val_marks v (fields_marks fs (more_fields n ∷ rest))

  val_marks : Val → List Mark → List Mark
  val_marks (number z) rest = a_number z ∷ rest
  val_marks (truth b) rest = a_truth b ∷ rest
  val_marks (text s) rest = a_text s ∷ rest
  val_marks (octets b) rest = some_octets b ∷ rest
  val_marks (message c) rest = content_marks c (a_message ∷ rest)
  val_marks (many vs) rest = vals_marks vs (a_many ∷ rest)
  val_marks (keyed ps) rest = pairs_marks ps (a_map ∷ rest)

  vals_marks : Vals → List Mark → List Mark
  vals_marks no_vals rest = end_vals ∷ rest
  vals_marks (val v vs) rest = val_marks v (vals_marks vs (more_vals ∷ rest))

  pairs_marks : Pairs → List Mark → List Mark
  pairs_marks no_pairs rest = end_pairs ∷ rest
  pairs_marks (pair k v ps) rest = val_marks v (pairs_marks ps (more_pairs k ∷ rest))

abbrev step : Mark → List Part → List Part
step (a_number z) s = of_val (number z) ∷ s
step (a_truth b) s = of_val (truth b) ∷ s
step (a_text t) s = of_val (text t) ∷ s
step (some_octets b) s = of_val (octets b) ∷ s
step a_message (of_content c ∷ s) = of_val (message c) ∷ s
step a_many (of_vals vs ∷ s) = of_val (many vs) ∷ s
step a_map (of_pairs ps ∷ s) = of_val (keyed ps) ∷ s
step end_vals s = of_vals no_vals ∷ s
step more_vals (of_vals vs ∷ (of_val v ∷ s)) = of_vals (val v vs) ∷ s
step end_pairs s = of_pairs no_pairs ∷ s
step (more_pairs k) (of_pairs ps ∷ (of_val v ∷ s)) = of_pairs (pair k v ps) ∷ s
step end_fields s = of_fields no_fields ∷ s
step (more_fields n) (of_fields fs ∷ (of_val v ∷ s)) = of_fields (field n v fs) ∷ s
step (a_content kept) (of_fields fs ∷ s) = of_content (content fs kept) ∷ s
step _ s = s

abbrev run : List Mark → List Part → List Part
run [] s = s
run (m ∷ ms) s = run ms (step m s)

mutual
  pub run-content : (c : Content) (rest : List Mark) (s : List Part) → run (content_marks c rest) s ≡ run rest (of_content c ∷ s)
  run-content (content fs kept) rest s = run-fields fs (a_content kept ∷ rest) s

  run-fields : (fs : Fields) (rest : List Mark) (s : List Part) → run (fields_marks fs rest) s ≡ run rest (of_fields fs ∷ s)
  run-fields no_fields rest s = refl
  run-fields (field n v fs) rest s = run-val v (fields_marks fs (more_fields n ∷ rest)) s ∙ run-fields fs (more_fields n ∷ rest) (of_val v ∷ s)

  run-val : (v : Val) (rest : List Mark) (s : List Part) → run (val_marks v rest) s ≡ run rest (of_val v ∷ s)
  run-val (number z) rest s = refl
  run-val (truth b) rest s = refl
  run-val (text t) rest s = refl
  run-val (octets b) rest s = refl
  run-val (message c) rest s = run-content c (a_message ∷ rest) s
  run-val (many vs) rest s = run-vals vs (a_many ∷ rest) s
  run-val (keyed ps) rest s = run-pairs ps (a_map ∷ rest) s

  run-vals : (vs : Vals) (rest : List Mark) (s : List Part) → run (vals_marks vs rest) s ≡ run rest (of_vals vs ∷ s)
  run-vals no_vals rest s = refl
  run-vals (val v vs) rest s = run-val v (vals_marks vs (more_vals ∷ rest)) s ∙ run-vals vs (more_vals ∷ rest) (of_val v ∷ s)

  run-pairs : (ps : Pairs) (rest : List Mark) (s : List Part) → run (pairs_marks ps rest) s ≡ run rest (of_pairs ps ∷ s)
  run-pairs no_pairs rest s = refl
  run-pairs (pair k v ps) rest s = run-val v (pairs_marks ps (more_pairs k ∷ rest)) s ∙ run-pairs ps (more_pairs k ∷ rest) (of_val v ∷ s)

abbrev first : List Part → Content
first (of_content c ∷ s) = c
first _ = content no_fields []

-- a mark as a choice among its parts; those without parts are told by three truth values
abbrev Plain : Type 0
Plain = Bool × (Bool × Bool)

abbrev Parts : Type 0
Parts = (ℤ ⊎ Bool) ⊎ ((List ℕ ⊎ (List ℕ ⊎ ℕ)) ⊎ (Key ⊎ (List Rec ⊎ Plain)))

abbrev split : Mark → Parts
split (a_number z) = inl (inl z)
split (a_truth b) = inl (inr b)
split (a_text t) = inr (inl (inl t))
split (some_octets b) = inr (inl (inr (inl b)))
split (more_fields n) = inr (inl (inr (inr n)))
split (more_pairs k) = inr (inr (inl k))
split (a_content kept) = inr (inr (inr (inl kept)))
split a_message = inr (inr (inr (inr (true, (true, true)))))
split a_many = inr (inr (inr (inr (true, (true, false)))))
split end_vals = inr (inr (inr (inr (true, (false, true)))))
split more_vals = inr (inr (inr (inr (true, (false, false)))))
split end_fields = inr (inr (inr (inr (false, (true, true)))))
split a_map = inr (inr (inr (inr (false, (true, false)))))
split end_pairs = inr (inr (inr (inr (false, (false, true)))))

abbrev join : Parts → Mark
join (inl (inl z)) = a_number z
join (inl (inr b)) = a_truth b
join (inr (inl (inl t))) = a_text t
join (inr (inl (inr (inl b)))) = some_octets b
join (inr (inl (inr (inr n)))) = more_fields n
join (inr (inr (inl k))) = more_pairs k
join (inr (inr (inr (inl kept)))) = a_content kept
join (inr (inr (inr (inr (true, (true, true)))))) = a_message
join (inr (inr (inr (inr (true, (true, false)))))) = a_many
join (inr (inr (inr (inr (true, (false, true)))))) = end_vals
join (inr (inr (inr (inr (true, (false, false)))))) = more_vals
join (inr (inr (inr (inr (false, (true, true)))))) = end_fields
join (inr (inr (inr (inr (false, (true, false)))))) = a_map
join (inr (inr (inr (inr (false, (false, _)))))) = end_pairs

pub join-split : (m : Mark) → join (split m) ≡ m
join-split (a_number z) = refl
join-split (a_truth b) = refl
join-split (a_text t) = refl
join-split (some_octets b) = refl
join-split (more_fields n) = refl
join-split (more_pairs k) = refl
join-split (a_content kept) = refl
join-split a_message = refl
join-split a_many = refl
join-split end_vals = refl
join-split more_vals = refl
join-split end_fields = refl
join-split a_map = refl
join-split end_pairs = refl

-- the code of those parts
abbrev parts_code : Coded Parts
parts_code =
    coded⊎
    (coded⊎ coded_ℤ coded_bool)
    (coded⊎
    (coded⊎ (coded_list coded_ℕ) (coded⊎ (coded_list coded_ℕ) coded_ℕ))
    (coded⊎ key_code (coded⊎ (coded_list rec_type.the_row.coded) (coded× coded_bool (coded× coded_bool coded_bool)))))

abbrev mark_code : Coded Mark
mark_code = code_by Parts parts_code split join join-split

-- the code of contents, which a model whose value holds one names
abbrev pub content_code : Coded Content
content_code = code_by (List Mark) (coded_list mark_code) (λ c. content_marks c []) (λ ms. first (run ms [])) (λ c. ap first (run-content c [] []))
