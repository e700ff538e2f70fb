-- Values that are taken out, and lists of them, one by one.
use Rattle.std.proofs.Common.{◌≡◌, ℕ, Bool, true, List, [], ◌∷◌, ◌++◌, map, Option, Some, None, option_map, refl, sym, ap, ◌∙◌, subst}
use Rattle.std.specs.Prelude.{Result, Ok, Err, IfOk}
use Rattle.std.proofs.lemmas.List.{map-append}
use Rattle.pbx_wire.specs.Text.{all_true}
use Rattle.pbx_wire.proofs.Written.{all_true-append}
use Rattle.pbx_content.specs.declared.shape.Cardinality.{Cardinality}
use Rattle.pbx_content.specs.declared.shape.Cardinality.TheVariants.{Singular, Repeated}
use Rattle.pbx_content.specs.declared.shape.Kind.{Kind}
use Rattle.pbx_content.specs.declared.shape.Kind.TheVariants as kind
use Rattle.pbx_content.specs.Content.{Content, fields, get, without, with_fields, Val, message, many, vals_of}
use Rattle.pbx_content_codec.specs.declared.contents.Held.{Held}
use Rattle.pbx_content_codec.specs.declared.contents.Held as held
use Rattle.pbx_content_codec.specs.declared.contents.Contents.{Contents}
use Rattle.pbx_content_codec.specs.View.{content_of, val_of}
use Rattle.pbx_desc_shapes.specs.DescriptorShape.{descriptor_shape}
use Rattle.pbx_content.specs.Sound.{IsSound}
use Rattle.pbx_desc_encoding.specs.Content.{listed}
use Rattle.pbx_desc_encoding.specs.Sound.{IsOf, AreOf, MayBe}
use Rattle.pbx_desc_encoding.proofs.Told.{val_of-Many}
use Rattle.pbx_desc.specs.Exact.{are_exact}
use Rattle.pbx_desc.specs.Taking.{Takes, TakesList}

-- ---- one value

-- what is left where the value of the number is taken out
abbrev pub IsRest : ℕ → Content → Content → Type 0
IsRest n old new = new ≡ with_fields old (without n (fields old))

pub took_none : (c : Cardinality) (k : Kind) (n : ℕ) (old new : Content) → None ≡ get n (fields old) → IsRest n old new → Takes c k n None true old new
took_none c k n old new e rest = record { value = λ may. e; exact = λ may. refl; rest = rest }

-- this is the value, and the answer is yes
abbrev pub IsAnswered : Option Val → Val → Bool → Type 0
IsAnswered v w x = (v ≡ Some w) × (x ≡ true)

pub took_some : (k : Kind) (n : ℕ) (h : Held) (v : Option Val) (x : Bool) (old new : Content) → Some (val_of h) ≡ get n (fields old) → (IsOf descriptor_shape k (val_of h) → IsAnswered v (val_of h) x) → IsRest n old new
    → Takes Singular k n v x old new
took_some k n h v x old new e is rest = record {
  value = λ may. (is (subst (MayBe descriptor_shape Singular k) (sym e) may)).0 ∙ e;
  exact = λ may. (is (subst (MayBe descriptor_shape Singular k) (sym e) may)).1;
  rest = rest;
}

-- the record of a message that is taken out
pub message_is : {R : Type 0} (t : ℕ) (f : R → Content) (x : R → Bool) (h : Held) (c : Contents) (r : R) → (IsOf descriptor_shape (kind.Message t) (val_of h) → val_of h ≡ message (content_of c))
    → (IsSound descriptor_shape t (content_of c) → (f r ≡ content_of c) × (x r ≡ true)) → IsOf descriptor_shape (kind.Message t) (val_of h) → (message (f r) ≡ val_of h) × (x r ≡ true)
message_is t f x h c r is made own =
    let e = is own in
    let both = made (subst (IsOf descriptor_shape (kind.Message t)) e own) in
    (ap message both.0 ∙ sym e, both.1)

-- the record of the one message
pub message_some : {R : Type 0} (t : ℕ) (f : R → Content) (x : R → Bool) (h : Held) (c : Contents) (r : R) → (IsOf descriptor_shape (kind.Message t) (val_of h) → val_of h ≡ message (content_of c))
    → (IsSound descriptor_shape t (content_of c) → (f r ≡ content_of c) × (x r ≡ true)) → IsOf descriptor_shape (kind.Message t) (val_of h) → IsAnswered (Some (message (f r))) (val_of h) (x r)
message_some t f x h c r is made own = let both = message_is t f x h c r is made own in (ap Some both.0, both.1)

-- ---- a list

pub vals_same : (vs ws : List Val) → vals_of vs ≡ vals_of ws → vs ≡ ws
vals_same [] [] e = refl
vals_same [] (w ∷ ws) e = absurd cc
vals_same (v ∷ vs) [] e = absurd cc
vals_same (v ∷ vs) (w ∷ ws) e =
    let rest : vals_of vs ≡ vals_of ws = cc in
    let first : v ≡ w = cc in
    rw (first, vals_same vs ws rest) refl

many_same : (vs ws : List Val) → Some (many (vals_of vs)) ≡ listed ws → vs ≡ ws
many_same vs [] e = absurd cc
many_same vs (w ∷ ws) e = vals_same vs (w ∷ ws) (let is : vals_of vs ≡ vals_of (w ∷ ws) = cc in is)

many_is : (k : Kind) (vs ws : List Val) → Some (many (vals_of vs)) ≡ listed ws → AreOf descriptor_shape k ws → (listed vs ≡ Some (many (vals_of vs))) × AreOf descriptor_shape k vs
many_is k vs ws e all = let same = many_same vs ws e in (ap listed same ∙ sym e, subst (AreOf descriptor_shape k) (sym same) all)

-- the values of a list that is taken out
pub values_many : (k : Kind) (h : Held) (hs : List Held) → h ≡ held.Many hs → MayBe descriptor_shape Repeated k (Some (val_of h))
    → (listed (map val_of hs) ≡ Some (val_of h)) × AreOf descriptor_shape k (map val_of hs)
values_many k h hs is may =
    let e : val_of h ≡ many (vals_of (map val_of hs)) = ap val_of is ∙ val_of-Many hs in
    let own = many_is k (map val_of hs) may.0 (ap Some (sym e) ∙ may.1) may.2 in
    (own.0 ∙ ap Some (sym e), own.1)

pub took_values : (k : Kind) (n : ℕ) (h : Held) (vs : List Val) (old new : Content) → Some (val_of h) ≡ get n (fields old)
    → (MayBe descriptor_shape Repeated k (Some (val_of h)) → (listed vs ≡ Some (val_of h)) × AreOf descriptor_shape k vs) → IsRest n old new → TakesList k n vs old new
took_values k n h vs old new e is rest = record {
  value = λ may. let own = is (subst (MayBe descriptor_shape Repeated k) (sym e) may) in (own.0 ∙ e, own.1);
  rest = rest;
}

pub took_nothing : (k : Kind) (n : ℕ) (old new : Content) → None ≡ get n (fields old) → IsRest n old new → TakesList k n [] old new
took_nothing k n old new e rest = record { value = λ may. (e, tt); rest = rest }

-- the values of a list as others than trees
pub took_list : {X E : Type 0} (k : Kind) (n : ℕ) (g : X → List Val) (vs : List Val) (old new : Content) (r : Result X E) → TakesList k n vs old new → IfOk r (λ x. AreOf descriptor_shape k vs → g x ≡ vs)
    → IfOk r (λ x. Takes Repeated k n (listed (g x)) true old new)
took_list k n g vs old new (Ok x) taken is = record { value = λ may. let own = taken.value may in ap listed (is own.1) ∙ own.0; exact = λ may. refl; rest = taken.rest }
took_list k n g vs old new (Err e) taken is = tt

-- the records of a list of messages
pub took_records : {R E : Type 0} (k : Kind) (n : ℕ) (f : R → Content) (x : R → Bool) (vs : List Val) (old new : Content) (r : Result (List R) E) → TakesList k n vs old new
    → IfOk r (λ rs. AreOf descriptor_shape k vs → (map (λ r. message (f r)) rs ≡ vs) × (are_exact x rs ≡ true))
    → IfOk r (λ rs. Takes Repeated k n (listed (map (λ r. message (f r)) rs)) (are_exact x rs) old new)
took_records k n f x vs old new (Ok rs) taken is = record {
  value = λ may. let own = taken.value may in ap listed (is own.1).0 ∙ own.0;
  exact = λ may. (is (taken.value may).1).1;
  rest = taken.rest;
}
took_records k n f x vs old new (Err e) taken is = tt

-- ---- one value more

are_split : (k : Kind) (vs : List Val) (v : Val) → AreOf descriptor_shape k (vs ++ v ∷ []) → AreOf descriptor_shape k vs × IsOf descriptor_shape k v
are_split k [] v h = (tt, h.0)
are_split k (w ∷ vs) v h = let rest = are_split k vs v h.1 in ((h.0, rest.0), rest.1)

-- these are the values of the trees, where those are of the kind
abbrev pub AreValues : {X : Type 0} → Kind → (X → Val) → List Held → List X → Type 0
AreValues k g hs xs = AreOf descriptor_shape k (map val_of hs) → map g xs ≡ map val_of hs

pub value_more : {X : Type 0} (k : Kind) (g : X → Val) (hs : List Held) (h : Held) (xs : List X) (x : X) → AreValues k g hs xs → (IsOf descriptor_shape k (val_of h) → g x ≡ val_of h)
    → AreValues k g (hs ++ h ∷ []) (xs ++ x ∷ [])
value_more k g hs h xs x before here all =
    let parts = are_split k (map val_of hs) (val_of h) (subst (AreOf descriptor_shape k) (map-append val_of hs (h ∷ [])) all) in
    map-append g xs (x ∷ []) ∙ rw (before parts.0, here parts.1) (sym (map-append val_of hs (h ∷ [])))

some_same : (v w : Val) → Some v ≡ Some w → v ≡ w
some_same v w e = cc

pub option_more : {X : Type 0} (k : Kind) (g : X → Val) (hs : List Held) (h : Held) (xs : List X) (x : X) → AreValues k g hs xs → (IsOf descriptor_shape k (val_of h) → option_map g (Some x) ≡ Some (val_of h))
    → AreValues k g (hs ++ h ∷ []) (xs ++ x ∷ [])
option_more k g hs h xs x before here = value_more k g hs h xs x before (λ own. some_same (g x) (val_of h) (here own))

pub nothing_more : {X : Type 0} (k : Kind) (g : X → Val) (hs : List Held) (h : Held) (xs : List X) (o : Option X) → o ≡ None → (IsOf descriptor_shape k (val_of h) → option_map g o ≡ Some (val_of h)) → AreValues k g (hs ++ h ∷ []) xs
nothing_more k g hs h xs o none here all =
    let parts = are_split k (map val_of hs) (val_of h) (subst (AreOf descriptor_shape k) (map-append val_of hs (h ∷ [])) all) in
    absurd (let bad : option_map g o ≡ Some (val_of h) = here parts.1 in let same : option_map g o ≡ None = ap (option_map g) none in cc)

-- ---- one record more

-- these are the records of the trees, and exact, where those are of the kind
abbrev pub AreRecords : {R : Type 0} → Kind → (R → Content) → (R → Bool) → List Held → List R → Type 0
AreRecords k f x hs rs = AreOf descriptor_shape k (map val_of hs) → (map (λ r. message (f r)) rs ≡ map val_of hs) × (are_exact x rs ≡ true)

pub record_more : {R : Type 0} (k : Kind) (f : R → Content) (x : R → Bool) (hs : List Held) (h : Held) (rs : List R) (r : R) → AreRecords k f x hs rs
    → (IsOf descriptor_shape k (val_of h) → (message (f r) ≡ val_of h) × (x r ≡ true)) → AreRecords k f x (hs ++ h ∷ []) (rs ++ r ∷ [])
record_more k f x hs h rs r before here all =
    let parts = are_split k (map val_of hs) (val_of h) (subst (AreOf descriptor_shape k) (map-append val_of hs (h ∷ [])) all) in
    let old = before parts.0 in
    let new = here parts.1 in
    let last : all_true (x r ∷ []) ≡ true = rw new.1 refl in
    (map-append (λ r. message (f r)) rs (r ∷ []) ∙ rw (old.0, new.0) (sym (map-append val_of hs (h ∷ []))), ap all_true (map-append x rs (r ∷ [])) ∙ all_true-append (map x rs) (x r ∷ []) old.1 last)
