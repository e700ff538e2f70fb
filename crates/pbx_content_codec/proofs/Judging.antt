-- Records mean a value behind what a field has exactly where they do behind nothing.
use Rattle.std.proofs.Common.{◌≡◌, ℕ, zero, suc, Bool, true, false, if◌then◌else◌, List, [], ◌∷◌, Option, Some, None, option_map, refl, sym, ap, ◌∙◌}
use Rattle.std.specs.Prelude.{option_and_then}
use Rattle.std.specs.Option.{is_some}
use Rattle.pbx_wire.specs.declared.rec.Rec.{Rec}
use Rattle.pbx_content.specs.declared.shape.Cardinality.{Cardinality}
use Rattle.pbx_content.specs.declared.shape.Cardinality.TheVariants.{Singular, Repeated, Map}
use Rattle.pbx_content.specs.declared.shape.Shape.{Shape}
use Rattle.pbx_content.specs.declared.shape.FieldShape.{FieldShape}
use Rattle.pbx_content.specs.Content.{Content, empty, Val}
use Rattle.pbx_content.specs.Records.{bytes_of, each, last_of}
use Rattle.pbx_content.specs.Shape.{fields_of, is_float}
use Rattle.pbx_content.specs.Meaning.{no_inner, alone, spread, shown, joined, singular, entry_in, by_cardinality, value, records_of}
use Rattle.pbx_content.specs.Onto.{message_held, InnerOnto, from_empty, joined_onto, singular_onto, onto_by_cardinality, value_onto, meaning_onto}
use Rattle.pbx_content.proofs.OntoSplits.{there_map, is_plain, no_plain, plain_singular}
use Rattle.pbx_content.proofs.OntoLaw.{plain_onto, onto_at, judges_new, Judges}

alike_there : {A B : Type 0} (a : Option A) (b : Option B) → (a ≡ None → b ≡ None) → (b ≡ None → a ≡ None) → is_some a ≡ is_some b
alike_there None None f g = refl
alike_there None (Some y) f g = absurd (let bad : Some y ≡ None = f refl in cc)
alike_there (Some x) None f g = absurd (let bad : Some x ≡ None = g refl in cc)
alike_there (Some x) (Some y) f g = refl

pub judges_at : (shape : Shape) (levels : ℕ) → Judges (onto_at shape levels)
unfolding onto_at
judges_at shape zero = record { judges = λ gs c bs. refl }
judges_at shape (suc l) = record { judges = λ gs c bs. by gs c (records_of l bs) }
  where
    by : (gs : List FieldShape) (c : Content) (o : Option (List Rec))
        → is_some (option_and_then (meaning_onto shape l gs c) o) ≡ is_some (option_and_then (meaning_onto shape l gs empty) o)
    by gs c None = refl
    by gs c (Some rs) =
        let a = judges_new shape l gs c rs in
        let b = judges_new shape l gs empty rs in
        alike_there (meaning_onto shape l gs c rs) (meaning_onto shape l gs empty rs) (λ e. b.1 (a.0 e)) (λ e. a.1 (b.0 e))

maps_judge : {A B C : Type 0} (g : A → B) (h : A → C) (o : Option A) → is_some (option_map g o) ≡ is_some (option_map h o)
maps_judge g h None = refl
maps_judge g h (Some x) = refl

joined_judges : (inner : InnerOnto) → Judges inner → (gs : List FieldShape) (old : Option Val) (bs : List (List ℕ))
    → is_some (joined_onto inner gs old bs) ≡ is_some (joined (from_empty inner) gs bs)
joined_judges inner j gs old [] = refl
joined_judges inner j gs old (b ∷ bs) =
    there_map _ (inner gs (message_held old) (b ∷ bs)) ∙ j.judges gs (message_held old) (b ∷ bs) ∙ sym (there_map _ (inner gs empty (b ∷ bs)))

singular_judges : (shape : Shape) (inner : InnerOnto) → Judges inner → (f : FieldShape) (old : Option Val) (rs : List Rec)
    → is_some (singular_onto shape inner f f.kind old rs) ≡ is_some (singular shape (from_empty inner) f.presence f.kind rs)
singular_judges shape inner j f old rs = at (is_plain f.kind) refl
  where
    messages : (t : ℕ) (o : Option (List (List ℕ)))
        → is_some (option_and_then (joined_onto inner (fields_of shape t) old) o)
        ≡ is_some (option_and_then (joined (from_empty inner) (fields_of shape t)) o)
    messages t None = refl
    messages t (Some bs) = joined_judges inner j (fields_of shape t) old bs

    at : (b : Bool) → is_plain f.kind ≡ b
        → is_some (singular_onto shape inner f f.kind old rs) ≡ is_some (singular shape (from_empty inner) f.presence f.kind rs)
    at true e =
        ap is_some (plain_onto shape inner f f.kind old rs e)
        ∙ maps_judge _ (λ vs. shown shape f.presence f.kind (last_of vs)) (each (alone shape no_inner f.kind) rs)
        ∙ ap is_some (sym (plain_singular shape (from_empty inner) f.presence f.kind rs e))
    at false e = let m = no_plain f.kind e in rw m.1 (messages m.0 (each bytes_of rs))

cardinality_judges : (shape : Shape) (inner : InnerOnto) → Judges inner → (f : FieldShape) (c : Cardinality) (old : Option Val) (rs : List Rec)
    → is_some (onto_by_cardinality shape inner f c old rs) ≡ is_some (by_cardinality shape (from_empty inner) f c rs)
cardinality_judges shape inner j f Singular old rs = singular_judges shape inner j f old rs
cardinality_judges shape inner j f Repeated old rs = maps_judge _ _ (each (spread shape (from_empty inner) f.kind) rs)
cardinality_judges shape inner j f (Map key) old rs = maps_judge _ _ (each (entry_in (from_empty inner) key f.kind) rs)

pub value_judges : (shape : Shape) (inner : InnerOnto) → Judges inner → (f : FieldShape) (old : Option Val) (rs : List Rec)
    → is_some (value_onto shape inner f old rs) ≡ is_some (value shape (from_empty inner) f rs)
value_judges shape inner j f old rs = at (is_float f.kind)
  where
    at : (b : Bool)
        → is_some (if b then Some None else onto_by_cardinality shape inner f f.cardinality old rs)
        ≡ is_some (if b then Some None else by_cardinality shape (from_empty inner) f f.cardinality rs)
    at true = refl
    at false = cardinality_judges shape inner j f f.cardinality old rs

-- no records, no value
pub value_none : (shape : Shape) (inner : InnerOnto) (f : FieldShape) → value shape (from_empty inner) f [] ≡ Some None
value_none shape inner f = at (is_float f.kind)
  where
    single : (b : Bool) → is_plain f.kind ≡ b → singular shape (from_empty inner) f.presence f.kind [] ≡ Some None
    single true e = plain_singular shape (from_empty inner) f.presence f.kind [] e
    single false e = let m = no_plain f.kind e in rw m.1 refl

    by : (c : Cardinality) → by_cardinality shape (from_empty inner) f c [] ≡ Some None
    by Singular = single (is_plain f.kind) refl
    by Repeated = refl
    by (Map key) = refl

    at : (b : Bool) → (if b then Some None else by_cardinality shape (from_empty inner) f f.cardinality []) ≡ Some None
    at true = refl
    at false = by f.cardinality
