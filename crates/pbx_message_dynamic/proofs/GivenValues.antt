-- Values that are given one after another.
use Rattle.std.proofs.Common.{◌≡◌, ℕ, zero, suc, ◌+◌, ◌<◌, ◌≤◌, List, [], ◌∷◌, ◌++◌, length, take, get_or, map, refl, sym, ap, ◌∙◌, subst, rules, arith}
use Rattle.std.specs.List.{AllByRecursion}
use Rattle.std.proofs.lemmas.List.{map-append, map_more, take_all}
use Rattle.pbx_content.specs.declared.shape.Kind.{Kind}
use Rattle.pbx_content.specs.Content.{Val, many, vals_of}
use Rattle.pbx_content_codec.specs.declared.contents.Held.{Held}
use Rattle.pbx_content_codec.specs.View.{val_of}
use Rattle.pbx_desc_records.specs.declared.file.FileDescriptorProto.{FileDescriptorProto}
use Rattle.pbx_message_dynamic.specs.declared.value.Value.{Value, out-Value, the_lemmas}
use Rattle.pbx_message_dynamic.specs.declared.value.Value as value
use Rattle.pbx_message_dynamic.specs.declared.value.Value.TheOpen.{Value-F}
use Rattle.pbx_message_dynamic.specs.Given.{IsGiven, IsGivenList}
use Rattle.pbx_message_dynamic.proofs.Items.{ones_more}
use Rattle.pbx_message_dynamic.specs.Values.{val_of_value, AreOfKind, IsListOfKind}

-- the values stand for the first so many
pub record AreGiven (pool : List FileDescriptorProto) (k : Kind) (hs : List Held) (n : ℕ) (vs : List Value) : Type 0 where
  pub same : map val_of_value vs ≡ map val_of (take n hs)
  pub ones : AreOfKind pool k vs

pub none_given : (pool : List FileDescriptorProto) (k : Kind) (hs : List Held) → AreGiven pool k hs 0 []
none_given pool k hs = record { same = refl; ones = tt }

pub given_more : (pool : List FileDescriptorProto) (k : Kind) (hs : List Held) (n : ℕ) (vs : List Value) (h : Held) (v : Value) → n < length hs → h ≡ get_or hs n h
    → AreGiven pool k hs n vs → IsGiven pool k (val_of h) v → AreGiven pool k hs (n + 1) (vs ++ v ∷ [])
given_more pool k hs n vs h v lt e a is =
    record {
      same = map-append val_of_value vs (v ∷ []) ∙ ap (λ (xs : List Val). xs ++ val_of_value v ∷ []) a.same
          ∙ ap (λ (x : Val). map val_of (take n hs) ++ x ∷ []) (is.same ∙ ap val_of e) ∙ sym (map_more val_of hs n h lt);
      ones = ones_more pool k vs v a.ones is.one;
    }

pub one_sound : (P : Val → Type 0) (hs : List Held) (n : ℕ) (h : Held) → n < length hs → h ≡ get_or hs n h → AllByRecursion P (map val_of hs) → P (val_of h)
one_sound P [] n h lt e a = absurd (omega arith)
one_sound P (x ∷ hs) zero h lt e a = subst (λ (y : Held). P (val_of y)) (sym e) a.0
one_sound P (x ∷ hs) (suc n) h lt e a = one_sound P hs n h (omega arith) e a.1

out-List : (vs : List Value) → out-Value (value.List vs) ≡ Value-F.List vs
out-List vs = search (rules, the_lemmas)

val-List : (vs : List Value) → val_of_value (value.List vs) ≡ many (vals_of (map val_of_value vs))
val-List vs = search (rules, the_lemmas)

pub all_given : (pool : List FileDescriptorProto) (k : Kind) (hs : List Held) (n : ℕ) (vs : List Value) → length hs ≤ n → AreGiven pool k hs n vs
    → IsGivenList pool k (map val_of hs) (value.List vs)
all_given pool k hs n vs le a = record {
  same = val-List vs ∙ ap (λ (ws : List Val). many (vals_of ws)) (a.same ∙ ap (map val_of) (take_all n hs le));
  list = subst (λ (x : Value-F Value). IsListOfKind pool k x) (sym (out-List vs)) a.ones;
}
