-- No full name is defined twice in a pool.
use Rattle.std.proofs.Common.{◌≡◌, ◌∙◌, ℕ, ◌||◌, List, [], ◌∷◌, ◌++◌, map, Bool, true, false, refl, ap, sym}
use Rattle.std.specs.Prelude.{reverse, if◌then◌else◌}
use Rattle.std.specs.List.{list_any, flat_map}
use Rattle.std.specs.Str.{bytes_eq}
use Rattle.std.proofs.lemmas.Grind.{flat_map-append}
use Rattle.std.proofs.lemmas.List.{append_assoc, append-nil, reverse-append}
use Rattle.std.proofs.lemmas.Slice.Eq.{bytes_eq-Decides}
use Rattle.pbx_desc_records.specs.declared.file.FileDescriptorProto.{FileDescriptorProto}
use Rattle.pbx_link_definitions.specs.Names.{among}
use Rattle.pbx_link_definitions.specs.Definitions.{Defined, full_name, definitions}
use Rattle.pbx_link_definitions.specs.Places.{repeated}
use Rattle.pbx_link_scope.specs.Scope.{visible}
use Rattle.pbx_link_scope.specs.Pooled.{like_named}
use Rattle.pbx_link_record.proofs.FileDefines.{linked_record_defines}
use Rattle.pbx_link_rules.specs.Pool.{IsLinked, ArePooled}
use Rattle.pbx_link_rules.specs.PoolLaws.{PooledAreDistinct}
use Rattle.pbx_link_rules.proofs.Lists.{no_other, or_right, reversed, any_reversed, none_repeated}
use Rattle.pbx_link_rules.proofs.Kept.{not_pooled, once}

-- ---- repeated items of joined lists

repeated_joined : {X : Type 0} (like : X → X → Bool) (before xs ys : List X) → repeated like before xs ≡ [] → repeated like (reverse xs ++ before) ys ≡ []
    → repeated like before (xs ++ ys) ≡ []
unfolding repeated
repeated_joined like before [] ys h g = g
repeated_joined {X} like before (x ∷ xs) ys h g = at (list_any (like x) before) h (repeated_joined like (x ∷ before) xs ys)
  where
    at : (b : Bool) → (if b then x ∷ [] else []) ++ repeated like (x ∷ before) xs ≡ []
        → (repeated like (x ∷ before) xs ≡ [] → repeated like (reverse xs ++ x ∷ before) ys ≡ [] → repeated like (x ∷ before) (xs ++ ys) ≡ [])
        → (if b then x ∷ [] else []) ++ repeated like (x ∷ before) (xs ++ ys) ≡ []
    at true e ih = absurd (cc)
    at false e ih =
        ih e (ap (λ (zs : List X). repeated like zs ys) (sym (ap (λ (zs : List X). zs ++ before) (reversed x xs) ∙ append_assoc (reverse xs) (x ∷ []) before))
        ∙ g)

-- ---- names of definitions

even : (a b : List ℕ) → bytes_eq a b ≡ bytes_eq b a
even a b = at (bytes_eq a b) (bytes_eq b a) refl refl
  where
    at : (s t : Bool) → bytes_eq a b ≡ s → bytes_eq b a ≡ t → s ≡ t
    at true true p q = refl
    at false false p q = refl
    at true false p q = absurd (let yes = (bytes_eq-Decides b a).1 (sym ((bytes_eq-Decides a b).0 p)) in cc)
    at false true p q = absurd (let yes = (bytes_eq-Decides a b).1 (sym ((bytes_eq-Decides b a).0 q)) in cc)

like_is_among : (d : Defined) (es : List Defined) → list_any (like_named d) es ≡ among (map full_name es) (full_name d)
like_is_among d [] = refl
like_is_among d (e ∷ es) =
    ap (λ (b : Bool). b || list_any (like_named d) es) (even (full_name d) (full_name e))
    ∙ ap (λ (b : Bool). bytes_eq (full_name e) (full_name d) || b) (like_is_among d es)

-- each name that the definitions have is none of the others'
none_like : (ds es : List Defined) → ((q : List ℕ) → among (map full_name ds) q ≡ true → among (map full_name es) q ≡ false)
    → list_any (λ d. list_any (like_named d) (reverse es)) ds ≡ false
none_like [] es h = refl
none_like (d ∷ ds) es h =
    no_other (list_any (like_named d) (reverse es)) _
    (any_reversed (like_named d) es ∙ like_is_among d es
    ∙ h (full_name d) (ap (λ (b : Bool). b || among (map full_name ds) (full_name d)) ((bytes_eq-Decides (full_name d) (full_name d)).1 refl)))
    (none_like ds es (λ q e. h q (or_right (bytes_eq (full_name d) q) _ e)))

-- ---- a linked record behind others

module _ (before : List FileDescriptorProto) (f g : FileDescriptorProto) (h : IsLinked before f g) where
  pub defines_same : definitions g ≡ definitions f
  defines_same = ap definitions h.is ∙ linked_record_defines (visible before f) f

  none_again : repeated like_named (reverse (flat_map definitions before)) (definitions g) ≡ []
  none_again =
      ap (repeated like_named (reverse (flat_map definitions before))) defines_same
      ∙ none_repeated like_named [] (reverse (flat_map definitions before)) (definitions f) (once before f h.keeps)
      (none_like (definitions f) (flat_map definitions before) (not_pooled before f h.keeps))

  names_before : reverse (flat_map definitions (before ++ g ∷ [])) ≡ reverse (definitions g) ++ reverse (flat_map definitions before)
  names_before =
      ap reverse (flat_map-append definitions before (g ∷ []) ∙ ap (λ (ds : List Defined). flat_map definitions before ++ ds) (append-nil (definitions g)))
      ∙ reverse-append (flat_map definitions before) (definitions g)

distinct : (before gs : List FileDescriptorProto) → ArePooled before gs
    → repeated like_named (reverse (flat_map definitions before)) (flat_map definitions gs) ≡ []
unfolding ArePooled repeated
distinct before [] h = refl
distinct before (g ∷ gs) h =
    repeated_joined like_named (reverse (flat_map definitions before)) (definitions g) (flat_map definitions gs) (none_again before h.0.0 g h.0.1)
    (ap (λ (ds : List Defined). repeated like_named ds (flat_map definitions gs)) (sym (names_before before h.0.0 g h.0.1))
    ∙ distinct (before ++ g ∷ []) gs h.1)

pub pooled_are_distinct : PooledAreDistinct
pooled_are_distinct files h = distinct [] files h
