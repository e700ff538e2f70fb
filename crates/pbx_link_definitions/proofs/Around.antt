-- What is told around a message, one level down.
use Rattle.std.proofs.Common.{◌≡◌, ◌∙◌, ℕ, ◌+◌, List, [], ◌∷◌, ◌++◌, map, refl, ap, subst}
use Rattle.std.specs.Prelude.{pos}
use Rattle.std.specs.List.{flat_map, enumerate_from}
use Rattle.pbx_desc_records.specs.declared.message.DescriptorProto.{DescriptorProto, out-DescriptorProto, roll-DescriptorProto, roll-out-DescriptorProto, fold-DescriptorProto, fold_out-DescriptorProto, fold-roll-DescriptorProto, ind-DescriptorProto}
use Rattle.pbx_desc_records.specs.declared.message.DescriptorProto.TheOpen.{DescriptorProto-F}
use Rattle.pbx_link_definitions.specs.Definitions.{Place, Part, message_name, nested_in, layer_with, Told, told_step, around}

map_kept : {S : Type 0} (g : DescriptorProto → DescriptorProto) (v : S → DescriptorProto) → ((s : S) → g (v s) ≡ v s) → (ss : List S) → map g (map v ss) ≡ map v ss
map_kept g v h [] = refl
map_kept g v h (s ∷ ss) = ap (λ m. m ∷ map g (map v ss)) (h s) ∙ ap (λ ms. v s ∷ ms) (map_kept g v h ss)

map_same : (g : DescriptorProto → DescriptorProto) → ((m : DescriptorProto) → g m ≡ m) → (ms : List DescriptorProto) → map g ms ≡ ms
map_same g h [] = refl
map_same g h (m ∷ ms) = ap (λ n. n ∷ map g ms) (h m) ∙ ap (λ ns. m ∷ ns) (map_same g h ms)

map_twice : {A B C : Type 0} (f : A → B) (g : B → C) → (xs : List A) → map g (map f xs) ≡ map (λ x. g (f x)) xs
map_twice f g [] = refl
map_twice f g (x ∷ xs) = ap (λ ys. g (f x) ∷ ys) (map_twice f g xs)

module _ {X : Type 0} (first last : Part DescriptorProto → List X) where
  told : DescriptorProto → Told X
  told = fold-DescriptorProto (Told X) (told_step first last)

  -- the message that is told of, beside what is told
  kept : DescriptorProto → DescriptorProto
  kept m = (told m).0

  kept_rolled : (o : DescriptorProto-F DescriptorProto) → map kept o.nested_type ≡ o.nested_type → kept (roll-DescriptorProto o) ≡ roll-DescriptorProto o
  unfolding told kept
  kept_rolled o h =
      ap (λ (t : Told X). t.0) (fold-roll-DescriptorProto (Told X) (told_step first last) o)
      ∙ ap (λ (ns : List DescriptorProto). roll-DescriptorProto (layer_with ns o)) (map_twice told (λ (t : Told X). t.0) o.nested_type ∙ h)

  is_kept : (m : DescriptorProto) → kept m ≡ m
  is_kept =
      ind-DescriptorProto (λ m. kept m ≡ m)
      (λ o inside e. kept_rolled o (subst (λ (p : DescriptorProto-F DescriptorProto). map kept p.nested_type ≡ p.nested_type) e (map_kept kept (λ s. s.0) (λ s. s.1) inside.nested_type)))

  nested_told : (scope : List ℕ) (place : Place) (k : ℕ) (ms : List DescriptorProto)
      → flat_map (λ t. t.1.1 scope (place ++ pos 3 ∷ pos t.0 ∷ []) t.0) (enumerate_from k (map told ms))
      ≡ flat_map (around first last) (map (λ x. record { scope = scope; place = place ++ pos 3 ∷ pos x.0 ∷ []; index = x.0; item = x.1 }) (enumerate_from k ms))
  unfolding told around
  nested_told scope place k [] = refl
  nested_told scope place k (m ∷ ms) = ap (λ xs. (told m).1 scope (place ++ pos 3 ∷ pos k ∷ []) k ++ xs) (nested_told scope place (k + 1) ms)

  -- what is told around a message: first of it, then of those nested in it, then last of it
  pub around_is_told : (p : Part DescriptorProto) → around first last p ≡ first p ++ flat_map (around first last) (nested_in p) ++ last p
  unfolding told kept around
  around_is_told p =
      let o : DescriptorProto-F DescriptorProto = out-DescriptorProto p.item in
      let same : roll-DescriptorProto (layer_with (map (λ (t : Told X). t.0) (map told o.nested_type)) o) ≡ p.item =
      ap (λ (ns : List DescriptorProto). roll-DescriptorProto (layer_with ns o)) (map_twice told (λ (t : Told X). t.0) o.nested_type ∙ map_same kept is_kept o.nested_type) ∙ roll-out-DescriptorProto p.item in
      ap (λ (t : Told X). t.1 p.scope p.place p.index) (fold_out-DescriptorProto (Told X) (told_step first last) p.item)
      ∙ ap (λ (m : DescriptorProto). let q : Part DescriptorProto = record { scope = p.scope; place = p.place; index = p.index; item = m } in
      first q ++ flat_map (λ t. t.1.1 (message_name q) (p.place ++ pos 3 ∷ pos t.0 ∷ []) t.0) (enumerate_from 0 (map told o.nested_type)) ++ last q) same
      ∙ ap (λ xs. first p ++ xs ++ last p) (nested_told (message_name p) p.place 0 o.nested_type)
