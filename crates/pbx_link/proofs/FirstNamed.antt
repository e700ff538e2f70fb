-- The first message of a name.
use Rattle.std.proofs.Common.{◌≡◌, ◌∙◌, ℕ, ◌+◌, ◌<◌, ◌≤◌, cond, List, [], map, drop, length, Bool, Option, Some, None, find, ap, sym, subst, Bor}
use Rattle.std.specs.Prelude.{slice_get, option_map, option_copied}
use Rattle.std.specs.Str.{bytes_eq}
use Rattle.std.proofs.Math.ListN.{drop_of_length-le}
use Rattle.std.proofs.lemmas.List.{drop_more}
use Rattle.pbx_desc_records.specs.declared.file.FileDescriptorProto.{FileDescriptorProto}
use Rattle.pbx_desc_records.specs.declared.message.DescriptorProto.{DescriptorProto}
use Rattle.pbx_link_definitions.specs.Definitions.{Part, messages, message_name}
use Rattle.pbx_link_meaning.specs.Descriptors.{Described, described}
use Rattle.pbx_link.specs.Tables.{part_at, no_message}
use Rattle.pbx_link.proofs.Parts.{part_there, find_mapped}

module _ (q : List ℕ) (xs : List (Part DescriptorProto)) (i : ℕ) where
  abbrev is_it : Part DescriptorProto → Bool
  is_it m = bytes_eq (message_name m) q

  abbrev here : Part DescriptorProto
  here = part_at no_message xs i

  -- the first is among those that are left
  abbrev pub IsLeft : Type 0
  IsLeft = find is_it xs ≡ find is_it (drop i xs)

  named : (r : Option (Bor (List ℕ))) (u : Bor (List ℕ)) → r ≡ Some u → option_copied r ≡ option_map message_name (slice_get xs i) → i < length xs
      → u.now ≡ message_name here
  named r u e told lt =
      let same : Some u.now ≡ Some (message_name here) = ap option_copied (sym e) ∙ told ∙ ap (option_map message_name) (part_there no_message xs i lt) in cc

  opened : (b : Bool) → is_it here ≡ b → i < length xs → find is_it (drop i xs) ≡ cond b (Some here) (find is_it (drop (i + 1) xs))
  opened b e lt =
      ap (find is_it) (drop_more xs i (record { scope = []; place = []; index = 0; item = no_message }) lt)
      ∙ ap (λ (c : Bool). cond c (Some here) (find is_it (drop (i + 1) xs))) e

  -- where the message here has the name or not
  pub by_name : (r : Option (Bor (List ℕ))) (u : Bor (List ℕ)) (same b : Bool) → IsLeft → r ≡ Some u
      → option_copied r ≡ option_map message_name (slice_get xs i) → i < length xs → same ≡ bytes_eq u.now q → same ≡ b
      → find is_it xs ≡ cond b (Some here) (find is_it (drop (i + 1) xs))
  by_name r u same b left e told lt is was =
      left ∙ opened b (ap (λ (n : List ℕ). bytes_eq n q) (sym (named r u e told lt)) ∙ sym is ∙ was) lt

  pub none_named : IsLeft → length xs ≤ i → find is_it xs ≡ None
  none_named left le = left ∙ ap (find is_it) (drop_of_length-le xs le)

-- ---- the message in whose body a part stands

module _ (pool : List FileDescriptorProto) (f : FileDescriptorProto) (q s : List ℕ) (same : s ≡ q) where
  abbrev pub parent : Option (Described DescriptorProto)
  parent = find (λ (d : Described DescriptorProto). bytes_eq (message_name d.part) q) (map (described pool f) (messages f))

  moved : (v : FileDescriptorProto) (o : FileDescriptorProto → Option (Part DescriptorProto)) → v ≡ f
      → find (λ m. bytes_eq (message_name m) s) (messages v) ≡ o v → parent ≡ option_map (described pool f) (o f)
  moved v o there e =
      find_mapped (λ (d : Described DescriptorProto). bytes_eq (message_name d.part) q) (described pool f) (messages f)
      ∙ ap (option_map (described pool f))
      (subst (λ (r : List ℕ). find (λ m. bytes_eq (message_name m) r) (messages f) ≡ o f) same
      (subst (λ (g : FileDescriptorProto). find (λ m. bytes_eq (message_name m) s) (messages g) ≡ o g) there e))

  pub parent_is : (p : List FileDescriptorProto) (t v : FileDescriptorProto) (i : ℕ) → p ≡ pool → t ≡ f → v ≡ f
      → find (λ m. bytes_eq (message_name m) s) (messages v) ≡ Some (part_at no_message (messages v) i)
      → Some (described p t (part_at no_message (messages t) i)) ≡ parent
  parent_is p t v i other handle there e =
      ap (λ (fs : List FileDescriptorProto). Some (described fs t (part_at no_message (messages t) i))) other
      ∙ ap (λ (g : FileDescriptorProto). Some (described pool g (part_at no_message (messages g) i))) handle
      ∙ sym (moved v (λ g. Some (part_at no_message (messages g) i)) there e)

  pub no_parent : (v : FileDescriptorProto) → v ≡ f → find (λ m. bytes_eq (message_name m) s) (messages v) ≡ None → None ≡ parent
  no_parent v there e = sym (moved v (λ g. None) there e)
