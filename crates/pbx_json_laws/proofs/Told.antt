-- What the keys of an object say after one more member is put.
use Rattle.std.proofs.Common.{◌≡◌, ℕ, ◌||◌, List, [], ◌∷◌, Bool, true, false, ◌==◌, if◌then◌else◌, Option, Some, None, Ordering, Less, Equal, Greater, nat_cmp, is_eq, refl, ap, sym, ◌∙◌, arith}
use Rattle.std.specs.Ordering.{match_ordering}
use Rattle.std.specs.Cmp.Lexicographic.{slice_cmp}
use Rattle.std.specs.Str.{bytes_eq}
use Rattle.std.proofs.lemmas.Bool.Decides.{nat_tests}
use Rattle.std.proofs.lemmas.Map.Text.{is_eq-slice_cmp}
use Rattle.std.proofs.lemmas.Slice.Eq.{bytes_eq-Decides}
use Rattle.serde_json.specs.Data.{Data, Members, no_members, member, put}
use Rattle.pbx_content.specs.declared.shape.FieldShape.{FieldShape}
use Rattle.pbx_content.specs.declared.shape.Shape.{Shape}
use Rattle.pbx_json_meaning.specs.Asked.{field}
use Rattle.pbx_json_meaning.specs.Canonical.{has_key}
use Rattle.pbx_json_meaning.specs.Names.{field_named}
use Rattle.pbx_json_meaning.specs.Stands.{Reading, Entry, is_known_key, all_known, told, told_by, said, entries_said}
use Rattle.pbx_json_laws.proofs.Parts.{both}

pub same_key : (k l : List ℕ) → slice_cmp nat_cmp k l ≡ Equal → k ≡ l
same_key k l e = (bytes_eq-Decides k l).0 (sym (is_eq-slice_cmp k l) ∙ ap is_eq e)

-- nothing was said: neither by this key nor by the others
nothing_said : (o : Option FieldShape) (n : ℕ) (e : Entry) (rs : List Reading) → told_by o n e rs ≡ []
    → (rs ≡ []) × ((xs : List Reading) → told_by o n e xs ≡ xs)
nothing_said None n e rs h = (h, λ xs. refl)
nothing_said (Some g) n e rs h = at (g.number == n) h
  where
    at : (b : Bool) → (if b then e.says (field g) ∷ rs else rs) ≡ []
        → (rs ≡ []) × ((xs : List Reading) → (if b then e.says (field g) ∷ xs else xs) ≡ xs)
    at true k = absurd (cc)
    at false k = (k, λ xs. refl)

module _ (shape : Shape) (allow : Bool) (m : List FieldShape) (key : List ℕ) (d : Data) (f : FieldShape) (named : field_named key m ≡ Some f) where
  abbrev entry_at : List ℕ → Data → Entry
  entry_at l e = record { key = l; says = said shape allow e }

  -- the key itself
  own : (n : ℕ) (rs : List Reading) → told_by (field_named key m) n (entry_at key d) rs ≡ (if f.number == n then said shape allow d (field f) ∷ rs else rs)
  own n rs = rw named refl

  pub told_other : (n : ℕ) → (f.number == n) ≡ false → (ms : Members)
      → told m n (entries_said shape allow (put key d ms)) ≡ told m n (entries_said shape allow ms)
  told_other n other no_members = own n [] ∙ rw other refl
  told_other n other (member l e ms) = at (slice_cmp nat_cmp key l) refl (told_other n other ms)
    where
      at : (o : Ordering) → slice_cmp nat_cmp key l ≡ o → told m n (entries_said shape allow (put key d ms)) ≡ told m n (entries_said shape allow ms)
          → told m n (entries_said shape allow (match_ordering o (member key d (member l e ms)) (member l d ms) (member l e (put key d ms))))
          ≡ told m n (entries_said shape allow (member l e ms))
      at Less q ih = own n _ ∙ rw other refl
      at Equal q ih =
          let same : l ≡ key = sym (same_key key l q) in
          let skips : (x : Data) → told_by (field_named l m) n (entry_at l x) (told m n (entries_said shape allow ms)) ≡ told m n (entries_said shape allow ms) =
          λ x. rw (same, named, other) refl in
          skips d ∙ sym (skips e)
      at Greater q ih = ap (told_by (field_named l m) n (entry_at l e)) ih

  pub told_same : (n : ℕ) → (f.number == n) ≡ true → (ms : Members) → told m n (entries_said shape allow ms) ≡ []
      → told m n (entries_said shape allow (put key d ms)) ≡ said shape allow d (field f) ∷ []
  told_same n same no_members h = own n [] ∙ rw same refl
  told_same n same (member l e ms) h = at (slice_cmp nat_cmp key l) refl (told_same n same ms)
    where
      parts : (told m n (entries_said shape allow ms) ≡ []) × ((xs : List Reading) → told_by (field_named l m) n (entry_at l e) xs ≡ xs)
      parts = nothing_said (field_named l m) n (entry_at l e) (told m n (entries_said shape allow ms)) h

      at : (o : Ordering) → slice_cmp nat_cmp key l ≡ o
          → (told m n (entries_said shape allow ms) ≡ [] → told m n (entries_said shape allow (put key d ms)) ≡ said shape allow d (field f) ∷ [])
          → told m n (entries_said shape allow (match_ordering o (member key d (member l e ms)) (member l d ms) (member l e (put key d ms))))
          ≡ said shape allow d (field f) ∷ []
      at Less q ih = own n _ ∙ rw (same, h) refl
      at Equal q ih =
          let eq : l ≡ key = sym (same_key key l q) in
          let skips : told_by (field_named l m) n (entry_at l e) (said shape allow d (field f) ∷ []) ≡ said shape allow d (field f) ∷ [] = parts.1 _ in
          let says : told_by (field_named l m) n (entry_at l e) (said shape allow d (field f) ∷ [])
          ≡ said shape allow e (field f) ∷ (said shape allow d (field f) ∷ []) = rw (eq, named, same) refl in
          absurd (cc)
      at Greater q ih = ap (told_by (field_named l m) n (entry_at l e)) (ih parts.0) ∙ parts.1 _

  pub known_put : (ms : Members) → all_known allow m (entries_said shape allow ms) ≡ true → all_known allow m (entries_said shape allow (put key d ms)) ≡ true
  known_put no_members h = rw named refl
  known_put (member l e ms) h = at (slice_cmp nat_cmp key l) (known_put ms)
    where
      parts : (is_known_key allow (field_named l m) ≡ true) × (all_known allow m (entries_said shape allow ms) ≡ true)
      parts = both _ _ h

      at : (o : Ordering) → (all_known allow m (entries_said shape allow ms) ≡ true → all_known allow m (entries_said shape allow (put key d ms)) ≡ true)
          → all_known allow m (entries_said shape allow (match_ordering o (member key d (member l e ms)) (member l d ms) (member l e (put key d ms)))) ≡ true
      at Less ih = rw (named, h) refl
      at Equal ih = h
      at Greater ih = rw (parts.0, ih parts.1) refl

  -- where nothing is said for a field, its key is not there
  pub keyless : (ms : Members) → told m f.number (entries_said shape allow ms) ≡ [] → has_key key ms ≡ false
  keyless no_members h = refl
  keyless (member l e ms) h = at (bytes_eq l key) refl (keyless ms parts.0)
    where
      parts : (told m f.number (entries_said shape allow ms) ≡ []) × ((xs : List Reading) → told_by (field_named l m) f.number (entry_at l e) xs ≡ xs)
      parts = nothing_said (field_named l m) f.number (entry_at l e) (told m f.number (entries_said shape allow ms)) h

      at : (b : Bool) → bytes_eq l key ≡ b → has_key key ms ≡ false → (b || has_key key ms) ≡ false
      at false p ih = ih
      at true p ih =
          let eq : l ≡ key = (bytes_eq-Decides l key).0 p in
          let here : (f.number == f.number) ≡ true = grind (arith, nat_tests) in
          let says : told_by (field_named l m) f.number (entry_at l e) [] ≡ said shape allow e (field f) ∷ [] = rw (eq, named, here) refl in
          let bad : told_by (field_named l m) f.number (entry_at l e) [] ≡ [] = parts.1 [] in
          absurd (cc)
