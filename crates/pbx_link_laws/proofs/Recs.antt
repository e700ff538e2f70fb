-- Unknown records and options that are settled: what they say, and that settling them again changes nothing.
use Rattle.std.proofs.Common.{◌≡◌, ◌∙◌, ℕ, ◌||◌, ◌&&◌, cond, List, [], ◌∷◌, Bool, true, false, if◌then◌else◌, Option, None, Some, refl, ap, sym, rules, arith}
use Rattle.std.specs.Prelude.{filter, not, ◌==◌}
use Rattle.std.specs.List.{list_any, filter_map, cons_option, last_or}
use Rattle.std.proofs.lemmas.Bool.Decides.{nat_tests}
use Rattle.pbx_wire.specs.Text.{is_record_number, is_numbered}
use Rattle.pbx_wire.specs.declared.rec.Rec.{Rec, Varint, Fixed64, Bytes, Group', Fixed32}
use Rattle.pbx_wire.specs.declared.rec.Rec.{the_lemmas as rec_lemmas}
use Rattle.pbx_content.specs.declared.shape.FieldShape.{FieldShape}
use Rattle.pbx_content.specs.Records.{number_of, insert, sorted}
use Rattle.pbx_content.specs.Shape.{is_kept}
use Rattle.pbx_content.proofs.Sorted.{filter-sorted, those_of-sorted}
use Rattle.pbx_content.proofs.Alike.{sorted_alike}
use Rattle.pbx_desc_records.specs.Options.{truth_at, bool_of}
use Rattle.pbx_desc_records.specs.declared.options.Options.{Options}
use Rattle.pbx_desc_shapes.specs.DescriptorShape.{file_fields}
use Rattle.pbx_link_definitions.specs.Says.{is_set, option_bool, has_option, has_record, is_uninterpreted}
use Rattle.pbx_link_record.specs.Unknown.{unread, settled_unknown}
use Rattle.pbx_link_record.specs.Settled.{written_options, settled_options}

-- ---- settled again

pub filter_again : {X : Type 0} (p : X → Bool) (xs : List X) → filter p (filter p xs) ≡ filter p xs
filter_again p [] = refl
filter_again {X} p (x ∷ xs) = at (p x) refl (filter_again p xs)
  where
    at : (b : Bool) → p x ≡ b → filter p (filter p xs) ≡ filter p xs
        → filter p (cond b (x ∷ filter p xs) (filter p xs)) ≡ cond b (x ∷ filter p xs) (filter p xs)
    at true e ih = ap (λ (b : Bool). cond b (x ∷ filter p (filter p xs)) (filter p (filter p xs))) e ∙ ap (λ (ys : List X). x ∷ ys) ih
    at false e ih = ih

sorted_again : (rs : List Rec) → sorted (sorted rs) ≡ sorted rs
sorted_again rs = sorted_alike (sorted rs) rs (λ n. those_of-sorted n rs)

pub unknown_again : (gs : List FieldShape) (rs : List Rec) → settled_unknown gs (settled_unknown gs rs) ≡ settled_unknown gs rs
unfolding settled_unknown unread
unknown_again gs rs =
    let p : Rec → Bool = λ r. is_numbered r && is_kept gs r in
    ap sorted (filter-sorted p (filter p rs)) ∙ sorted_again (filter p (filter p rs)) ∙ ap sorted (filter_again p rs)

written_again : (o : Options) → written_options (written_options o) ≡ written_options o
unfolding unread
written_again o = ap (λ (rs : List Rec). record o { recs = rs }) (filter_again (λ r. is_numbered r && is_kept [] r) o.recs)

pub options_again : (o : Option Options) → settled_options (settled_options o) ≡ settled_options o
options_again None = refl
options_again (Some o) = ap (λ (p : Options). Some p) (written_again o)

-- ---- what options say

-- a record that may not be written says nothing of a number that records may have
unsaid : (n : ℕ) → is_record_number n ≡ true → (r : Rec) → is_numbered r ≡ false → truth_at n r ≡ None
unsaid n h (Varint m v) e = at (m == n) refl
  where
    numbered : is_numbered (Varint m v) ≡ is_record_number m
    numbered = search (rules, rec_lemmas)

    at : (b : Bool) → m == n ≡ b → (if b then Some (not (v == 0)) else None) ≡ None
    at true q =
        absurd (let same : m ≡ n = grind (arith, nat_tests, q) in let bad : is_record_number m ≡ true = ap is_record_number same
        ∙ h in let no : is_record_number m ≡ false = sym numbered ∙ e in cc)
    at false q = refl
unsaid n h (Fixed64 m v) e = refl
unsaid n h (Bytes m b) e = refl
unsaid n h (Group' m shape row) e = refl
unsaid n h (Fixed32 m v) e = refl

module _ (n : ℕ) (h : is_record_number n ≡ true) where
  abbrev writable : Rec → Bool
  writable r = is_numbered r && is_kept [] r

  truths_written : (rs : List Rec) → filter_map (truth_at n) (filter writable rs) ≡ filter_map (truth_at n) rs
  truths_written [] = refl
  truths_written (r ∷ rs) = at (is_numbered r) refl (truths_written rs)
    where
      at : (b : Bool) → is_numbered r ≡ b → filter_map (truth_at n) (filter writable rs) ≡ filter_map (truth_at n) rs
          → filter_map (truth_at n) (cond (b && true) (r ∷ filter writable rs) (filter writable rs)) ≡ cons_option (truth_at n r) (filter_map (truth_at n) rs)
      at true e ih = ap (cons_option (truth_at n r)) ih
      at false e ih = ih ∙ ap (λ (o : Option Bool). cons_option o (filter_map (truth_at n) rs)) (sym (unsaid n h r e))

  bool_written : (rs : List Rec) → bool_of n (unread [] rs) ≡ bool_of n rs
  unfolding unread
  bool_written rs = ap (last_or None) (truths_written rs)

  -- an option has the truth value that it had
  pub option_written : (o : Option Options) → option_bool n (settled_options o) ≡ option_bool n o
  option_written None = refl
  option_written (Some o) = bool_written o.recs

  pub has_option_written : (o : Option Options) → has_option n (settled_options o) ≡ has_option n o
  has_option_written o = ap is_set (option_written o)

-- ---- records of a number

module _ (gs : List FieldShape) (n : ℕ) (unread_there : (r : Rec) → number_of r == n ≡ true → is_kept gs r ≡ true) where
  abbrev has_it : Rec → Bool
  has_it r = is_numbered r && number_of r == n

  kept_there : (rs : List Rec) → list_any has_it (filter (λ r. is_numbered r && is_kept gs r) rs) ≡ list_any has_it rs
  kept_there [] = refl
  kept_there (r ∷ rs) = at (is_numbered r) (is_kept gs r) (number_of r == n) refl refl refl (kept_there rs)
    where
      at : (a b c : Bool) → is_numbered r ≡ a → is_kept gs r ≡ b → number_of r == n ≡ c
          → list_any has_it (filter (λ s. is_numbered s && is_kept gs s) rs) ≡ list_any has_it rs
          → list_any has_it (cond (a && b) (r ∷ filter (λ s. is_numbered s && is_kept gs s) rs) (filter (λ s. is_numbered s && is_kept gs s) rs))
          ≡ ((a && c) || list_any has_it rs)
      at false b c e f g ih = ih
      at true true c e f g ih =
          ap (λ (t : Bool). t || list_any has_it (filter (λ s. is_numbered s && is_kept gs s) rs)) (ap (λ (t : Bool). t && number_of r == n) e ∙ g)
          ∙ ap (λ (t : Bool). c || t) ih
      at true false false e f g ih = ih
      at true false true e f g ih = absurd (let yes : is_kept gs r ≡ true = unread_there r g in cc)

  pub unread_has : (rs : List Rec) → has_record n (unread gs rs) ≡ has_record n rs
  unfolding unread
  unread_has rs = kept_there rs

  pub settled_has : (rs : List Rec) → has_record n (settled_unknown gs rs) ≡ has_record n rs
  unfolding settled_unknown
  settled_has rs = any_sorted (unread gs rs) ∙ unread_has rs
    where
      any_insert : (r : Rec) (ss : List Rec) → list_any has_it (insert r ss) ≡ (has_it r || list_any has_it ss)
      any_insert r [] = refl
      any_insert r (s ∷ ss) = let ih = any_insert r ss in grind (arith, nat_tests, ih)

      any_sorted : (ss : List Rec) → list_any has_it (sorted ss) ≡ list_any has_it ss
      any_sorted [] = refl
      any_sorted (s ∷ ss) = any_insert s (sorted ss) ∙ ap (λ (b : Bool). has_it s || b) (any_sorted ss)

-- an option that is not interpreted stays
pub uninterpreted_written : (o : Option Options) → is_uninterpreted (settled_options o) ≡ is_uninterpreted o
uninterpreted_written None = refl
uninterpreted_written (Some o) = unread_has [] 999 (λ r e. refl) o.recs

-- the edition, which is no field of the record
pub edition_settled : (rs : List Rec) → has_record 14 (settled_unknown file_fields rs) ≡ has_record 14 rs
edition_settled rs = settled_has file_fields 14 edition_kept rs
  where
    edition_kept : (r : Rec) → number_of r == 14 ≡ true → is_kept file_fields r ≡ true
    edition_kept r e = let same : number_of r ≡ 14 = grind (arith, nat_tests, e) in rw same refl
