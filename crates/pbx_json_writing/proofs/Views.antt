-- What trees of values stand for.
use Rattle.std.proofs.Common.{◌≡◌, ℕ, List, [], ◌∷◌, map, Some, ◌||◌, Bool, true, false, cond, String, Global, BTreeMap, string_bytes}
use Rattle.std.proofs.Common.{is_some, Vec, refl, sym, ap, subst, ◌∙◌, rules}
use Rattle.pbx_wire.specs.declared.rec.Rec.{Rec}
use Rattle.std.specs.Str.{bytes_eq}
use Rattle.serde_json.specs.Data.{Data, array, object, item, put}
use Rattle.std.specs.BTreeMap.{is_at, insert_entry}
use Rattle.std.specs.String.{string_cmp}
use Rattle.serde_json.proofs.Views.{view-Array, view-Object, members_view-insert_entry}
use Rattle.std.specs.Map.{lookup}
use Rattle.std.specs.Ordering.{nat_cmp, is_eq}
use Rattle.std.specs.Cmp.Lexicographic.{slice_cmp}
use Rattle.std.proofs.lemmas.Map.Text.{is_eq-slice_cmp}
use Rattle.serde_json.specs.View.{view, members_view, items_of as items_in}
use Rattle.serde_json.specs.declared.value.Value.{Value, Array, Object}
use Rattle.pbx_json_writing.proofs.OfMembers.{bytes_eq_back}
use Rattle.pbx_content.specs.Content.{content, kept, keyed, pairs_of}
use Rattle.pbx_json_meaning.specs.Canonical.{items_of, has_key}
use Rattle.pbx_content_codec.specs.View.{content_of, fields_in, entry_of, val_of, pair_of}
use Rattle.pbx_content_codec.specs.declared.contents.Held.{Held}
use Rattle.pbx_content_codec.specs.declared.contents.Held as held
use Rattle.pbx_content_codec.specs.declared.contents.Pair.{Pair}
use Rattle.pbx_content_codec.specs.declared.contents.Contents.{Contents, out-Contents, the_lemmas}

pub content_is : (c : Contents) → content_of c ≡ content (fields_in (map entry_of (out-Contents c).fields)) (out-Contents c).kept
content_is c = search (rules, the_lemmas)

pub kept_of_contents : (c : Contents) (P : List Rec → Type 0) → P (out-Contents c).kept → P (kept (content_of c))
kept_of_contents c P h = let own : kept (content_of c) ≡ (out-Contents c).kept = ap kept (content_is c) in subst P (sym own) h

pub val_of-Pairs : (ps : List Pair) → val_of (held.Pairs ps) ≡ keyed (pairs_of (map pair_of ps))
val_of-Pairs ps = search (rules, the_lemmas)

-- a key that is found is there
pub found_key : (s : List ℕ) (es : List (String Global × Value)) → is_some (lookup (is_at (λ k. slice_cmp nat_cmp s (string_bytes k))) es) ≡ has_key s (members_view es)
found_key s [] = refl
found_key s (e ∷ es) = at (is_eq (slice_cmp nat_cmp s (string_bytes e.0))) (is_eq-slice_cmp s (string_bytes e.0) ∙ bytes_eq_back s (string_bytes e.0)) (found_key s es)
  where
    at : (b : Bool) → b ≡ bytes_eq (string_bytes e.0) s → is_some (lookup (is_at (λ k. slice_cmp nat_cmp s (string_bytes k))) es) ≡ has_key s (members_view es)
        → is_some (cond b (Some e.1) (lookup (is_at (λ k. slice_cmp nat_cmp s (string_bytes k))) es)) ≡ (bytes_eq (string_bytes e.0) s || has_key s (members_view es))
    at true h ih = rw (← h) refl
    at false h ih = rw (← h) ih

-- what is put to the entries of a map is put to the members
pub inserted : (old new : List (String Global × Value)) (k : String Global) (v : Value) (name : List ℕ) → new ≡ insert_entry string_cmp old k v → string_bytes k ≡ name
    → put name (view v) (members_view old) ≡ members_view new
inserted old new k v name is named =
    sym (ap members_view is ∙ members_view-insert_entry old k v ∙ ap (λ s. put s (view v) (members_view old)) named)

-- the elements of an array
items_same : (ds : List Data) → items_of ds ≡ items_in ds
items_same [] = refl
items_same (d ∷ ds) = ap (item d) (items_same ds)

pub array_view : (v : Vec Value Global) → array (items_of (map view v.items)) ≡ view (Array v)
array_view v = ap array (items_same (map view v.items)) ∙ sym (view-Array v)

pub object_view : (m : BTreeMap (String Global) Value) → object (members_view m.entries) ≡ view (Object m)
object_view m = sym (view-Object m)
