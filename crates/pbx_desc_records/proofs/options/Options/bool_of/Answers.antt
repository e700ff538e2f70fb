use Rattle.std.proofs.Common.{◌≡◌, ℕ, ◌+◌, ◌<◌, Bool, List, [], ◌∷◌, ◌++◌, length, take, get_or, Option, Some, None, refl, sym, ap, ◌∙◌, append-nil}
use Rattle.std.specs.List.{filter_map, cons_option, last_or}
use Rattle.std.proofs.lemmas.List.{take_more}
use Rattle.std.proofs.lemmas.List.Elements.{filter_map-append}
use Rattle.pbx_wire.specs.declared.rec.Rec.{Rec}
use Rattle.pbx_desc_records.specs.Options.{truth_at, bool_of}
use Rattle.pbx_desc_records.proofs.options.Options.bool_of.Goals as goal
use Rattle.pbx_desc_records.proofs.options.Options.bool_of.Goals.{in-Some, in_default}

last_or-append : (o : Option Bool) (bs : List Bool) (b : Bool) → last_or o (bs ++ b ∷ []) ≡ Some b
last_or-append o [] b = refl
last_or-append o (c ∷ cs) b = last_or-append (Some c) cs b

-- the truth values with one record more
truths_more : (n : ℕ) (rs : List Rec) (i : ℕ) (r : Rec) → i < length rs → r ≡ get_or rs i r
    → filter_map (truth_at n) (take (i + 1) rs) ≡ filter_map (truth_at n) (take i rs) ++ cons_option (truth_at n r) []
truths_more n rs i r lt is = ap (filter_map (truth_at n)) (take_more rs i r lt ∙ ap (λ x. take i rs ++ x ∷ []) (sym is)) ∙ filter_map-append (truth_at n) (take i rs) (r ∷ [])

one_more : (n : ℕ) (rs : List Rec) (i : ℕ) (r : Rec) (t : Bool) → i < length rs → r ≡ get_or rs i r → Some t ≡ truth_at n r → Some t ≡ bool_of n (take (i + 1) rs)
one_more n rs i r t lt is at = sym (ap (last_or None) (truths_more n rs i r lt is ∙ ap (λ o. filter_map (truth_at n) (take i rs) ++ cons_option o []) (sym at)) ∙ last_or-append None (filter_map (truth_at n) (take i rs)) t)

none_more : (n : ℕ) (rs : List Rec) (i : ℕ) (r : Rec) → i < length rs → r ≡ get_or rs i r → None ≡ truth_at n r → bool_of n (take i rs) ≡ bool_of n (take (i + 1) rs)
none_more n rs i r lt is at =
    sym (ap (last_or None) (truths_more n rs i r lt is ∙ ap (λ o. filter_map (truth_at n) (take i rs) ++ cons_option o []) (sym at) ∙ append-nil (filter_map (truth_at n) (take i rs))))

pub loop-rec-preserved : goal.loop-rec-preserved
loop-rec-preserved c = elim c.match-truth.branch [
  | in-Some w ↦ w.last-is ∙ one_more c.args.number c.as_slice-rec-items.result.now c.loop-rec.rec-index c.rec-item.result w.in-Some.truth c.loop-rec-test.true c.rec-item.is w.in-Some.ensures
  | in_default w ↦
      w.last-is ∙ c.loop-rec.invariant ∙ none_more c.args.number c.as_slice-rec-items.result.now c.loop-rec.rec-index c.rec-item.result c.loop-rec-test.true c.rec-item.is w.in_default.ensures
]
