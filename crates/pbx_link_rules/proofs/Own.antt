-- Each file of a pool is the one of its name.
use Rattle.std.proofs.Common.{◌≡◌, ◌∙◌, ℕ, zero, suc, ◌+◌, ◌||◌, cond, List, [], ◌∷◌, ◌++◌}
use Rattle.std.proofs.Common.{length, Bool, true, false, Option, Some, None, refl, ap, sym, subst, arith}
use Rattle.std.specs.Prelude.{is_some, find, option_map, slice_get}
use Rattle.std.specs.List.{enumerate_from}
use Rattle.std.proofs.lemmas.Bool.{false≢true}
use Rattle.std.proofs.lemmas.List.{append_assoc, length-append}
use Rattle.std.proofs.lemmas.Slice.Eq.{bytes_eq-Decides}
use Rattle.pbx_desc_records.specs.declared.file.FileDescriptorProto.{FileDescriptorProto}
use Rattle.pbx_link_definitions.specs.Names.{text_or_empty, is_named}
use Rattle.pbx_link_scope.specs.Pooled.{has_file, file_index}
use Rattle.pbx_link_rules.specs.Pool.{ArePooled}
use Rattle.pbx_link_rules.specs.PoolLaws.{PooledHaveOwnNames}
use Rattle.pbx_link_rules.proofs.Behind.{linked_has_name, linked_name_is_new}

own_name : (o : Option (List ℕ)) → is_some o ≡ true → is_named o (text_or_empty o) ≡ true
own_name None h = absurd (false≢true h)
own_name (Some name) h = (bytes_eq-Decides name name).1 refl

-- the first file of a name, in a list that is numbered from an index
abbrev index_from : ℕ → List FileDescriptorProto → List ℕ → Option ℕ
index_from k files name = option_map (λ x. x.0) (find (λ x. is_named x.1.name name) (enumerate_from k files))

found_behind : (k : ℕ) (before : List FileDescriptorProto) (g : FileDescriptorProto) (gs : List FileDescriptorProto) (name : List ℕ)
    → has_file before name ≡ false → is_named g.name name ≡ true
    → index_from k (before ++ g ∷ gs) name ≡ Some (length before + k)
found_behind k [] g gs name none is =
    let same : k ≡ 0 + k = omega arith in
    ap (λ (b : Bool). option_map (λ (x : ℕ × FileDescriptorProto). x.0)
    (cond b (Some (k, g)) (find (λ (x : ℕ × FileDescriptorProto). is_named x.1.name name) (enumerate_from (k + 1) gs)))) is
    ∙ ap (λ (n : ℕ). Some n) same
found_behind k (f ∷ before) g gs name none is = at (is_named f.name name) none (found_behind (k + 1) before g gs name)
  where
    at : (b : Bool) → (b || has_file before name) ≡ false
        → (has_file before name ≡ false → is_named g.name name ≡ true → index_from (k + 1) (before ++ g ∷ gs) name ≡ Some (length before + (k + 1)))
        → option_map (λ (x : ℕ × FileDescriptorProto). x.0)
        (cond b (Some (k, f)) (find (λ (x : ℕ × FileDescriptorProto). is_named x.1.name name) (enumerate_from (k + 1) (before ++ g ∷ gs))))
        ≡ Some (suc (length before) + k)
    at true e ih = absurd (false≢true (sym e))
    at false e ih =
        let same : length before + (k + 1) ≡ suc (length before) + k = omega arith in
        ih e is ∙ ap (λ (n : ℕ). Some n) same

own_from : (before gs : List FileDescriptorProto) → ArePooled before gs → (i : ℕ) (f : FileDescriptorProto) → slice_get gs i ≡ Some f
    → file_index (before ++ gs) (text_or_empty f.name) ≡ Some (length before + i)
unfolding ArePooled
own_from before [] h i f e = absurd (cc)
own_from before (g ∷ gs) h zero f e =
    let same : g ≡ f = cc in
    subst (λ (x : FileDescriptorProto). file_index (before ++ g ∷ gs) (text_or_empty x.name) ≡ Some (length before + 0)) same
    (found_behind 0 before g gs (text_or_empty g.name) (linked_name_is_new before h.0.0 g h.0.1) (own_name g.name (linked_has_name before h.0.0 g h.0.1)))
own_from before (g ∷ gs) h (suc i) f e =
    let one : length (before ++ g ∷ []) ≡ length before + 1 = length-append before (g ∷ []) in
    let same : length (before ++ g ∷ []) + i ≡ length before + suc i = omega (arith, one) in
    ap (λ (fs : List FileDescriptorProto). file_index fs (text_or_empty f.name)) (sym (append_assoc before (g ∷ []) gs))
    ∙ own_from (before ++ g ∷ []) gs h.1 i f e ∙ ap (λ (n : ℕ). Some n) same

pub pooled_have_own_names : PooledHaveOwnNames
pooled_have_own_names files h i f e =
    let same : 0 + i ≡ i = omega arith in
    own_from [] files h i f e ∙ ap (λ (n : ℕ). Some n) same
