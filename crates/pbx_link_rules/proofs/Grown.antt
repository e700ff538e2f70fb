-- One record more in a pool.
use Rattle.std.proofs.Common.{List, [], ◌∷◌, ◌++◌, refl, sym, subst}
use Rattle.std.proofs.lemmas.List.{append_assoc, append-nil}
use Rattle.pbx_desc_records.specs.declared.file.FileDescriptorProto.{FileDescriptorProto}
use Rattle.pbx_link_record.specs.Linked.{linked_record}
use Rattle.pbx_link_rules.specs.Pool.{IsLinked, ArePooled}
use Rattle.pbx_link_rules.specs.PoolLaws.{EmptyIsPooled, PooledGrow}

one_more : (before gs : List FileDescriptorProto) (f g : FileDescriptorProto) → ArePooled before gs → IsLinked (before ++ gs) f g
    → ArePooled before (gs ++ g ∷ [])
unfolding ArePooled
one_more before [] f g h k = ((f, subst (λ (fs : List FileDescriptorProto). IsLinked fs f g) (append-nil before) k), tt)
one_more before (x ∷ gs) f g h k =
    (h.0, one_more (before ++ x ∷ []) gs f g h.1 (subst (λ (fs : List FileDescriptorProto). IsLinked fs f g) (sym (append_assoc before (x ∷ []) gs)) k))

pub pooled_grow : PooledGrow
pooled_grow files f h k = one_more [] files f (linked_record files f) h (record { keeps = k; is = refl })

pub empty_is_pooled : EmptyIsPooled
unfolding ArePooled
empty_is_pooled = tt
