use Rattle.std.proofs.Common.{refl, arith}
use Rattle.std.specs.Ordering.{nat_cmp, is_lt}
use Rattle.std.proofs.lemmas.Bool.Decides.{nat_tests}
use Rattle.std.proofs.lemmas.Cmp.{same_from_slice_cmp_tested}
use Rattle.pbx_content.specs.Content.{bytes_before}
use Rattle.pbx_message_dynamic.proofs.key_map.bytes_before.Goals as goal

pub returns : goal.returns
returns c =
    same_from_slice_cmp_tested nat_cmp is_lt bytes_before refl (λ y ys. refl) (λ x xs. refl) (λ x y xs ys o h. grind
    (arith, nat_tests)) c.args.bytes.now c.args.others.now c.lt.result c.lt.ensures
