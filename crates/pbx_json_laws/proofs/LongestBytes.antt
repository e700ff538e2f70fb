-- Each content has bytes shorter than some number.
use Rattle.std.proofs.Common.{ℕ, suc, ◌+◌, ◌<◌, length, arith}
use Rattle.pbx_content.specs.Content.{Content, content, Fields, no_fields, field, Val, number, truth, text, octets, message, many, keyed, Vals, no_vals, val}
use Rattle.pbx_content.specs.Content.{Pairs, no_pairs, pair}
use Rattle.pbx_json_payload_laws.specs.Inside.{AreShorter, AreFieldsShorter, IsValShorter, AreValsShorter, ArePairsShorter}
use Rattle.pbx_json_payload_laws.proofs.Inside.{val_more, fields_more, vals_more, pairs_more}

mutual
  pub content_bound : (c : Content) → (n : ℕ) × (0 < n) × AreShorter n c
  content_bound (content fs kept) = fields_bound fs

  fields_bound : (fs : Fields) → (n : ℕ) × (0 < n) × AreFieldsShorter n fs
  fields_bound no_fields = (1, omega arith, tt)
  fields_bound (field k v fs) =
      let own = val_bound v in
      let rest = fields_bound fs in
      (own.0 + rest.0, omega (arith, own.1), (val_more own.0 (own.0 + rest.0) v (omega arith) own.2, fields_more rest.0 (own.0 + rest.0) fs (omega arith) rest.2))

  val_bound : (v : Val) → (n : ℕ) × (0 < n) × IsValShorter n v
  val_bound (number z) = (1, omega arith, tt)
  val_bound (truth b) = (1, omega arith, tt)
  val_bound (text s) = (1, omega arith, tt)
  val_bound (octets b) = (suc (length b), omega arith, omega arith)
  val_bound (message c) = content_bound c
  val_bound (many vs) = vals_bound vs
  val_bound (keyed ps) = pairs_bound ps

  vals_bound : (vs : Vals) → (n : ℕ) × (0 < n) × AreValsShorter n vs
  vals_bound no_vals = (1, omega arith, tt)
  vals_bound (val v vs) =
      let own = val_bound v in
      let rest = vals_bound vs in
      (own.0 + rest.0, omega (arith, own.1), (val_more own.0 (own.0 + rest.0) v (omega arith) own.2, vals_more rest.0 (own.0 + rest.0) vs (omega arith) rest.2))

  pairs_bound : (ps : Pairs) → (n : ℕ) × (0 < n) × ArePairsShorter n ps
  pairs_bound no_pairs = (1, omega arith, tt)
  pairs_bound (pair k v ps) =
      let own = val_bound v in
      let rest = pairs_bound ps in
      (own.0 + rest.0, omega (arith, own.1), (val_more own.0 (own.0 + rest.0) v (omega arith) own.2, pairs_more rest.0 (own.0 + rest.0) ps (omega arith) rest.2))
