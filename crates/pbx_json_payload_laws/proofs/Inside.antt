-- Bytes that are shorter than some number are shorter than each greater one.
use Rattle.std.proofs.Common.{ℕ, ◌≤◌, arith}
use Rattle.pbx_content.specs.Content.{Content, content, Fields, no_fields, field, Val, number, truth, text, octets, message, many, keyed, Vals, no_vals, val}
use Rattle.pbx_content.specs.Content.{Pairs, no_pairs, pair}
use Rattle.pbx_json_payload_laws.specs.Inside.{AreShorter, AreFieldsShorter, IsValShorter, AreValsShorter, ArePairsShorter}

mutual
  pub shorter_more : (m n : ℕ) (c : Content) → m ≤ n → AreShorter m c → AreShorter n c
  shorter_more m n (content fs ks) le h = fields_more m n fs le h

  pub fields_more : (m n : ℕ) (fs : Fields) → m ≤ n → AreFieldsShorter m fs → AreFieldsShorter n fs
  fields_more m n no_fields le h = tt
  fields_more m n (field k v fs) le h = (val_more m n v le h.0, fields_more m n fs le h.1)

  pub val_more : (m n : ℕ) (v : Val) → m ≤ n → IsValShorter m v → IsValShorter n v
  val_more m n (number z) le h = tt
  val_more m n (truth b) le h = tt
  val_more m n (text s) le h = tt
  val_more m n (octets b) le h = omega (arith, le, h)
  val_more m n (message c) le h = shorter_more m n c le h
  val_more m n (many vs) le h = vals_more m n vs le h
  val_more m n (keyed ps) le h = pairs_more m n ps le h

  pub vals_more : (m n : ℕ) (vs : Vals) → m ≤ n → AreValsShorter m vs → AreValsShorter n vs
  vals_more m n no_vals le h = tt
  vals_more m n (val v vs) le h = (val_more m n v le h.0, vals_more m n vs le h.1)

  pub pairs_more : (m n : ℕ) (ps : Pairs) → m ≤ n → ArePairsShorter m ps → ArePairsShorter n ps
  pairs_more m n no_pairs le h = tt
  pairs_more m n (pair k v ps) le h = (val_more m n v le h.0, pairs_more m n ps le h.1)
