-- Worked rows: the definitions at closed values, which follow from the rules of Protocol Buffers "Encoding" by hand.
use Rattle.std.proofs.Common.{◌≡◌, ℕ, ◌+◌, ◌*◌, ◌%◌, ◌^◌, ◌<◌, inl, inr, [], ◌∷◌, Some, None, refl, lit<, lit≤}
use Rattle.pbx_wire.specs.Spelling.{IsVarint, IsKey, SpellsBelow}
use Rattle.pbx_wire.specs.Reading.{records_in, varint_at, key_at, value_at, keyed_at, item_at, items_at, body_at}
use Rattle.pbx_wire.specs.Faults.{IsFault, FaultsBelow}
use Rattle.pbx_wire.specs.declared.error.DecodeError.TheVariants as errors
use Rattle.pbx_wire.specs.declared.rec.Rec.TheVariants as rec

-- ---- what is read

varint_read : records_in 0 (8 ∷ 150 ∷ 1 ∷ []) ≡ Some (rec.Varint 1 150 ∷ [])
unfolding body_at items_at item_at keyed_at key_at varint_at value_at
varint_read = refl

group_read : records_in 1 (27 ∷ 8 ∷ 5 ∷ 28 ∷ []) ≡ Some (rec.Group 3 (rec.Varint 1 5 ∷ []) ∷ [])
unfolding body_at items_at item_at keyed_at key_at varint_at value_at
group_read = refl

group_too_deep : records_in 0 (27 ∷ 8 ∷ 5 ∷ 28 ∷ []) ≡ None
unfolding body_at items_at item_at keyed_at key_at varint_at value_at
group_too_deep = refl

-- ---- which rule is broken, and where

one_byte_varint : (b : ℕ) → b < 128 → b < 2 ^ 64 → b ≡ 0 * 128 + b % 128 → IsVarint (b ∷ []) b
one_byte_varint b small fits e = record { chain = small; short = lit≤ tt; value_is = e; fits = fits }

key_of_group_3 : IsKey (27 ∷ []) 3 3
key_of_group_3 = record { varint = one_byte_varint 27 (lit< tt) (lit< tt) refl; fits = lit< tt; positive = lit< tt }

end_of_group_3 : IsKey (28 ∷ []) 3 4
end_of_group_3 = record { varint = one_byte_varint 28 (lit< tt) (lit< tt) refl; fits = lit< tt; positive = lit< tt }

key_of_type_6 : IsKey (14 ∷ []) 1 6
key_of_type_6 = record { varint = one_byte_varint 14 (lit< tt) (lit< tt) refl; fits = lit< tt; positive = lit< tt }

key_of_number_0 : IsFault 100 (7 ∷ []) (errors.Key 0)
unfolding FaultsBelow
key_of_number_0 = ([], [], 7 ∷ [], errors.Key 0, refl, inl (refl, (7 ∷ [], 7, [], one_byte_varint 7 (lit< tt) (lit< tt) refl, inl (lit< tt), refl)), refl, refl)

type_6 : IsFault 100 (14 ∷ []) (errors.WireType 0)
unfolding FaultsBelow
type_6 = ([], [], 14 ∷ [], errors.WireType 0, refl, inl (refl, (1, 6, [], (14 ∷ [], key_of_type_6, refl), inl refl)), refl, refl)

end_alone : IsFault 100 (28 ∷ []) (errors.EndGroup 0)
unfolding FaultsBelow
end_alone = ([], [], 28 ∷ [], errors.EndGroup 0, refl, inl (refl, (3, [], (28 ∷ [], end_of_group_3, refl), λ e. Prim.cc e)), refl, refl)

no_end : IsFault 100 (27 ∷ []) (errors.Underflow 0)
unfolding FaultsBelow SpellsBelow
no_end = ([], [], 27 ∷ [], errors.Underflow 0, refl, inl (refl, inr (inr (3, [], [], (27 ∷ [], key_of_group_3, refl), refl))), refl, refl)

-- the innermost record: the one inside the group, whose key is at 1
type_6_inside : IsFault 100 (27 ∷ 14 ∷ []) (errors.WireType 1)
unfolding FaultsBelow SpellsBelow
type_6_inside = (
  [],
  [],
  27 ∷ 14 ∷ [],
  errors.WireType 1,
  refl,
  inr (
    27 ∷ [],
    3,
    14 ∷ [],
    errors.WireType 0,
    key_of_group_3,
    ([], [], 14 ∷ [], errors.WireType 0, refl, inl (refl, (1, 6, [], (14 ∷ [], key_of_type_6, refl), inl refl)), refl, refl),
    refl,
    refl,
  ),
  refl,
  refl,
)

group_at_the_limit : IsFault 0 (27 ∷ 28 ∷ []) (errors.TooDeep 0)
unfolding FaultsBelow
group_at_the_limit = ([], [], 27 ∷ 28 ∷ [], errors.TooDeep 0, refl, inl (refl, (refl, (3, 28 ∷ [], (27 ∷ [], key_of_group_3, refl)))), refl, refl)
