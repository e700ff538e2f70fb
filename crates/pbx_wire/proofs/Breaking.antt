-- Bytes that break a rule are not read, and reading names that rule.
use Rattle.std.proofs.Common.{◌≡◌, ◌≢◌, ℕ, zero, suc, ◌+◌, ◌-◌, ◌^◌, ◌<◌, ◌≤◌, List, [], ◌∷◌, ◌++◌, length, Some, Result, Ok, Err, ◌⊎◌, inl, inr, refl, sym}
use Rattle.std.proofs.Common.{ap, ◌∙◌, arith, append_assoc, append-nil, length-append}
use Rattle.std.proofs.Math.Nat.{add-zero}
use Rattle.std.proofs.lemmas.Bool.{lt-ltb, le-ltb, ne_eqb}
use Rattle.pbx_wire.specs.declared.error.DecodeError.{DecodeError}
use Rattle.pbx_wire.specs.declared.error.DecodeError.TheVariants as errors
use Rattle.pbx_wire.specs.declared.rec.Rec.{Rec}
use Rattle.pbx_wire.specs.Reading.{Bodies, varint_at, key_at, bytes_at, value_at, keyed_at, next_item_at, item_at, items_at, body_at, all_at, ok_of}
use Rattle.pbx_wire.specs.Spelling.{Body, SpellsAll, SpellsBelow, Spells}
use Rattle.pbx_wire.specs.Faults.{shifted, GoesOn, EndsInVarint, IsLongVarint, BeginsWith, EndsInValue, FaultBody, HasLongVarint, HasBadKey, EndsInRecord}
use Rattle.pbx_wire.specs.Faults.{BreaksItself, Breaks, FaultsLayer, FaultsBelow, IsFault}
use Rattle.pbx_wire.specs.Laws.{RecordsAreSpelled, SpelledOrFaulty, SpelledIsFaultless, FaultIsOne}
use Rattle.pbx_wire.proofs.Steps.{done}
use Rattle.pbx_wire.proofs.Laws.{chain_has, all_found}
use Rattle.pbx_wire.proofs.Again.{varint_again, next_again, item_again, some_bytes, records_fit, body_again, all_again, ReadsBody}
use Rattle.pbx_wire.proofs.Failing.{failed, err_is, shifted_zero, shifted_by, all_fails}

-- ---- numbers

varint_ends : (at more : ℕ) (bytes : List ℕ) → GoesOn bytes → length bytes ≤ more → varint_at at more bytes ≡ Err (errors.Underflow at)
unfolding varint_at
varint_ends at more [] on short = refl
varint_ends at zero (b ∷ bs) on short = absurd (omega arith)
varint_ends at (suc more) (b ∷ bs) (h, on) short = rw (le-ltb b 128 h, varint_ends at more bs on (omega arith)) refl

varint_long : (at more : ℕ) (front : List ℕ) (tenth : ℕ) (rest : List ℕ) → GoesOn front → length front ≡ more → 1 < tenth
    → varint_at at more (front ++ tenth ∷ rest) ≡ Err (errors.Varint at)
unfolding varint_at
varint_long at zero [] tenth rest on nine large = rw (le-ltb tenth 2 large) refl
varint_long at (suc more) [] tenth rest on nine large = absurd (omega arith)
varint_long at zero (b ∷ front) tenth rest on nine large = absurd (omega arith)
varint_long at (suc more) (b ∷ front) tenth rest (h, on) nine large = rw (le-ltb b 128 h, varint_long at more front tenth rest on (omega arith) large) refl

ends_again : (at : ℕ) (bytes : List ℕ) → EndsInVarint bytes → varint_at at 9 bytes ≡ Err (errors.Underflow at)
ends_again at bytes (on, short) = varint_ends at 9 bytes on (omega arith)

long_again : (at : ℕ) (bytes : List ℕ) → IsLongVarint bytes → varint_at at 9 bytes ≡ Err (errors.Varint at)
long_again at bytes (front, tenth, rest, on, nine, large, parts) = rw parts (varint_long at 9 front tenth rest on nine large)

bad_key_again : (at : ℕ) (bytes : List ℕ) → HasBadKey bytes → key_at at bytes ≡ Err (errors.Key at)
unfolding key_at
bad_key_again at bytes (key, value, rest, is, inl small, parts) =
    let fits : value < 2 ^ 32 = omega arith in
    rw (parts, varint_again at key rest value is, lt-ltb value (2 ^ 32) fits, lt-ltb value 8 small) refl
bad_key_again at bytes (key, value, rest, is, inr large, parts) =
    rw (parts, varint_again at key rest value is, le-ltb value (2 ^ 32) large) refl

bytes_end : (at len : ℕ) (bytes : List ℕ) → length bytes < len → bytes_at at len bytes ≡ Err (errors.Underflow at)
bytes_end at len bytes short = rw (lt-ltb (length bytes) len short) refl

-- ---- the record at the front

-- what is read behind a key of this wire_type is read so as a whole
behind_key_again : (body : Bodies) (group at number wire_type : ℕ) (rest bytes : List ℕ) (e : DecodeError) → wire_type < 8 → BeginsWith number wire_type rest bytes
    → keyed_at body group at number wire_type rest ≡ Err e
    → next_item_at body group at bytes ≡ Err e
behind_key_again body group at number wire_type rest bytes e small (key, k, parts) h = rw (parts, next_again body group at number wire_type key rest small k) h

key_fault_again : (body : Bodies) (group at : ℕ) (bytes : List ℕ) (e : DecodeError) → key_at at bytes ≡ Err e → next_item_at body group at bytes ≡ Err e
key_fault_again body group at bytes e h = rw h refl

varint_fault_again : (body : Bodies) (group at : ℕ) (bytes : List ℕ) (e : DecodeError) → varint_at at 9 bytes ≡ Err e → next_item_at body group at bytes ≡ Err e
unfolding key_at
varint_fault_again body group at bytes e h = rw h refl

-- a number behind the key of a varint, or of bytes
number_fault_again : (body : Bodies) (group at number wire_type : ℕ) (rest : List ℕ) (e : DecodeError) → (wire_type ≡ 0) ⊎ (wire_type ≡ 2) → varint_at at 9 rest ≡ Err e
    → keyed_at body group at number wire_type rest ≡ Err e
unfolding keyed_at value_at
number_fault_again body group at number wire_type rest e (inl k) h = rw (k, h) refl
number_fault_again body group at number wire_type rest e (inr k) h = rw (k, h) refl

number_kind : (wire_type : ℕ) → (wire_type ≡ 0) ⊎ (wire_type ≡ 2) → wire_type < 8
number_kind wire_type (inl k) = omega arith
number_kind wire_type (inr k) = omega arith

ended_value_again : (body : Bodies) (group at number wire_type : ℕ) (rest : List ℕ) → EndsInValue wire_type rest
    → (wire_type < 8) × (keyed_at body group at number wire_type rest ≡ Err (errors.Underflow at))
unfolding keyed_at value_at
ended_value_again body group at number wire_type rest (inl (k, ends)) =
    (number_kind wire_type k, number_fault_again body group at number wire_type rest (errors.Underflow at) k (ends_again at rest ends))
ended_value_again body group at number wire_type rest (inr (inl (k, short))) = (omega arith, rw (k, bytes_end at 8 rest short) refl)
ended_value_again body group at number wire_type rest (inr (inr (inl (k, (len, n, payload, is, short, parts))))) =
    (omega arith, rw (k, parts, varint_again at len payload n is, bytes_end at n payload short) refl)
ended_value_again body group at number wire_type rest (inr (inr (inr (k, short)))) = (omega arith, rw (k, bytes_end at 4 rest short) refl)

-- a body of which what breaks a rule is not read
pub record BreaksBody (body : Bodies) (spells : Body) (faults : FaultBody) (levels total : ℕ) : Type 0 where
  pub reads : ReadsBody body spells
  pub breaks : (group from : ℕ) (bytes : List ℕ) (e : DecodeError) → length bytes ≤ total → faults group bytes e
      → body group from bytes ≡ Err (shifted (total - length bytes) e)
  pub ends : (group from : ℕ) (bytes : List ℕ) (rs : List Rec) → group ≢ 0 → spells bytes rs → body group from bytes ≡ Err (errors.Underflow from)
  pub deep : (group from : ℕ) (bytes : List ℕ) → levels ≡ 0 → body group from bytes ≡ Err (errors.TooDeep from)

group_fault_again : (body : Bodies) (group at number : ℕ) (rest : List ℕ) (e : DecodeError) → body number at rest ≡ Err e
    → keyed_at body group at number 3 rest ≡ Err e
unfolding keyed_at
group_fault_again body group at number rest e h = rw h refl

other_end_again : (body : Bodies) (group at number : ℕ) (rest : List ℕ) → number ≢ group → keyed_at body group at number 4 rest ≡ Err (errors.EndGroup at)
unfolding keyed_at
other_end_again body group at number rest h = rw (ne_eqb number group h) refl

bad_type_again : (body : Bodies) (group at number wire_type : ℕ) (rest : List ℕ) → (wire_type ≡ 6) ⊎ (wire_type ≡ 7)
    → (wire_type < 8) × (keyed_at body group at number wire_type rest ≡ Err (errors.WireType at))
unfolding keyed_at value_at
bad_type_again body group at number wire_type rest (inl k) = (omega arith, rw k refl)
bad_type_again body group at number wire_type rest (inr k) = (omega arith, rw k refl)

long_varint_again : (body : Bodies) (group at : ℕ) (bytes : List ℕ) → HasLongVarint bytes → next_item_at body group at bytes ≡ Err (errors.Varint at)
long_varint_again body group at bytes (inl long) = varint_fault_again body group at bytes _ (long_again at bytes long)
long_varint_again body group at bytes (inr (number, wire_type, rest, begins, k, long)) =
    behind_key_again body group at number wire_type rest bytes _ (number_kind wire_type k) begins
    (number_fault_again body group at number wire_type rest _ k (long_again at rest long))

positive_number : (number wire_type : ℕ) (rest bytes : List ℕ) → BeginsWith number wire_type rest bytes → number ≢ 0
positive_number number wire_type rest bytes (key, k, parts) z = absurd (omega (arith, k.positive))

ended_again : (body : Bodies) (spells : Body) (faults : FaultBody) (levels total : ℕ) → BreaksBody body spells faults levels total
    → (group at : ℕ) (bytes : List ℕ) → EndsInRecord spells bytes → next_item_at body group at bytes ≡ Err (errors.Underflow at)
ended_again body spells faults levels total again group at bytes (inl (some, ends)) = varint_fault_again body group at bytes _ (ends_again at bytes ends)
ended_again body spells faults levels total again group at bytes (inr (inl (number, wire_type, rest, begins, ends))) =
    let h = ended_value_again body group at number wire_type rest ends in
    behind_key_again body group at number wire_type rest bytes _ h.0 begins h.1
ended_again body spells faults levels total again group at bytes (inr (inr (number, rest, rs, begins, s))) =
    let open_ = positive_number number 3 rest bytes begins in
    behind_key_again body group at number 3 rest bytes _ (omega arith) begins
    (group_fault_again body group at number rest _ (again.ends number at rest rs open_ s))

itself_again : (body : Bodies) (spells : Body) (faults : FaultBody) (levels total : ℕ) → BreaksBody body spells faults levels total
    → (group at : ℕ) (bytes : List ℕ) (e : DecodeError) → BreaksItself spells levels group bytes e
    → next_item_at body group at bytes ≡ Err (shifted at e)
itself_again body spells faults levels total again group at bytes (errors.Varint n) (z, h) = rw (z, add-zero) (long_varint_again body group at bytes h)
itself_again body spells faults levels total again group at bytes (errors.Key n) (z, h) =
    rw (z, add-zero) (key_fault_again body group at bytes _ (bad_key_again at bytes h))
itself_again body spells faults levels total again group at bytes (errors.WireType n) (z, (number, wire_type, rest, begins, of)) =
    let h = bad_type_again body group at number wire_type rest of in
    rw (z, add-zero) (behind_key_again body group at number wire_type rest bytes _ h.0 begins h.1)
itself_again body spells faults levels total again group at bytes (errors.Underflow n) (z, h) =
    rw (z, add-zero) (ended_again body spells faults levels total again group at bytes h)
itself_again body spells faults levels total again group at bytes (errors.Utf8 n) h = absurd h
itself_again body spells faults levels total again group at bytes (errors.EndGroup n) (z, (number, rest, begins, other)) =
    rw (z, add-zero) (behind_key_again body group at number 4 rest bytes _ (omega arith) begins (other_end_again body group at number rest other))
itself_again body spells faults levels total again group at bytes (errors.TooDeep n) (z, (none, (number, rest, begins))) =
    rw (z, add-zero) (behind_key_again body group at number 3 rest bytes _ (omega arith) begins
    (group_fault_again body group at number rest _ (again.deep number at rest none)))
itself_again body spells faults levels total again group at bytes errors.NoMemory h = absurd h

breaks_again : (body : Bodies) (spells : Body) (faults : FaultBody) (levels total : ℕ) → BreaksBody body spells faults levels total
    → (group : ℕ) (bytes : List ℕ) (e : DecodeError) → length bytes ≤ total
    → Breaks spells faults levels group bytes e → next_item_at body group (total - length bytes) bytes ≡ Err (shifted (total - length bytes) e)
breaks_again body spells faults levels total again group bytes e within (inl h) =
    itself_again body spells faults levels total again group (total - length bytes) bytes e h
breaks_again body spells faults levels total again group bytes e within (inr (key, number, rest, inner, k, f, parts, told)) =
    let at = total - length bytes in
    let whole : length bytes ≡ length key + length rest = ap length parts ∙ length-append key rest in
    let inside : body number at rest ≡ Err (shifted (total - length rest) inner) = again.breaks number at rest inner (omega (arith, whole)) f in
    let moved : body number at rest ≡ Err (shifted at e) = rw told (inside ∙ ap failed (shifted_by total (length key) bytes rest inner whole within)) in
    behind_key_again body group at number 3 rest bytes _ (omega arith) (key, k, parts) (group_fault_again body group at number rest _ moved)

-- no bytes break no rule
begins_some : (number wire_type : ℕ) (rest bytes : List ℕ) → BeginsWith number wire_type rest bytes → 0 < length bytes
begins_some number wire_type rest bytes (key, k, parts) = omega (arith, ap length parts, length-append key rest, chain_has key k.varint.chain)

long_some : (bytes : List ℕ) → IsLongVarint bytes → 0 < length bytes
long_some bytes (front, tenth, rest, on, nine, large, parts) = omega (arith, ap length parts, length-append front (tenth ∷ rest))

not_empty : (bytes : List ℕ) → bytes ≢ [] → 0 < length bytes
not_empty [] h = absurd (h refl)
not_empty (b ∷ bytes) h = omega arith

itself_some : (spells : Body) (levels group : ℕ) (bytes : List ℕ) (e : DecodeError) → BreaksItself spells levels group bytes e → 0 < length bytes
itself_some spells levels group bytes (errors.Varint n) (z, inl long) = long_some bytes long
itself_some spells levels group bytes (errors.Varint n) (z, inr (number, wire_type, rest, begins, k, long)) = begins_some number wire_type rest bytes begins
itself_some spells levels group bytes (errors.Key n) (z, (key, value, rest, is, bad, parts)) =
    omega (arith, ap length parts, length-append key rest, chain_has key is.chain)
itself_some spells levels group bytes (errors.WireType n) (z, (number, wire_type, rest, begins, of)) = begins_some number wire_type rest bytes begins
itself_some spells levels group bytes (errors.Underflow n) (z, inl (some, ends)) = not_empty bytes some
itself_some spells levels group bytes (errors.Underflow n) (z, inr (inl (number, wire_type, rest, begins, ends))) = begins_some number wire_type rest bytes begins
itself_some spells levels group bytes (errors.Underflow n) (z, inr (inr (number, rest, rs, begins, s))) = begins_some number 3 rest bytes begins
itself_some spells levels group bytes (errors.Utf8 n) h = absurd h
itself_some spells levels group bytes (errors.EndGroup n) (z, (number, rest, begins, other)) = begins_some number 4 rest bytes begins
itself_some spells levels group bytes (errors.TooDeep n) (z, (none, (number, rest, begins))) = begins_some number 3 rest bytes begins
itself_some spells levels group bytes errors.NoMemory h = absurd h

something : (spells : Body) (faults : FaultBody) (levels group : ℕ) (bytes : List ℕ) (e : DecodeError) → Breaks spells faults levels group bytes e
    → 0 < length bytes
something spells faults levels group bytes e (inl h) = itself_some spells levels group bytes e h
something spells faults levels group bytes e (inr (key, number, rest, inner, k, f, parts, told)) = begins_some number 3 rest bytes (key, k, parts)

broken_item_again : (body : Bodies) (spells : Body) (faults : FaultBody) (levels total : ℕ) → BreaksBody body spells faults levels total
    → (group from : ℕ) (bytes : List ℕ) (e : DecodeError) → length bytes ≤ total
    → Breaks spells faults levels group bytes e → item_at body total group from bytes ≡ Err (shifted (total - length bytes) e)
unfolding item_at
broken_item_again body spells faults levels total again group from bytes e within h =
    rw (some_bytes bytes (something spells faults levels group bytes e h)) (breaks_again body spells faults levels total again group bytes e within h)

-- ---- all records

items_break : (body : Bodies) (inner : Body) → ReadsBody body inner → (total group from turns : ℕ) (rs : List Rec) (before rest : List ℕ) (e : DecodeError)
    → SpellsAll inner before rs → length rs < turns
    → item_at body total group from rest ≡ Err e → items_at (item_at body total group from) turns (before ++ rest) ≡ Err e
unfolding items_at
items_break body inner reads total group from zero rs before rest e s enough h = absurd (omega arith)
items_break body inner reads total group from (suc turns) [] before rest e s enough h = rw (s, h) refl
items_break body inner reads total group from (suc turns) (r ∷ rs) before rest e s enough h =
    let apart : before ++ rest ≡ s.0 ++ (s.1 ++ rest) = rw s.4 (append_assoc s.0 s.1 rest) in
    rw (
      apart,
      item_again body inner reads total group from r s.0 (s.1 ++ rest) s.2,
      items_break body inner reads total group from turns rs s.1 rest e s.3
          (omega arith) h,
    ) refl

-- nothing is left in a group
open_item : (body : Bodies) (total group from : ℕ) → group ≢ 0 → item_at body total group from [] ≡ Err (errors.Underflow from)
unfolding item_at
open_item body total group from h = rw (ne_eqb group 0 h) refl

items_end : (body : Bodies) (inner : Body) → ReadsBody body inner → (total group from : ℕ) (bytes : List ℕ) (rs : List Rec) → group ≢ 0
    → SpellsAll inner bytes rs
    → items_at (item_at body total group from) (suc (length bytes)) bytes ≡ Err (errors.Underflow from)
items_end body inner reads total group from bytes rs h s =
    let enough : length rs < suc (length bytes) = omega (arith, records_fit inner rs bytes s) in
    rw append-nil at (items_break body inner reads total group from (suc (length bytes)) rs bytes [] (errors.Underflow from) s enough
    (open_item body total group from h))

layer_breaks : (body : Bodies) (spells : Body) (faults : FaultBody) (levels total : ℕ) → BreaksBody body spells faults levels total
    → (group from : ℕ) (bytes : List ℕ) (e : DecodeError) → length bytes ≤ total
    → FaultsLayer spells faults levels group bytes e
    → items_at (item_at body total group from) (suc (length bytes)) bytes ≡ Err (shifted (total - length bytes) e)
layer_breaks body spells faults levels total again group from bytes e within (before, rs, rest, own, s, breaks, parts, told) =
    let whole : length bytes ≡ length before + length rest = ap length parts ∙ length-append before rest in
    let enough : length rs < suc (length bytes) = omega (arith, records_fit spells rs before s, whole) in
    let read = broken_item_again body spells faults levels total again group from rest own (omega (arith, whole)) breaks in
    let all = items_break body spells again.reads total group from (suc (length bytes)) rs before rest _ s enough read in
    let moved : shifted (total - length rest) own ≡ shifted (total - length bytes) e = shifted_by total (length before) bytes rest own whole
    within ∙ ap (λ d. shifted (total - length bytes) d) (sym told) in
    ap (λ b. items_at (item_at body total group from) (suc (length bytes)) b) parts ∙ (all ∙ ap failed moved)

body_breaks : (total levels : ℕ) → BreaksBody (body_at total levels) (SpellsBelow levels) (FaultsBelow levels) levels total
unfolding body_at SpellsBelow FaultsBelow
body_breaks total zero = record {
  reads = body_again total zero;
  breaks = λ group from bytes e within h. absurd h;
  ends = λ group from bytes rs h s. absurd s;
  deep = λ group from bytes h. refl;
}
body_breaks total (suc levels) = record {
  reads = body_again total (suc levels);
  breaks = λ group from bytes e within h. layer_breaks (body_at total levels) (SpellsBelow levels) (FaultsBelow levels) levels total
      (body_breaks total levels) group from bytes e within h;
  ends = λ group from bytes rs h s. items_end (body_at total levels) (SpellsBelow levels) (body_again total levels) total group from bytes rs h s;
  deep = λ group from bytes h. absurd (omega (arith, h));
}

-- bytes that break a rule are not read, and reading names the rule
pub all_break : (levels : ℕ) (bytes : List ℕ) (e : DecodeError) → IsFault levels bytes e → all_at levels bytes ≡ Err e
all_break levels bytes e h =
    let read = (body_breaks (length bytes) (suc levels)).breaks 0 0 bytes e (omega arith) h in
    let front : length bytes - length bytes ≡ 0 = omega arith in
    let same : body_at (length bytes) (suc levels) 0 0 bytes ≡ Err e = rw (front, shifted_zero) at read in
    rw same refl

-- ---- the laws

some_is : (a b : List Rec) → Some a ≡ Some b → a ≡ b
some_is a b e = cc

ok_is_some : (r : Result (List Rec) DecodeError) (rs : List Rec) → ok_of r ≡ Some rs → r ≡ Ok rs
ok_is_some (Ok x) rs e = ap (λ (x : List Rec). Ok x) (some_is x rs e)
ok_is_some (Err d) rs e = absurd cc

pub are_spelled : RecordsAreSpelled
are_spelled levels bytes rs = (λ h. all_found levels bytes rs (ok_is_some (all_at levels bytes) rs h), λ s. rw (all_again levels bytes rs s) refl)

spelled_or : (levels : ℕ) (bytes : List ℕ) (r : Result (List Rec) DecodeError) → all_at levels bytes ≡ r
    → ((rs : List Rec) × Spells levels bytes rs) ⊎ ((e : DecodeError) × IsFault levels bytes e)
spelled_or levels bytes (Ok rs) h = inl (rs, all_found levels bytes rs h)
spelled_or levels bytes (Err e) h = inr (e, all_fails levels bytes e h)

pub either : SpelledOrFaulty
either levels bytes = spelled_or levels bytes (all_at levels bytes) refl

ok_not_err : (rs : List Rec) (e : DecodeError) → done rs ≡ failed e → ⊥
ok_not_err rs e h = absurd cc

pub not_both : SpelledIsFaultless
not_both levels bytes rs e s f = ok_not_err rs e (sym (all_again levels bytes rs s) ∙ all_break levels bytes e f)

pub one_fault : FaultIsOne
one_fault levels bytes e f h k = err_is {A = List Rec} e f (sym (all_break levels bytes e h) ∙ all_break levels bytes f k)
