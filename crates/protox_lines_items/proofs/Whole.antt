-- What comes of a whole stream, from what comes of its blocks.
use Rattle.std.proofs.Common.{◌≡◌, ◌≢◌, ◌++◌, ◌∷◌, ◌∙◌, ◌≤◌, ◌<◌, ◌+◌, ◌-◌, arith, [], ℕ, List, length, take, drop, refl, sym, ap, subst, append_assoc, append-nil, Result, Err}
use Rattle.std.proofs.lemmas.List.{take-append-drop, take-take, length-append, length-take-le, length-drop}
use Rattle.protox_io.specs.Sink.{Appends}
use Rattle.protox_lines_items.specs.Items.{most, stream, More}
use Rattle.protox_lines_items.specs.Told.{Convert, Faulty}
use Rattle.protox_lines_items.specs.Cutting.{Cuts, Stands, BeginsWith, ConvertsBy}
use Rattle.protox_lines_items.specs.Writing.{ForProgress, Goes, EndsBy, Tells, Reading, Answers}
use Rattle.protox_lines_items.specs.declared.error.ItemFault.{ItemFault}
use Rattle.protox_lines_items.specs.declared.error.LineError.{LineError}
use Rattle.protox_lines_items.specs.declared.error.LineError.TheVariants as errors
use Rattle.protox_lines_items.proofs.Endings.{unread_ends, past_ends}
use Rattle.protox_lines_items.proofs.Faults.{ends_more, answer_more}

-- ---- the two clauses

pub told_of : (S T : Type 0) (cuts : Cuts) (c : Convert) (faulty : Faulty) (first now all : List ℕ) (r : Result ℕ LineError)
    → Answers S T cuts c faulty first now all r → S → T → Appends first now (ConvertsBy cuts c faulty all r)
told_of S T cuts c faulty first now all r (bytes, same, h) s t =
    let P : List ℕ → Type 0 = λ z. Appends first now (ConvertsBy cuts c faulty z r) in subst P (sym (same s)) (h t)

pub untold_of : (S T : Type 0) (cuts : Cuts) (c : Convert) (faulty : Faulty) (first now all : List ℕ) (r : Result ℕ LineError)
    → Answers S T cuts c faulty first now all r → T → Appends first now (λ said. (read : List ℕ) × ConvertsBy cuts c faulty read r said)
untold_of S T cuts c faulty first now all r (bytes, same, h) t = let k = h t in record { added = k.added; is = k.is; so = (bytes, k.so) }

-- ---- a block

-- the first bytes of a block, and the others before what is left
pub block_parts : (block left all : List ℕ) (count n : ℕ) → count ≤ n → n ≤ length block → all ≡ take n block ++ left
    → all ≡ take count block ++ (drop count (take n block) ++ left)
block_parts block left all count n few within h =
    h ∙ ap (λ z. z ++ left) (sym (take-append-drop count (take n block)))
    ∙ append_assoc (take count (take n block)) (drop count (take n block)) left
    ∙ ap (λ z. z ++ (drop count (take n block) ++ left)) (take-take count n block few)

-- some of them are left over
pub left_over : (block left : List ℕ) (count n : ℕ) → count < n → n ≤ length block → (drop count (take n block) ++ left) ≢ []
left_over block left count n few within e =
    let long : (n - count) + length left ≡ 0 =
    ap (λ m. (m - count) + length left) (sym (length-take-le n block within)) ∙ ap (λ m. m + length left) (sym (length-drop count (take n block)))
    ∙ sym (length-append (drop count (take n block)) left) ∙ ap length e in
    omega (arith, few, long)

-- the bytes that count have room
pub part_long : (block : List ℕ) (count n : ℕ) → count ≤ n → n ≤ length block → length (take count block) ≡ count
part_long block count n few within = length-take-le count block (omega (arith, few, within))

pub part_room : (block : List ℕ) (read count n : ℕ) → count ≤ n → n ≤ length block → read + count ≤ most → read + length (take count block) ≤ most
part_room block read count n few within room = subst (λ m. read + m ≤ most) (sym (part_long block count n few within)) room

-- nothing is left where no byte came
pub nothing_left : (left : List ℕ) (n room : ℕ) → n ≡ 0 → 0 < room → (0 < room → 0 < length left → 0 < n) → left ≡ []
nothing_left [] n room none some came = refl
nothing_left (x ∷ xs) n room none some came = absurd (omega (arith, none, came some (omega arith)))

-- ---- what is answered

-- the source failed
pub unread_answer : (S T : Type 0) (cuts : Cuts) (cut : Stands) (c : Convert) (faulty : Faulty) (first held gathered : List ℕ) (count : ℕ) (all left : List ℕ) (n : ℕ)
    → (now : List ℕ) (told : LineError) → Reading S T cut c first held gathered count all left n → n ≤ most
    → ((read more : List ℕ) (items : List (List ℕ)) → cut read items → length read ≤ most → BeginsWith cuts (read ++ more) items)
    → (T → Tells held gathered now errors.ReadFault told) → Answers S T cuts c faulty first now all (Err told)
unread_answer S T cuts cut c faulty first held gathered count all left n now told (read, long, split, goes) room begins tells = (
  read ++ left,
  split,
  λ t.
      let so = goes t in
      unread_ends cuts cut c faulty first held gathered count read so.0 (read ++ left) now told so.1
      (begins read left so.0 so.1.is_cut (subst (λ m. m ≤ most) (sym long) room)) (tells t),
)

-- no more bytes follow
pub finish_answer : (S T : Type 0) (cuts : Cuts) (cut : Stands) (c d : Convert) (later faulty : Faulty) (first held gathered : List ℕ) (count : ℕ) (all left : List ℕ) (n : ℕ)
    → (now : List ℕ) (r : Result ℕ LineError) → Reading S T cut c first held gathered count all left n → n ≤ most → (S → left ≡ [])
    → d ≡ c → ((x : List ℕ) (f : ItemFault) → later x f → faulty x f)
    → (T → ForProgress cut d held gathered count (λ first read items. length read ≤ most → Appends first now (ConvertsBy cuts d later read r)))
    → Answers S T cuts c faulty first now all r
finish_answer S T cuts cut c d later faulty first held gathered count all left n now r (read, long, split, goes) room none same faults end = (
  read,
  λ s. split s ∙ ap (λ z. read ++ z) (none s) ∙ append-nil read,
  λ t.
      let so = goes t in
      let P : Convert → Type 0 = λ v. ForProgress cut v held gathered count (λ first read items. length read ≤ most → Appends first now (ConvertsBy cuts v later read r)) in
      answer_more cuts c later faulty faults read r first now ((subst P same (end t)) first read so.0 so.1 (subst (λ m. m ≤ most) (sym long) room)),
)

-- an item of the block is faulty
pub block_answer : (S T : Type 0) (cuts : Cuts) (cut : Stands) (c d : Convert) (later faulty : Faulty) (first held gathered : List ℕ) (count : ℕ) (all left : List ℕ) (n : ℕ)
    → (part rest now : List ℕ) (e : LineError) → Reading S T cut c first held gathered count all left n → n + length part ≤ most → (S → left ≡ part ++ rest)
    → d ≡ c → ((x : List ℕ) (f : ItemFault) → later x f → faulty x f)
    → (T → ForProgress cut d held gathered count (λ first read items. length (read ++ part) ≤ most → EndsBy cuts d later (read ++ part) e first now))
    → Answers S T cuts c faulty first now all (Err e)
block_answer S T cuts cut c d later faulty first held gathered count all left n part rest now e (read, long, split, goes) room more same faults end = (
  (read ++ part) ++ rest,
  λ s. split s ∙ ap (λ z. read ++ z) (more s) ∙ sym (append_assoc read part rest),
  λ t.
      let so = goes t in
      let P : Convert → Type 0 = λ v. ForProgress cut v held gathered count (λ first read items. length (read ++ part) ≤ most → EndsBy cuts v later (read ++ part) e first now) in
      ends_more cuts c later faulty faults (read ++ part) e first now
      ((subst P same (end t)) first read so.0 so.1 (within read part n long room)) rest,
)
  where
    within : (read part : List ℕ) (n : ℕ) → length read ≡ n → n + length part ≤ most → length (read ++ part) ≤ most
    within read part n long room = subst (λ m. m ≤ most) (sym (length-append read part)) (omega (arith, long, room))

-- the block is taken
pub reading_more : (S T : Type 0) (cut later : Stands) (c d : Convert) (first held gathered : List ℕ) (count : ℕ) (all left : List ℕ) (n : ℕ)
    → (part rest next over : List ℕ) (number : ℕ) → Reading S T cut c first held gathered count all left n → n + length part ≤ most → (S → left ≡ part ++ rest)
    → d ≡ c → (T → ForProgress cut d held gathered count (λ first read items. length (read ++ part) ≤ most → Goes later d next over number first (read ++ part)))
    → Reading S T later c first next over number all rest (n + length part)
reading_more S T cut later c d first held gathered count all left n part rest next over number (read, long, split, goes) room more same go = (
  read ++ part,
  length-append read part ∙ ap (λ m. m + length part) long,
  λ s. split s ∙ ap (λ z. read ++ z) (more s) ∙ sym (append_assoc read part rest),
  λ t.
      let so = goes t in
      let P : Convert → Type 0 = λ v. ForProgress cut v held gathered count (λ first read items. length (read ++ part) ≤ most → Goes later v next over number first (read ++ part)) in
      (subst P same (go t)) first read so.0 so.1 (subst (λ m. m ≤ most) (sym (length-append read part)) (omega (arith, long, room))),
)

-- more bytes follow than count
pub past_answer : (S T : Type 0) (cuts : Cuts) (cut : Stands) (c : Convert) (faulty : Faulty) (first held gathered : List ℕ) (count : ℕ) (all left : List ℕ) (n : ℕ)
    → (now : List ℕ) (told : LineError) → Reading S T cut c first held gathered count all left n → n ≡ most → left ≢ []
    → ((read more : List ℕ) (items : List (List ℕ)) → cut read items → length read ≡ most → more ≢ [] → cuts (read ++ more) (stream items More))
    → (T → Tells held gathered now errors.TooMuch told) → Answers S T cuts c faulty first now all (Err told)
past_answer S T cuts cut c faulty first held gathered count all left n now told (read, long, split, goes) full some past tells = (
  read ++ left,
  split,
  λ t.
      let so = goes t in
      past_ends cuts cut c faulty first held gathered count read so.0 (read ++ left) now told so.1 (past read left so.0 so.1.is_cut (long ∙ full) some) (tells t),
)
