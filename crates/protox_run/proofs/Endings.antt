-- From the parts of a run to what holds of the whole.
use Rattle.std.proofs.Common.{◌≡◌, ◌≤◌, ◌++◌, ◌∷◌, ◌∙◌, [], subst, sym, ap, ℕ, List, inl, inr, ◌⊎◌, Result, Ok, Err, OnOk, OnErr, IfErr, Option, Some, None, refl, arith}
use Rattle.protox_io.specs.Disk.{Volume, Stands, SameBut, IsOpen}
use Rattle.protox_io.specs.Paths.{disk_key}
use Rattle.protox_io.specs.Read.{Input as Drawn}
use Rattle.protox_io.specs.Sink.{Appends, Prints}
use Rattle.protox_words.specs.Words.{Args, WordFault, fault_pieces}
use Rattle.protox_run.specs.Class.{Write, Ready, Refusing, Judges, repeated_of}
use Rattle.protox_run.specs.Outcome.{Obeys, Wrote, error_line, notes_at}
use Rattle.protox_run.specs.Stops.{Object, Input, Reading, Writing, Printing, ForArgs, RoseOf, Reached, Untouched, StoppedAt, IsWriteTo, StopsWriting, StopsPrinting, Carrying, LeftBy, Leftover, object_line, memory_line}
use Rattle.protox_run.specs.Parts.{PlanStops, CarryStops, Carries, WriteStops, WritesOne, IsWriteStop, IsPrintStop, IsCarryStop, WorkStops, Works, Comes, Caused, CausedEnd, EndsFor, HasNotes}
use Rattle.protox_run.specs.Run.{ReadsInput}
use Rattle.protox_run.specs.Told.{Stop, Words, Refused, Broken, NoMemory, write_told, stop_told, ended, line_of, status_of}
use Rattle.protox_run.specs.declared.carry.Write.{Write as WriteHeld}
use Rattle.protox_run.specs.declared.stop.Stop.{Stop as StopHeld}

-- ---- writes one after another

pub wrote_both : (first second : List Write) (old middle new : Volume) → Wrote first old middle → Wrote second middle new → Wrote (first ++ second) old new
wrote_both [] second old middle new h k = let P : Volume → Type 0 = λ v. Wrote second v new in subst P h k
wrote_both (w ∷ ws) second old middle new h k = (h.0, h.1, h.2, wrote_both ws second h.0 middle new h.3 k)

pub stopped_first : (first second : List Write) (old new : Volume) → StoppedAt first old new → StoppedAt (first ++ second) old new
stopped_first first second old new h = record {
  done = h.done;
  next = h.next;
  left = h.left ++ second;
  split = ap (λ ws. ws ++ second) h.split ∙ joined h.done (h.next ∷ h.left) second;
  middle = h.middle;
  wrote = h.wrote;
  own = h.own;
  others = h.others;
}
  where
    joined : (a b c : List Write) → (a ++ b) ++ c ≡ a ++ (b ++ c)
    joined [] b c = refl
    joined (x ∷ xs) b c = ap (λ ys. x ∷ ys) (joined xs b c)

pub stopped_second : (first second : List Write) (old middle new : Volume) → Wrote first old middle → StoppedAt second middle new → StoppedAt (first ++ second) old new
stopped_second first second old middle new h k = record {
  done = first ++ k.done;
  next = k.next;
  left = k.left;
  split = ap (λ ws. first ++ ws) k.split ∙ sym (joined first k.done (k.next ∷ k.left));
  middle = k.middle;
  wrote = wrote_both first k.done old middle k.middle h k.wrote;
  own = k.own;
  others = k.others;
}
  where
    joined : (a b c : List Write) → (a ++ b) ++ c ≡ a ++ (b ++ c)
    joined [] b c = refl
    joined (x ∷ xs) b c = ap (λ ys. x ∷ ys) (joined xs b c)

-- one of the first ones was refused
pub write_first : (first second : List Write) (old new : Volume) (stop : Stop) → WriteStops first old new stop → WriteStops (first ++ second) old new stop
unfolding stopped_first
write_first first second old new (Words fault) h = absurd h
write_first first second old new (Refused refusal) h = absurd h
write_first first second old new (Broken Input) h = absurd h
write_first first second old new (Broken (Reading line)) h = absurd h
write_first first second old new (Broken (Writing path)) h = (stopped_first first second old new h.0, h.1)
write_first first second old new (Broken Printing) h = absurd h
write_first first second old new NoMemory h = stopped_first first second old new h

-- behind the first ones, the second ones are done, or one of them is refused
pub wrote_after : {T : Type 0} (first second : List Write) (old middle new : Volume) (r : Result T StopHeld) → Wrote first old middle → WritesOne second middle new r → WritesOne (first ++ second) old new r
unfolding stopped_second
wrote_after first second old middle new (Ok x) h k = wrote_both first second old middle new h k
wrote_after first second old middle new (Err stop) h k = at (stop_told stop) k
  where
    at : (x : Stop) → WriteStops second middle new x → WriteStops (first ++ second) old new x
    at (Words fault) s = absurd s
    at (Refused refusal) s = absurd s
    at (Broken Input) s = absurd s
    at (Broken (Reading line)) s = absurd s
    at (Broken (Writing path)) s = (stopped_second first second old middle new h s.0, s.1)
    at (Broken Printing) s = absurd s
    at NoMemory s = stopped_second first second old middle new h s

-- one write
pub wrote_one : (w : Write) (old new : Volume) → Stands (disk_key w.path) w.bytes new → SameBut (disk_key w.path) old new → Wrote (w ∷ []) old new
wrote_one w old new h k = (new, h, k, refl)

pub stopped_one : (w : Write) (old new : Volume) → IsOpen (disk_key w.path) old new → SameBut (disk_key w.path) old new → StoppedAt (w ∷ []) old new
stopped_one w old new h k = record { done = []; next = w; left = []; split = refl; middle = old; wrote = refl; own = h; others = k }

-- the write of a value, where that is the one
pub stopped_told : (held : Option WriteHeld) (w : WriteHeld) (old new : Volume) → held ≡ Some w → IsOpen (disk_key w.path.now) old new × SameBut (disk_key w.path.now) old new
    → StoppedAt (write_told held) old new
stopped_told held w old new e h =
    let P : Option WriteHeld → Type 0 = λ o. StoppedAt (write_told o) old new in
    subst P (sym e) (stopped_one (record { path = w.path.now; bytes = w.bytes }) old new h.0 h.1)

-- the same with its path
pub stopped_path : (held : Option WriteHeld) (w : WriteHeld) (old new : Volume) → held ≡ Some w → IsOpen (disk_key w.path.now) old new × SameBut (disk_key w.path.now) old new
    → WriteStops (write_told held) old new (Broken (Writing w.path.now))
unfolding stopped_one
stopped_path held w old new e h =
    let P : Option WriteHeld → Type 0 = λ o. WriteStops (write_told o) old new (Broken (Writing w.path.now)) in
    subst P (sym e) (stopped_one (record { path = w.path.now; bytes = w.bytes }) old new h.0 h.1, refl)

-- a path that the first writes go to is one of all, and so is one of the second
pub first_path : (path : List ℕ) (first second : List Write) → IsWriteTo path first → IsWriteTo path (first ++ second)
first_path path [] second h = absurd h
first_path path (w ∷ ws) second (inl e) = inl e
first_path path (w ∷ ws) second (inr h) = inr (first_path path ws second h)

pub second_path : (path : List ℕ) (first second : List Write) → IsWriteTo path second → IsWriteTo path (first ++ second)
second_path path [] second h = h
second_path path (w ∷ ws) second h = inr (second_path path ws second h)

pub first_stop : (first second : List Write) (stop : Stop) → IsWriteStop first stop → IsWriteStop (first ++ second) stop
first_stop first second (Words fault) h = absurd h
first_stop first second (Refused refusal) h = absurd h
first_stop first second (Broken Input) h = absurd h
first_stop first second (Broken (Reading line)) h = absurd h
first_stop first second (Broken (Writing path)) h = first_path path first second h
first_stop first second (Broken Printing) h = absurd h
first_stop first second NoMemory h = tt

pub second_stop : (first second : List Write) (stop : Stop) → IsWriteStop second stop → IsWriteStop (first ++ second) stop
second_stop first second (Words fault) h = absurd h
second_stop first second (Refused refusal) h = absurd h
second_stop first second (Broken Input) h = absurd h
second_stop first second (Broken (Reading line)) h = absurd h
second_stop first second (Broken (Writing path)) h = second_path path first second h
second_stop first second (Broken Printing) h = absurd h
second_stop first second NoMemory h = tt

-- ---- writing and printing

nothing_more : (xs : List ℕ) → xs ≡ xs ++ []
nothing_more [] = refl
nothing_more (x ∷ xs) = ap (λ ys. x ∷ ys) (nothing_more xs)

-- a refused write
pub write_stops : (writes : List Write) (text : List ℕ) (disk later : Volume) (rose refused : Type 0) (stop : Stop) (held : List ℕ) → IsWriteStop writes stop
    → IsCarryStop rose ⊥ stop → WriteStops writes disk later stop → Appends held held (λ out. CarryStops writes text disk later out rose refused stop)
write_stops writes text disk later rose refused stop held h c s = record { added = []; is = nothing_more held; so = at stop h c s }
  where
    at : (x : Stop) → IsWriteStop writes x → IsCarryStop rose ⊥ x → WriteStops writes disk later x → CarryStops writes text disk later [] rose refused x
    at (Words fault) h c s = absurd h
    at (Refused refusal) h c s = absurd h
    at (Broken Input) h c s = absurd h
    at (Broken (Reading line)) h c s = absurd h
    at (Broken (Writing path)) h c s = (h, c, (s.0, s.1, refl))
    at (Broken Printing) h c s = absurd h
    at NoMemory h c s = inl (tt, s, refl)

-- the print behind all writes
pub prints : {T : Type 0} (writes : List Write) (text : List ℕ) (disk later : Volume) (rose refused : Type 0) (r : Result T StopHeld) (old new : List ℕ) → Wrote writes disk later
    → IfErr r (λ stop. IsPrintStop (stop_told stop)) → OnErr r refused → Appends old new (Prints text r) → Appends old new (Carries writes text disk later rose refused r)
prints writes text disk later rose refused (Ok x) old new w p n h = record { added = h.added; is = h.is; so = (w, h.so) }
prints writes text disk later rose refused (Err stop) old new w p n h = record { added = h.added; is = h.is; so = at (stop_told stop) p }
  where
    at : (x : Stop) → IsPrintStop x → CarryStops writes text disk later h.added rose refused x
    at (Words fault) q = absurd q
    at (Refused refusal) q = absurd q
    at (Broken Input) q = absurd q
    at (Broken (Reading line)) q = absurd q
    at (Broken (Writing path)) q = absurd q
    at (Broken Printing) q = (w, n, h.so)
    at NoMemory q = inr (w, n, h.so)

-- ---- the work of a run with arguments

carrying_in : (writes : List Write) (text : List ℕ) (disk before later : Volume) (out : List ℕ) (rose risen refused : Type 0) → before ≡ disk → (risen → rose) → Carrying writes text before later out risen refused → Carrying writes text disk later out rose refused
carrying_in writes text disk before later out rose risen refused e k h =
    let P : Volume → Type 0 = λ d. Carrying writes text d later out risen refused in
    elim (subst P e h) [ inl p ↦ inl (k p.0, p.1, p.2) | inr q ↦ inr q ]

carry_stops : (args : Args) (disk before later : Volume) (input : List ℕ) (writes : List Write) (text out : List ℕ) (rose risen refused : Type 0) (stop : Stop) → Judges args disk input (Ready writes text) → before ≡ disk → (risen → rose)
    → CarryStops writes text before later out risen refused stop → WorkStops args disk input later out rose refused stop
carry_stops args disk before later input writes text out rose risen refused (Words fault) ends e k h = absurd h
carry_stops args disk before later input writes text out rose risen refused (Refused r) ends e k h = absurd h
carry_stops args disk before later input writes text out rose risen refused (Broken Input) ends e k h = absurd h
carry_stops args disk before later input writes text out rose risen refused (Broken (Reading line)) ends e k h = absurd h
carry_stops args disk before later input writes text out rose risen refused (Broken (Writing path)) ends e k h =
    let P : Volume → Type 0 = λ d. StopsWriting path writes d later out in
    (writes, text, ends, (h.0, k h.1, subst P e h.2))
carry_stops args disk before later input writes text out rose risen refused (Broken Printing) ends e k h =
    let P : Volume → Type 0 = λ d. StopsPrinting writes text d later out refused in
    (writes, text, ends, subst P e h)
carry_stops args disk before later input writes text out rose risen refused NoMemory ends e k h =
    inr (writes, text, ends, carrying_in writes text disk before later out (Unit {0}) (Unit {0}) refused e (λ u. u) h)

pub carry_works : {T : Type 0} (args : Args) (disk before later : Volume) (input : List ℕ) (writes : List Write) (text : List ℕ) (rose risen refused : Type 0) (old new : List ℕ) (r : Result T StopHeld) → Judges args disk input (Ready writes text)
    → before ≡ disk → (risen → rose) → Appends old new (Carries writes text before later risen refused r) → Appends old new (Works args disk input later rose refused (ended r))
carry_works args disk before later input writes text rose risen refused old new (Ok x) ends e k h =
    let P : Volume → Type 0 = λ d. Wrote writes d later in
    record { added = h.added; is = h.is; so = (writes, text, ends, (subst P e h.so.0, h.so.1)) }
carry_works args disk before later input writes text rose risen refused old new (Err stop) ends e k h = record {
  added = h.added;
  is = h.is;
  so = carry_stops args disk before later input writes text h.added rose risen refused (stop_told stop) ends e k h.so;
}

untouched : (disk later : Volume) → later ≡ disk → Untouched disk later []
untouched disk later e = record { same = e; silent = refl }

plan_stops : (args : Args) (disk later : Volume) (input : List ℕ) (rose refused : Type 0) (stop : Stop) → later ≡ disk → PlanStops args disk input stop → WorkStops args disk input later [] rose refused stop
plan_stops args disk later input rose refused (Words fault) e h = absurd h
plan_stops args disk later input rose refused (Refused r) e h = (h, untouched disk later e)
plan_stops args disk later input rose refused (Broken Input) e h = (h, untouched disk later e)
plan_stops args disk later input rose refused (Broken (Reading line)) e h = (h, untouched disk later e)
plan_stops args disk later input rose refused (Broken (Writing path)) e h = absurd h
plan_stops args disk later input rose refused (Broken Printing) e h = absurd h
plan_stops args disk later input rose refused NoMemory e h = inl (untouched disk later e)

pub plan_works : (args : Args) (disk later : Volume) (input : List ℕ) (rose refused : Type 0) (old : List ℕ) (stop : Stop) → later ≡ disk → PlanStops args disk input stop
    → Appends old old (Works args disk input later rose refused (Some stop))
plan_works args disk later input rose refused old stop e h = record { added = []; is = nothing_more old; so = plan_stops args disk later input rose refused stop e h }

-- ---- words

module _ (read : Result Args WordFault) where
  pub some_words : (args : Args) (disk later : Volume) (input : List ℕ) (rose refused : Type 0) (old new : List ℕ) (e : Option Stop) → read ≡ Ok args
      → Appends old new (Works args disk input later rose refused e) → Appends old new (Comes read disk input later rose refused e)
  some_words args disk later input rose refused old new e is h =
      let P : Result Args WordFault → Type 0 = λ x. Comes x disk input later rose refused e h.added in
      record { added = h.added; is = h.is; so = subst P (sym is) h.so }

  pub faulty_words : (fault : WordFault) (disk : Volume) (input : List ℕ) (rose refused : Type 0) (old : List ℕ) → read ≡ Err fault → Appends old old (Comes read disk input disk rose refused (Some (Words fault)))
  faulty_words fault disk input rose refused old is =
      let so : Comes (Err fault) disk input disk rose refused (Some (Words fault)) [] = (refl, untouched disk disk refl) in
      let P : Result Args WordFault → Type 0 = λ x. Comes x disk input disk rose refused (Some (Words fault)) [] in
      record { added = []; is = nothing_more old; so = subst P (sym is) so }

  no_room : (disk : Volume) (input : List ℕ) (rose refused : Type 0) (x : Result Args WordFault) → Comes x disk input disk rose refused (Some NoMemory) []
  no_room disk input rose refused (Err fault) = untouched disk disk refl
  no_room disk input rose refused (Ok args) = inl (untouched disk disk refl)

  pub words_memory : (disk : Volume) (input : List ℕ) (rose refused : Type 0) (old : List ℕ) → Appends old old (Comes read disk input disk rose refused (Some NoMemory))
  words_memory disk input rose refused old = record { added = []; is = nothing_more old; so = no_room disk input rose refused read }

  pub ends_some : (args : Args) (disk : ℕ → Type 0) (input out : Type 0) (e : Option Stop) → read ≡ Ok args → CausedEnd args disk input out e → EndsFor read disk input out e
  ends_some args disk input out e is h = let P : Result Args WordFault → Type 0 = λ x. EndsFor x disk input out e in subst P (sym is) h

  pub ends_faulty : (fault : WordFault) (disk : ℕ → Type 0) (input out : Type 0) → read ≡ Err fault → EndsFor read disk input out (Some (Words fault))
  ends_faulty fault disk input out is = let P : Result Args WordFault → Type 0 = λ x. EndsFor x disk input out (Some (Words fault)) in subst P (sym is) refl

  pub ends_memory : (disk : ℕ → Type 0) (input out : Type 0) → EndsFor read disk input out (Some NoMemory)
  ends_memory disk input out = at read
    where
      at : (x : Result Args WordFault) → EndsFor x disk input out (Some NoMemory)
      at (Err fault) = tt
      at (Ok args) = tt

  -- what was read of the input
  pub reads_some : (args : Args) (old new : Drawn) (done : Type 0) → read ≡ Ok args → ReadsInput (Ok args) old new done → ReadsInput read old new done
  reads_some args old new done is h = let P : Result Args WordFault → Type 0 = λ x. ReadsInput x old new done in subst P (sym is) h

  pub reads_nothing : (input : Drawn) (none : Type 0) → (none → ⊥) → ReadsInput read input input none
  reads_nothing input none not_so = at read
    where
      at : (x : Result Args WordFault) → ReadsInput x input input none
      at (Err fault) = refl
      at (Ok args) = ((λ t done. absurd (not_so done)), (λ f. refl))

-- what holds of a result that is done
pub on_done : {T : Type 0} {P : Type 0} (r : Result T StopHeld) → OnOk r P → ended r ≡ None → P
on_done (Ok x) h e = h
on_done (Err stop) h e = absurd (cc)

-- the cause of a stop is that of the end
pub causes_end : {T : Type 0} {P : StopHeld → Type 0} (args : Args) (disk : ℕ → Type 0) (input out : Type 0) (r : Result T StopHeld) → ((stop : StopHeld) → P stop → Caused args disk input out (stop_told stop)) → IfErr r P
    → CausedEnd args disk input out (ended r)
causes_end args disk input out (Ok x) f h = tt
causes_end args disk input out (Err stop) f h = f stop h

-- the notes of the paths of the arguments
pub has_notes : (read : Result Args WordFault) (args : Args) (repeated : List ℕ) → read ≡ Ok args → repeated ≡ repeated_of args → HasNotes read (notes_at args.files repeated)
has_notes read args repeated is e = let P : Result Args WordFault → Type 0 = λ x. HasNotes x (notes_at args.files repeated) in subst P (sym is) (ap (notes_at args.files) e)

-- what holds of a result that is done gives more
pub done_then : {T : Type 0} {P Q : Type 0} (r : Result T StopHeld) → (P → Q) → OnOk r P → OnOk r Q
done_then (Ok x) f h = f h
done_then (Err stop) f h = tt

-- ---- the whole run

pub small : (e : Option Stop) (status : ℕ) → status ≡ status_of e → status ≤ 4
small None status h = omega (arith, h)
small (Some (Words fault)) status h = omega (arith, h)
small (Some (Refused r)) status h = omega (arith, h)
small (Some (Broken object)) status h = omega (arith, h)
small (Some NoMemory) status h = omega (arith, h)

nothing_stopped : (e : Option Stop) (status : ℕ) → status ≡ status_of e → status ≡ 0 → e ≡ None
nothing_stopped None status h z = refl
nothing_stopped (Some (Words fault)) status h z = absurd (omega arith)
nothing_stopped (Some (Refused r)) status h z = absurd (omega arith)
nothing_stopped (Some (Broken object)) status h z = absurd (omega arith)
nothing_stopped (Some NoMemory) status h z = absurd (omega arith)

pub ran_input : (read : Result Args WordFault) (old new : Drawn) (e : Option Stop) (status : ℕ) → status ≡ status_of e → ReadsInput read old new (e ≡ None) → ReadsInput read old new (status ≡ 0)
ran_input (Err fault) old new e status h r = r
ran_input (Ok args) old new e status h r = ((λ t z. r.0 t (nothing_stopped e status h z)), r.1)

-- status 2 comes exactly where the words are faulty, or 4 comes
abbrev pub WordStatus : ℕ → (List ℕ → Type 0) → Result Args WordFault → Type 0
WordStatus status T (Err fault) = ((status ≡ 2) × T (error_line (fault_pieces fault))) ⊎ (status ≡ 4)
WordStatus status T (Ok args) = ¬ (status ≡ 2)

pub ran_words : (read : Result Args WordFault) (disk : ℕ → Type 0) (input out : Type 0) (e : Option Stop) (status : ℕ) (notes : List ℕ) (T : List ℕ → Type 0) → status ≡ status_of e → EndsFor read disk input out e → T (line_of notes e) → WordStatus status T read
ran_words (Err fault) disk input out None status notes T h ends t = absurd ends
ran_words (Err fault) disk input out (Some (Words f)) status notes T h ends t = let P : WordFault → Type 0 = λ x. T (error_line (fault_pieces x)) in inl (h, subst P ends t)
ran_words (Err fault) disk input out (Some (Refused r)) status notes T h ends t = absurd ends
ran_words (Err fault) disk input out (Some (Broken object)) status notes T h ends t = absurd ends
ran_words (Err fault) disk input out (Some NoMemory) status notes T h ends t = inr h
ran_words (Ok args) disk input out None status notes T h ends t = λ two. absurd (omega arith)
ran_words (Ok args) disk input out (Some (Words f)) status notes T h ends t = absurd ends
ran_words (Ok args) disk input out (Some (Refused r)) status notes T h ends t = λ two. absurd (omega arith)
ran_words (Ok args) disk input out (Some (Broken object)) status notes T h ends t = λ two. absurd (omega arith)
ran_words (Ok args) disk input out (Some NoMemory) status notes T h ends t = λ two. absurd (omega arith)

pub ran_memory : (e : Option Stop) (status : ℕ) (notes : List ℕ) (T : List ℕ → Type 0) → status ≡ status_of e → T (line_of notes e) → status ≡ 4 → T (error_line memory_line)
ran_memory None status notes T h t four = absurd (omega arith)
ran_memory (Some (Words fault)) status notes T h t four = absurd (omega arith)
ran_memory (Some (Refused r)) status notes T h t four = absurd (omega arith)
ran_memory (Some (Broken object)) status notes T h t four = absurd (omega arith)
ran_memory (Some NoMemory) status notes T h t four = t

-- which object failed
abbrev pub IsObject : Option Stop → Object → Type 0
IsObject e object = e ≡ Some (Broken object)

pub failed : (e : Option Stop) (status : ℕ) → status ≡ status_of e → status ≡ 3 → (object : Object) × IsObject e object
failed None status h three = absurd (omega arith)
failed (Some (Words fault)) status h three = absurd (omega arith)
failed (Some (Refused r)) status h three = absurd (omega arith)
failed (Some (Broken object)) status h three = (object, refl)
failed (Some NoMemory) status h three = absurd (omega arith)

by_object : (read : Result Args WordFault) (disk : ℕ → Type 0) (input out : Type 0) (object : Object) → EndsFor read disk input out (Some (Broken object)) → ForArgs read (RoseOf disk input out object)
by_object (Err fault) disk input out object h = absurd h
by_object (Ok args) disk input out object h = h

pub rose_of : (read : Result Args WordFault) (disk : ℕ → Type 0) (input out : Type 0) (object : Object) (e : Option Stop) → IsObject e object → EndsFor read disk input out e → ForArgs read (RoseOf disk input out object)
rose_of read disk input out object e is h = let P : Option Stop → Type 0 = λ x. EndsFor read disk input out x in by_object read disk input out object (subst P is h)

pub line_is : (object : Object) (e : Option Stop) (notes : List ℕ) (T : List ℕ → Type 0) → IsObject e object → T (line_of notes e) → T (error_line (object_line object))
line_is object e notes T is t = let P : Option Stop → Type 0 = λ x. T (line_of notes x) in subst P is t

reached_by : (read : Result Args WordFault) (disk later : Volume) (input : List ℕ) (rose refused : Type 0) (object : Object) (out : List ℕ) → Comes read disk input later rose refused (Some (Broken object)) out → ForArgs read (Reached disk input object)
reached_by (Err fault) disk later input rose refused object out h = absurd h
reached_by (Ok args) disk later input rose refused Input out h = h.0
reached_by (Ok args) disk later input rose refused (Reading line) out h = h.0
reached_by (Ok args) disk later input rose refused (Writing path) out h = (h.0, h.1, h.2, h.3.0)
reached_by (Ok args) disk later input rose refused Printing out h = (h.0, h.1, h.2, tt)

pub reached : (read : Result Args WordFault) (disk later : Volume) (input : List ℕ) (rose refused : Type 0) (object : Object) (e : Option Stop) (old new : List ℕ) → IsObject e object
    → Appends old new (Comes read disk input later rose refused e) → ForArgs read (Reached disk input object)
reached read disk later input rose refused object e old new is h =
    let P : Option Stop → Type 0 = λ x. Comes read disk input later rose refused x h.added in
    reached_by read disk later input rose refused object h.added (subst P is h.so)

left_by : (read : Result Args WordFault) (disk later : Volume) (input : List ℕ) (rose refused : Type 0) (object : Object) (out : List ℕ) → Comes read disk input later rose refused (Some (Broken object)) out → LeftBy read disk input later out refused object
left_by (Err fault) disk later input rose refused object out h = absurd h
left_by (Ok args) disk later input rose refused Input out h = h.1
left_by (Ok args) disk later input rose refused (Reading line) out h = h.1
left_by (Ok args) disk later input rose refused (Writing path) out h = (h.0, h.1, h.2, h.3.2)
left_by (Ok args) disk later input rose refused Printing out h = h

pub ran_left : (read : Result Args WordFault) (disk later : Volume) (input : List ℕ) (rose refused : Type 0) (object : Object) (e : Option Stop) (old new : List ℕ) → IsObject e object
    → Appends old new (Comes read disk input later rose refused e) → Appends old new (λ out. LeftBy read disk input later out refused object)
ran_left read disk later input rose refused object e old new is h =
    let P : Option Stop → Type 0 = λ x. Comes read disk input later rose refused x h.added in
    record { added = h.added; is = h.is; so = left_by read disk later input rose refused object h.added (subst P is h.so) }

module _ (disk later : Volume) (input : List ℕ) (rose refused : Type 0) where
  obeys : (read : Result Args WordFault) (e : Option Stop) (notes out : List ℕ) → (e ≡ None → HasNotes read notes) → status_of e ≤ 2 → Comes read disk input later rose refused e out → Obeys read disk input (status_of e) out later (line_of notes e)
  obeys (Err fault) None notes out noted few h = absurd h
  obeys (Err fault) (Some (Words f)) notes out noted few h = (refl, h.1.silent, h.1.same, ap (λ x. error_line (fault_pieces x)) h.0)
  obeys (Err fault) (Some (Refused r)) notes out noted few h = absurd h
  obeys (Err fault) (Some (Broken object)) notes out noted few h = absurd h
  obeys (Err fault) (Some NoMemory) notes out noted few h = absurd (omega arith)
  obeys (Ok args) None notes out noted few h = (Ready h.0 h.1, h.2, (refl, h.3.1, h.3.0, noted refl))
  obeys (Ok args) (Some (Words f)) notes out noted few h = absurd h
  obeys (Ok args) (Some (Refused r)) notes out noted few h = (Refusing r, h.0, (refl, h.1.silent, h.1.same, refl))
  obeys (Ok args) (Some (Broken object)) notes out noted few h = absurd (omega arith)
  obeys (Ok args) (Some NoMemory) notes out noted few h = absurd (omega arith)

  pub ran_outcome : (read : Result Args WordFault) (e : Option Stop) (notes old new : List ℕ) (status : ℕ) → (e ≡ None → HasNotes read notes) → status ≡ status_of e → status ≤ 2 → Appends old new (Comes read disk input later rose refused e) → Appends old new (λ out. Obeys read disk input status out later (line_of notes e))
  ran_outcome read e notes old new status noted h few a = record {
    added = a.added;
    is = a.is;
    so = (let P : ℕ → Type 0 = λ n. Obeys read disk input n a.added later (line_of notes e) in subst P (sym h) (obeys read e notes a.added noted (let Q : ℕ → Type 0 = λ n. n ≤ 2 in subst Q h few) a.so));
  }

  stands : (read : Result Args WordFault) (e : Option Stop) (out : List ℕ) → 3 ≤ status_of e → Comes read disk input later rose refused e out → Leftover read disk input later out (rose ⊎ (status_of e ≡ 4)) refused
  stands (Err fault) None out many h = absurd h
  stands (Err fault) (Some (Words f)) out many h = absurd (omega arith)
  stands (Err fault) (Some (Refused r)) out many h = absurd h
  stands (Err fault) (Some (Broken object)) out many h = absurd h
  stands (Err fault) (Some NoMemory) out many h = inl h
  stands (Ok args) None out many h = absurd (omega arith)
  stands (Ok args) (Some (Words f)) out many h = absurd h
  stands (Ok args) (Some (Refused r)) out many h = absurd (omega arith)
  stands (Ok args) (Some (Broken Input)) out many h = inl h.1
  stands (Ok args) (Some (Broken (Reading line))) out many h = inl h.1
  stands (Ok args) (Some (Broken (Writing path))) out many h = inr (h.0, h.1, h.2, inl (inl h.3.1, h.3.2.0, h.3.2.2))
  stands (Ok args) (Some (Broken Printing)) out many h = inr (h.0, h.1, h.2, inr h.3)
  stands (Ok args) (Some NoMemory) out many (inl h) = inl h
  stands (Ok args) (Some NoMemory) out many (inr h) = inr (h.0, h.1, h.2, carrying_in _ _ _ _ _ _ _ _ _ refl (λ u. inr refl) h.3)

  pub ran_stopped : (read : Result Args WordFault) (e : Option Stop) (old new : List ℕ) (status : ℕ) → status ≡ status_of e → 3 ≤ status → Appends old new (Comes read disk input later rose refused e) → Appends old new (λ out. Leftover read disk input later out (rose ⊎ (status ≡ 4)) refused)
  ran_stopped read e old new status h many a = record {
    added = a.added;
    is = a.is;
    so = (let P : ℕ → Type 0 = λ n. Leftover read disk input later a.added (rose ⊎ (n ≡ 4)) refused in subst P (sym h) (stands read e a.added (let Q : ℕ → Type 0 = λ n. 3 ≤ n in subst Q h many) a.so));
  }
