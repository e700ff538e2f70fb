-- What a run that was stopped leaves at each key of the disk.
use Rattle.std.proofs.Common.{◌≡◌, ◌∙◌, ◌⊎◌, ◌≤◌, ◌++◌, ◌∷◌, [], inl, inr, ℕ, List, Bool, true, false, Option, Some, None, Result, Ok, Err, ap, sym, subst, refl}
use Rattle.pbx_desc_records.specs.declared.file.FileDescriptorProto.{FileDescriptorProto}
use Rattle.protox_io.specs.Disk.{Volume, Stands, SameBut}
use Rattle.protox_io.specs.Paths.{Component, disk_key, key_eq}
use Rattle.protox_io.proofs.Keys.{key_decides}
use Rattle.protox_words.specs.Words.{Args, WordFault, args_of}
use Rattle.protox_run.specs.Class.{Write, write_to, Ready, WritesSet, set_of, Task, Generate, Transcode, Compile, task, ComesTo, Judges}
use Rattle.protox_run.specs.Laws.{IsWritePath, IsSameAt, IsWriteAt, IsWrittenAt, IsOpenAt, OthersStay, WrittenOrOpen}
use Rattle.protox_run.specs.Outcome.{Wrote}
use Rattle.protox_run.specs.Run.{Run, AllTell, Runs}
use Rattle.protox_run.specs.Stops.{IsWriteTo, StoppedAt, Carrying, Leftover, ForReady}

-- two keys are one, or not
decide : (a b : List Component) → (a ≡ b) ⊎ (¬ (a ≡ b))
decide a b = at (key_eq a b) refl
  where
    at : (v : Bool) → key_eq a b ≡ v → (a ≡ b) ⊎ (¬ (a ≡ b))
    at true e = inl ((key_decides a b).0 e)
    at false e = inr (λ same. let yes : key_eq a b ≡ true = (key_decides a b).1 same in let no : true ≡ false = sym yes ∙ e in cc)

same_disk : (key : List Component) (old new : Volume) → new ≡ old → IsSameAt key old new
same_disk key old new e = (ap (λ (v : Volume). v.holds key) e, ap (λ (v : Volume). v.spoiled key) e)

then_same : (key : List Component) (old middle new : Volume) → IsSameAt key old middle → IsSameAt key middle new → IsSameAt key old new
then_same key old middle new h k = (k.0 ∙ h.0, k.1 ∙ h.1)

-- the bytes that stand at a key that stays
then_stands : (key : List Component) (bytes : List ℕ) (middle new : Volume) → Stands key bytes middle → IsSameAt key middle new → Stands key bytes new
then_stands key bytes middle new h k = record { holds = k.0 ∙ h.holds; known = k.1 ∙ h.known }

-- ---- writes

at_front : (path : List ℕ) (xs ys : List Write) → IsWriteTo path xs → IsWriteTo path (xs ++ ys)
at_front path [] ys h = absurd h
at_front path (x ∷ xs) ys (inl h) = inl h
at_front path (x ∷ xs) ys (inr h) = inr (at_front path xs ys h)

at_middle : (xs ys : List Write) (w : Write) → IsWriteTo w.path (xs ++ w ∷ ys)
at_middle [] ys w = inl refl
at_middle (x ∷ xs) ys w = inr (at_middle xs ys w)

front_at : (key : List Component) (bytes : List ℕ) (xs ys : List Write) → IsWriteAt key bytes xs → IsWriteAt key bytes (xs ++ ys)
front_at key bytes [] ys h = absurd h
front_at key bytes (x ∷ xs) ys (inl h) = inl h
front_at key bytes (x ∷ xs) ys (inr h) = inr (front_at key bytes xs ys h)

in_parts : (path : List ℕ) (xs ys : List Write) → IsWriteTo path (xs ++ ys) → IsWriteTo path xs ⊎ IsWriteTo path ys
in_parts path [] ys h = inr h
in_parts path (x ∷ xs) ys (inl h) = inl (inl h)
in_parts path (x ∷ xs) ys (inr h) = at (in_parts path xs ys h)
  where
    at : IsWriteTo path xs ⊎ IsWriteTo path ys → IsWriteTo path (x ∷ xs) ⊎ IsWriteTo path ys
    at (inl k) = inl (inr k)
    at (inr k) = inr k

given_path : (path : List ℕ) (o : Option (List ℕ)) (bytes : List ℕ) → IsWriteTo path (write_to o bytes) → o ≡ Some path
given_path path None bytes h = absurd h
given_path path (Some p) bytes (inl h) = ap (λ (q : List ℕ). Some q) (sym h)
given_path path (Some p) bytes (inr h) = absurd h

no_write : (path : List ℕ) (writes : List Write) → writes ≡ [] → IsWriteTo path writes → ⊥
no_write path writes e h = let P : List Write → Type 0 = λ ws. IsWriteTo path ws in subst P e h

set_path : (path : List ℕ) (o : Option (List ℕ)) (files : List FileDescriptorProto) (writes : List Write) → WritesSet o files writes → IsWriteTo path writes → o ≡ Some path
set_path path None files writes h i = absurd (no_write path writes h i)
set_path path (Some p) files writes h i =
    let P : List Write → Type 0 = λ ws. IsWriteTo path ws in
    given_path path (Some p) h.1.0 (subst P h.1.2 i)

-- the writes go to the paths of the set and of the wire bytes
written_paths : (args : Args) (disk : Volume) (input : List ℕ) (writes : List Write) (text : List ℕ) → Judges args disk input (Ready writes text) → (path : List ℕ) → IsWriteTo path writes → IsWritePath (Ok args) path
written_paths args disk input writes text h path i = at (task args) h
  where
    at : (o : Task) → ComesTo o args disk input (Ready writes text) → (args.output ≡ Some path) ⊎ (args.wire ≡ Some path)
    at (Generate number) g = absurd (no_write path writes g.0 i)
    at Compile c = inl (set_path path args.output (set_of args c.2.0.2.0) writes c.2.0.2.2 i)
    at (Transcode name) t = parts (in_parts path (write_to args.output t.1.2.2.0) (write_to args.wire t.1.2.2.1) (let P : List Write → Type 0 = λ ws. IsWriteTo path ws in subst P t.1.2.2.4 i))
      where
        parts : IsWriteTo path (write_to args.output t.1.2.2.0) ⊎ IsWriteTo path (write_to args.wire t.1.2.2.1) → (args.output ≡ Some path) ⊎ (args.wire ≡ Some path)
        parts (inl k) = inl (given_path path args.output t.1.2.2.0 k)
        parts (inr k) = inr (given_path path args.wire t.1.2.2.1 k)

-- ---- what writes leave at a key

wrote_others : (key : List Component) (ws : List Write) (old new : Volume) → ((path : List ℕ) → IsWriteTo path ws → ¬ (key ≡ disk_key path)) → Wrote ws old new → IsSameAt key old new
wrote_others key [] old new n h = same_disk key old new h
wrote_others key (w ∷ ws) old new n h =
    then_same key old h.0 new (h.2 key (n w.path (inl refl))) (wrote_others key ws h.0 new (λ path i. n path (inr i)) h.3)

abbrev Written : List Component → List Write → Volume → Type 0
Written key ws new = (bytes : List ℕ) × IsWriteAt key bytes ws × Stands key bytes new

wrote_at : (key : List Component) (ws : List Write) (old new : Volume) → Wrote ws old new → IsSameAt key old new ⊎ Written key ws new
wrote_at key [] old new h = inl (same_disk key old new h)
wrote_at key (w ∷ ws) old new h = at (wrote_at key ws h.0 new h.3) (decide key (disk_key w.path))
  where
    at : IsSameAt key h.0 new ⊎ Written key ws new → (key ≡ disk_key w.path) ⊎ (¬ (key ≡ disk_key w.path)) → IsSameAt key old new ⊎ Written key (w ∷ ws) new
    at (inr r) d = inr (r.0, inr r.1, r.2)
    at (inl same) (inl e) =
        let P : List Component → Type 0 = λ k. Stands k w.bytes h.0 in
        inr (w.bytes, inl (sym e, refl), then_stands key w.bytes h.0 new (subst P (sym e) h.1) same)
    at (inl same) (inr n) = inl (then_same key old h.0 new (h.2 key n) same)

module _ (key : List Component) (writes : List Write) (old new : Volume) (s : StoppedAt writes old new) where
  abbrev ByKey : List Write → Type 0
  ByKey ws = (path : List ℕ) → IsWriteTo path ws → ¬ (key ≡ disk_key path)

  stopped_others : ByKey writes → IsSameAt key old new
  stopped_others n =
      let all : ByKey (s.done ++ s.next ∷ s.left) = (let P : List Write → Type 0 = λ ws. ByKey ws in subst P s.split n) in
      then_same key old s.middle new (wrote_others key s.done old s.middle (λ path i. all path (at_front path s.done (s.next ∷ s.left) i)) s.wrote)
      (s.others key (all s.next.path (at_middle s.done s.left s.next)))

  stopped_at : IsSameAt key old new ⊎ (Written key writes new ⊎ (disk_key s.next.path ≡ key))
  stopped_at = at (decide key (disk_key s.next.path)) (wrote_at key s.done old s.middle s.wrote)
    where
      at : (key ≡ disk_key s.next.path) ⊎ (¬ (key ≡ disk_key s.next.path)) → IsSameAt key old s.middle ⊎ Written key s.done s.middle → IsSameAt key old new ⊎ (Written key writes new ⊎ (disk_key s.next.path ≡ key))
      at (inl e) w = inr (inr (sym e))
      at (inr n) (inl same) = inl (then_same key old s.middle new same (s.others key n))
      at (inr n) (inr w) =
          let P : List Write → Type 0 = λ ws. IsWriteAt key w.0 ws in
          inr (inl (w.0, subst P (sym s.split) (front_at key w.0 s.done (s.next ∷ s.left) w.1), then_stands key w.0 s.middle new w.2 (s.others key n)))

-- ---- what a run leaves at a key

module _ (key : List Component) (old new : Volume) (input out : List ℕ) (path_refused out_refused : Type 0) where
  left_others : (read : Result Args WordFault) → ((path : List ℕ) → IsWritePath read path → ¬ (key ≡ disk_key path)) → Leftover read old input new out path_refused out_refused → IsSameAt key old new
  left_others read n (inl u) = same_disk key old new u.same
  left_others (Err fault) n (inr h) = absurd h
  left_others (Ok args) n (inr h) = at h.3
    where
      others : (path : List ℕ) → IsWriteTo path h.0 → ¬ (key ≡ disk_key path)
      others path i = n path (written_paths args old input h.0 h.1 h.2 path i)

      at : Carrying h.0 h.1 old new out path_refused out_refused → IsSameAt key old new
      at (inl c) = stopped_others key h.0 old new c.1 others
      at (inr c) = wrote_others key h.0 old new others c.0

  left_at : (read : Result Args WordFault) → Leftover read old input new out path_refused out_refused → IsSameAt key old new ⊎ (IsWrittenAt read old input new key ⊎ (path_refused × IsOpenAt read old input new key))
  left_at read (inl u) = inl (same_disk key old new u.same)
  left_at (Err fault) (inr h) = absurd h
  left_at (Ok args) (inr h) = at h.3
    where
      both : IsSameAt key old new ⊎ Written key h.0 new → IsSameAt key old new ⊎ (IsWrittenAt (Ok args) old input new key ⊎ (path_refused × IsOpenAt (Ok args) old input new key))
      both (inl k) = inl k
      both (inr k) = inr (inl (h.0, h.1, h.2, k))

      stop : path_refused → (s : StoppedAt h.0 old new) → IsSameAt key old new ⊎ (Written key h.0 new ⊎ (disk_key s.next.path ≡ key))
          → IsSameAt key old new ⊎ (IsWrittenAt (Ok args) old input new key ⊎ (path_refused × IsOpenAt (Ok args) old input new key))
      stop r s (inl k) = inl k
      stop r s (inr (inl k)) = inr (inl (h.0, h.1, h.2, k))
      stop r s (inr (inr k)) = inr (inr (r, (h.0, h.1, h.2, (s, k))))

      at : Carrying h.0 h.1 old new out path_refused out_refused → IsSameAt key old new ⊎ (IsWrittenAt (Ok args) old input new key ⊎ (path_refused × IsOpenAt (Ok args) old input new key))
      at (inl c) = stop c.0 c.1 (stopped_at key h.0 old new c.1)
      at (inr c) = both (wrote_at key h.0 old new c.0)

pub others_stay : OthersStay
others_stay run key r told many n =
    let left = r.stopped told many in
    left_others key run.disk.old run.disk.new run.input.old.left left.added _ _ (args_of run.words) n left.so

pub written_or_open : WrittenOrOpen
written_or_open run key r told many =
    let left = r.stopped told many in
    left_at key run.disk.old run.disk.new run.input.old.left left.added _ _ (args_of run.words) left.so
