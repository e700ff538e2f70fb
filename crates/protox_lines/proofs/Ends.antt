-- From what words come to, to what holds of the run.
use Rattle.std.proofs.Common.{◌≡◌, ◌≤◌, ◌∷◌, ◌∙◌, [], inl, inr, ℕ, List, Option, Some, None, Result, Ok, Err, IfErr, OnOk, IsTrue, refl, sym, ap, subst, arith, codes}
use Rattle.protox_run.specs.Outcome.{error_line}
use Rattle.protox_run.specs.Run.{Run, AllTell, AllStay, ForPrinted, Raised, Tells}
use Rattle.protox_run.specs.Stops.{Object, Input, Reading, Printing, object_line}
use Rattle.protox_lines.specs.Run.{Request, Obeys, Leaves, Rises, IsUsageStatus, RunsLines, asked}
use Rattle.protox_lines.specs.Running.{RunEnds, IsUsage, IsRunCause, status_of, line_told}
use Rattle.protox_sets.specs.declared.stop.Stop.{Stop}
use Rattle.protox_sets.specs.declared.stop.Stop.TheVariants.{Usage, Refused, Broken, NoMemory}

words_of : (run : Run) (o : Option Request) (end : Result (Unit {0}) Stop) → run.status ≡ status_of end → IsUsage o end → Tells run (line_told end) → IsUsageStatus run o
words_of run None (Ok x) e h said = absurd h
words_of run None (Err Usage) e h said = (e, said)
words_of run None (Err (Refused line)) e h said = absurd h
words_of run None (Err (Broken line)) e h said = absurd h
words_of run None (Err NoMemory) e h said = absurd h
words_of run (Some r) (Ok x) e h said = λ two. omega (arith, e, two)
words_of run (Some r) (Err Usage) e h said = absurd h
words_of run (Some r) (Err (Refused line)) e h said = λ two. omega (arith, e, two)
words_of run (Some r) (Err (Broken line)) e h said = λ two. omega (arith, e, two)
words_of run (Some r) (Err NoMemory) e h said = λ two. omega (arith, e, two)

fault_of : (run : Run) (o : Option Request) (line : List ℕ) → IsRunCause o (Raised run.disk) (Raised run.input) (Raised run.out) (Broken line)
    → Tells run (error_line (line ∷ [])) → (object : Object) × Rises run o object × Tells run (error_line (object_line object))
fault_of run None line h said = absurd h
fault_of run (Some r) line (inl h) said = (Reading line, h, said)
fault_of run (Some r) line (inr (inl h)) said =
    (Input, h.0, let P : List ℕ → Type 0 = λ l. Tells run (error_line (l ∷ [])) in subst P h.1 said)
fault_of run (Some r) line (inr (inr h)) said =
    (Printing, h.0, let P : List ℕ → Type 0 = λ l. Tells run (error_line (l ∷ [])) in subst P h.1 said)

pub whole : (run : Run) (end : Result (Unit {0}) Stop) → run.status ≡ status_of end
    → (AllTell run → ForPrinted run (RunEnds (asked run.words) run.disk.old run.input.old.left end))
    → IsUsage (asked run.words) end → IfErr end (IsRunCause (asked run.words) (Raised run.disk) (Raised run.input) (Raised run.out))
    → Tells run (line_told end) → (IsTrue run.input.old.tells → OnOk end (run.input.new.left ≡ [])) → run.disk.new ≡ run.disk.old → AllStay run → RunsLines run
whole run (Ok x) e told usage cause said left disk stays = record {
  status = omega (arith, e);
  words = words_of run (asked run.words) (Ok x) e usage said;
  outcome = λ all low. (
    [],
    (let P : ℕ → Type 0 = λ n. ForPrinted run (λ printed. Obeys (asked run.words) run.disk.old run.input.old.left n printed []) in
        subst P (sym e) (told all)),
    said,
  );
  fault = λ three. absurd (omega (arith, e, three));
  memory = λ four. absurd (omega (arith, e, four));
  stopped = λ all high. absurd (omega (arith, e, high));
  input = λ tells zero. left tells;
  disk = disk;
  stays = stays;
}
whole run (Err Usage) e told usage cause said left disk stays = record {
  status = omega (arith, e);
  words = words_of run (asked run.words) (Err Usage) e usage said;
  outcome = λ all low. (
    line_told {T = Unit {0}} (Err Usage),
    (let P : ℕ → Type 0 = λ n. ForPrinted run (λ printed.
        Obeys (asked run.words) run.disk.old run.input.old.left n printed (line_told {T = Unit {0}} (Err Usage))) in subst P (sym e) (told all)),
    said,
  );
  fault = λ three. absurd (omega (arith, e, three));
  memory = λ four. absurd (omega (arith, e, four));
  stopped = λ all high. absurd (omega (arith, e, high));
  input = λ tells zero. absurd (omega (arith, e, zero));
  disk = disk;
  stays = stays;
}
whole run (Err (Refused line)) e told usage cause said left disk stays = record {
  status = omega (arith, e);
  words = words_of run (asked run.words) (Err (Refused line)) e usage said;
  outcome = λ all low. (
    error_line (line ∷ []),
    (let P : ℕ → Type 0 = λ n. ForPrinted run (λ printed.
        Obeys (asked run.words) run.disk.old run.input.old.left n printed (error_line (line ∷ []))) in subst P (sym e) (told all)),
    said,
  );
  fault = λ three. absurd (omega (arith, e, three));
  memory = λ four. absurd (omega (arith, e, four));
  stopped = λ all high. absurd (omega (arith, e, high));
  input = λ tells zero. absurd (omega (arith, e, zero));
  disk = disk;
  stays = stays;
}
whole run (Err (Broken line)) e told usage cause said left disk stays = record {
  status = omega (arith, e);
  words = words_of run (asked run.words) (Err (Broken line)) e usage said;
  outcome = λ all low. absurd (omega (arith, e, low));
  fault = λ three. fault_of run (asked run.words) line cause said;
  memory = λ four. absurd (omega (arith, e, four));
  stopped = λ all high. told all;
  input = λ tells zero. absurd (omega (arith, e, zero));
  disk = disk;
  stays = stays;
}
whole run (Err NoMemory) e told usage cause said left disk stays = record {
  status = omega (arith, e);
  words = words_of run (asked run.words) (Err NoMemory) e usage said;
  outcome = λ all low. absurd (omega (arith, e, low));
  fault = λ three. absurd (omega (arith, e, three));
  memory = λ four. said;
  stopped = λ all high. told all;
  input = λ tells zero. absurd (omega (arith, e, zero));
  disk = disk;
  stays = stays;
}
