-- From the parts of a run to what holds of the whole.
use Rattle.std.proofs.Common.{◌≡◌, ◌⊎◌, ◌++◌, ◌∷◌, [], subst, inl, inr, ℕ, List, Option, Some, None, true, false, Result, Ok, Err, IfErr, OnOk, refl, sym, ap, append-nil, codes}
use Rattle.std.specs.List.{concat}
use Rattle.pbx_desc_records.specs.declared.file.FileDescriptorProto.{FileDescriptorProto}
use Rattle.pbx_desc_records.specs.declared.message.DescriptorProto.{DescriptorProto}
use Rattle.pbx_link_meaning.specs.Descriptors.{Described}
use Rattle.protox_io.specs.Disk.{Volume}
use Rattle.protox_io.specs.Sink.{Appends}
use Rattle.protox_lines_items.specs.Told.{IsCaused}
use Rattle.protox_lines_items.specs.declared.error.LineError.{LineError}
use Rattle.protox_lines_items.specs.declared.error.LineError.TheVariants as errors
use Rattle.protox_lines.specs.Converter.{IsConverter, IsNoConverter}
use Rattle.protox_lines.specs.Run.{Direction, ToRecords, ToLines, Request, Gives, Obeys, Leaves}
use Rattle.protox_lines.specs.Running.{IsConverterStop, HasFailed, IsStreamStop, EndsAs, StreamEnds, RunEnds, IsUsage, IsStreamCause, IsRunCause}
use Rattle.protox_run.specs.Outcome.{error_line}
use Rattle.protox_sets.specs.Sets.{HasPool}
use Rattle.protox_sets.specs.Stops.{IsSetStop, IsStopCause}
use Rattle.protox_sets.specs.declared.stop.Stop.{Stop}
use Rattle.protox_sets.specs.declared.stop.Stop.TheVariants.{Usage, Refused, Broken, NoMemory}
use Rattle.protox_transcode.specs.declared.error.TopError.{TopError}

-- ---- a stream

pub stream_ends : {T : Type 0} (direction : Direction) (d : Described DescriptorProto) (input : List ℕ) (r : Result ℕ LineError) (end : Result T Stop) (first now : List ℕ)
    → EndsAs r end → Appends first now (Gives direction d input r) → Appends first now (StreamEnds direction d input end)
stream_ends direction d input (Ok n) (Ok x) first now h k = record { added = k.added; is = k.is; so = (n, k.so) }
stream_ends direction d input (Ok n) (Err stop) first now h k = absurd h
stream_ends direction d input (Err e) (Ok x) first now h k = absurd h
stream_ends direction d input (Err e) (Err stop) first now h k = record { added = k.added; is = k.is; so = (e, k.so, h) }

stop_cause : (input out : Type 0) (e : LineError) (stop : Stop) → IsStreamStop e stop → IsCaused input out e → IsStreamCause input out stop
stop_cause input out e Usage h k = absurd h
stop_cause input out e (Refused line) h k = tt
stop_cause input out e NoMemory h k = tt
stop_cause input out e (Broken line) h k = by e h k
  where
    by : (e : LineError) → IsStreamStop e (Broken line) → IsCaused input out e → IsStreamCause input out (Broken line)
    by errors.ReadFault h k = inl (k, h.1)
    by errors.WriteFault h k = inr (k, h.1)
    by (errors.NotJson n) h k = absurd h.0
    by (errors.Json n e) h k = absurd h.0
    by (errors.TooDeep n) h k = absurd h.0
    by (errors.LineTooLong n) h k = absurd h.0
    by (errors.BadLength n) h k = absurd h.0
    by (errors.RecordTooLong n) h k = absurd h.0
    by (errors.CutOff n) h k = absurd h.0
    by (errors.Decode n e) h k = absurd h.0
    by errors.TooMuch h k = absurd h.0
    by errors.NoMemory h k = absurd h.0

pub stream_cause : {T : Type 0} (input out : Type 0) (r : Result ℕ LineError) (end : Result T Stop) → EndsAs r end → IfErr r (IsCaused input out)
    → IfErr end (IsStreamCause input out)
stream_cause input out (Ok n) (Ok x) h k = tt
stream_cause input out (Ok n) (Err stop) h k = absurd h
stream_cause input out (Err e) (Ok x) h k = tt
stream_cause input out (Err e) (Err stop) h k = stop_cause input out e stop h k

pub stream_end : {T : Type 0} (P : Type 0) (r : Result ℕ LineError) (end : Result T Stop) → EndsAs r end → OnOk r P → OnOk end P
stream_end P (Ok n) (Ok x) h k = k
stream_end P (Ok n) (Err stop) h k = tt
stream_end P (Err e) (Ok x) h k = absurd h
stream_end P (Err e) (Err stop) h k = tt

-- ---- what words come to

-- the first bytes of what comes of the input
begun_gives : (direction : Direction) (d : Described DescriptorProto) (input : List ℕ) (e : LineError) (printed : List ℕ) → Gives direction d input (Err e) printed
    → Gives direction d input (Err errors.NoMemory) printed
begun_gives ToRecords d input e printed h = (tt, h.1, inl refl)
begun_gives ToLines d input e printed (s, k, h) = (s, k, (tt, h.1, inl refl))

run_converted : {T : Type 0} (q : Request) (disk : Volume) (input : List ℕ) (files : List FileDescriptorProto) (d : Described DescriptorProto) (end : Result T Stop)
    → (printed : List ℕ) → HasPool disk q.set files → IsConverter files q.name d → StreamEnds q.direction d input end printed → RunEnds (Some q) disk input end printed
run_converted q disk input files d (Ok x) printed pool made (n, gives) = inr (files, pool, inr (d, made, (Ok n, gives, (refl, refl))))
run_converted q disk input files d (Err (Refused line)) printed pool made (e, gives, stop) =
    inr (files, pool, inr (d, made, (Err e, gives, (stop.0, refl, ap (λ (l : List ℕ). error_line (l ∷ [])) stop.1))))
run_converted q disk input files d (Err (Broken line)) printed pool made (e, gives, stop) = inr (files, pool, (d, made, begun_gives q.direction d input e printed gives))
run_converted q disk input files d (Err NoMemory) printed pool made (e, gives, stop) = inr (files, pool, (d, made, begun_gives q.direction d input e printed gives))
run_converted q disk input files d (Err Usage) printed pool made (e, gives, stop) = absurd stop

pub converted_told : {T : Type 0} (q : Request) (disk : Volume) (input : List ℕ) (files : List FileDescriptorProto) (d : Described DescriptorProto) (end : Result T Stop)
    → (first now : List ℕ) → HasPool disk q.set files → IsConverter files q.name d → Appends first now (StreamEnds q.direction d input end)
    → Appends first now (RunEnds (Some q) disk input end)
converted_told q disk input files d end first now pool made k =
    record { added = k.added; is = k.is; so = run_converted q disk input files d end k.added pool made k.so }

-- no pool
run_unread : (q : Request) (disk : Volume) (input : List ℕ) (stop : Stop) → IsSetStop disk q.set stop → RunEnds {T = Unit {0}} (Some q) disk input (Err stop) []
run_unread q disk input Usage h = absurd h
run_unread q disk input (Refused line) h = inl (refl, refl, (line, h, refl))
run_unread q disk input (Broken line) h = inl refl
run_unread q disk input NoMemory h = inl refl

pub unread_told : (q : Request) (disk : Volume) (input held : List ℕ) (stop : Stop) → IsSetStop disk q.set stop → Appends held held (RunEnds {T = Unit {0}} (Some q) disk input (Err stop))
unread_told q disk input held stop h = record { added = []; is = sym (append-nil held); so = run_unread q disk input stop h }

-- no converter
run_unmade : (q : Request) (disk : Volume) (input : List ℕ) (files : List FileDescriptorProto) (error : TopError) (stop : Stop) → HasPool disk q.set files
    → IsNoConverter files q.name error → IsConverterStop error stop → RunEnds {T = Unit {0}} (Some q) disk input (Err stop) []
run_unmade q disk input files error (Refused line) pool none h =
    inr (files, pool, inl (error, none, h.0, refl, refl, ap (λ (l : List ℕ). error_line (l ∷ [])) h.1))
run_unmade q disk input files error NoMemory pool none h = inl refl
run_unmade q disk input files error Usage pool none h = absurd h
run_unmade q disk input files error (Broken line) pool none h = absurd h

pub unmade_told : (q : Request) (disk : Volume) (input held : List ℕ) (files : List FileDescriptorProto) (error : TopError) (stop : Stop) → HasPool disk q.set files
    → IsNoConverter files q.name error → IsConverterStop error stop → Appends held held (RunEnds {T = Unit {0}} (Some q) disk input (Err stop))
unmade_told q disk input held files error stop pool none h =
    record { added = []; is = sym (append-nil held); so = run_unmade q disk input files error stop pool none h }

-- ---- for words that ask for a request

pub for_request : {T : Type 0} (asked : Option Request) (q : Request) (disk : Volume) (input : List ℕ) (end : Result T Stop) (first now : List ℕ) → asked ≡ Some q
    → Appends first now (RunEnds (Some q) disk input end) → Appends first now (RunEnds asked disk input end)
for_request asked q disk input end first now e h = let P : Option Request → Type 0 = λ o. Appends first now (RunEnds o disk input end) in subst P (sym e) h

pub no_usage : {T : Type 0} (asked : Option Request) (q : Request) (end : Result T Stop) → asked ≡ Some q → IsUsage (Some q) end → IsUsage asked end
no_usage asked q end e h = let P : Option Request → Type 0 = λ o. IsUsage o end in subst P (sym e) h

pub for_cause : (asked : Option Request) (q : Request) (disk input out : Type 0) (stop : Stop) → asked ≡ Some q → IsRunCause (Some q) disk input out stop
    → IsRunCause asked disk input out stop
for_cause asked q disk input out stop e h = let P : Option Request → Type 0 = λ o. IsRunCause o disk input out stop in subst P (sym e) h

-- no pool
pub set_usage : (q : Request) (rose : Type 0) (stop : Stop) → IsStopCause q.set rose stop → IsUsage {T = Unit {0}} (Some q) (Err stop)
set_usage q rose Usage h = h
set_usage q rose (Refused line) h = tt
set_usage q rose (Broken line) h = tt
set_usage q rose NoMemory h = tt

pub set_cause : (q : Request) (disk input out : Type 0) (stop : Stop) → IsStopCause q.set disk stop → IsRunCause (Some q) disk input out stop
set_cause q disk input out Usage h = tt
set_cause q disk input out (Refused line) h = tt
set_cause q disk input out (Broken line) h = inl h
set_cause q disk input out NoMemory h = tt

-- a stream
pub stream_usage : {T : Type 0} (q : Request) (input out : Type 0) (end : Result T Stop) → IfErr end (IsStreamCause input out) → IsUsage (Some q) end
stream_usage q input out (Ok x) h = tt
stream_usage q input out (Err Usage) h = h
stream_usage q input out (Err (Refused line)) h = tt
stream_usage q input out (Err (Broken line)) h = tt
stream_usage q input out (Err NoMemory) h = tt

pub stream_run_cause : {T : Type 0} (q : Request) (disk input out : Type 0) (end : Result T Stop) → IfErr end (IsStreamCause input out)
    → IfErr end (IsRunCause (Some q) disk input out)
stream_run_cause q disk input out (Ok x) h = tt
stream_run_cause q disk input out (Err Usage) h = tt
stream_run_cause q disk input out (Err (Refused line)) h = tt
stream_run_cause q disk input out (Err (Broken line)) h = inr h
stream_run_cause q disk input out (Err NoMemory) h = tt

pub for_causes : {T : Type 0} (asked : Option Request) (q : Request) (disk input out : Type 0) (end : Result T Stop) → asked ≡ Some q
    → IfErr end (IsRunCause (Some q) disk input out) → IfErr end (IsRunCause asked disk input out)
for_causes asked q disk input out end e h = let P : Option Request → Type 0 = λ o. IfErr end (IsRunCause o disk input out) in subst P (sym e) h

-- no converter
pub unmade_usage : (q : Request) (error : TopError) (stop : Stop) → IsConverterStop error stop → IsUsage {T = Unit {0}} (Some q) (Err stop)
unmade_usage q error Usage h = h
unmade_usage q error (Refused line) h = tt
unmade_usage q error (Broken line) h = tt
unmade_usage q error NoMemory h = tt

pub unmade_cause : (q : Request) (disk input out : Type 0) (error : TopError) (stop : Stop) → IsConverterStop error stop → IsRunCause (Some q) disk input out stop
unmade_cause q disk input out error Usage h = tt
unmade_cause q disk input out error (Refused line) h = tt
unmade_cause q disk input out error (Broken line) h = absurd h
unmade_cause q disk input out error NoMemory h = tt
