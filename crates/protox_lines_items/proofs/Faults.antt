-- What is faulty to a converter later was faulty to it before.
use Rattle.std.proofs.Common.{◌++◌, ℕ, List, Result, Ok, Err}
use Rattle.protox_io.specs.Sink.{Appends}
use Rattle.protox_lines_items.specs.Items.{Stream}
use Rattle.protox_lines_items.specs.Told.{Convert, Faulty, IsOfShort, FirstFaulty, Stops, job}
use Rattle.protox_lines_items.specs.Cutting.{Cuts, ConvertsBy}
use Rattle.protox_lines_items.specs.Writing.{EndsBy}
use Rattle.protox_lines_items.specs.declared.error.ItemFault.{ItemFault}
use Rattle.protox_lines_items.specs.declared.error.ItemFault.TheVariants as faults
use Rattle.protox_lines_items.specs.declared.error.LineError.{LineError}
use Rattle.protox_lines_items.specs.declared.error.LineError.TheVariants as errors

short_more : (later faulty : Faulty) → ((x : List ℕ) (f : ItemFault) → later x f → faulty x f) → (item : List ℕ) (f : ItemFault)
    → IsOfShort later item f → IsOfShort faulty item f
short_more later faulty h item faults.TooLong k = k
short_more later faulty h item faults.NotJson k = (k.0, h item faults.NotJson k.1)
short_more later faulty h item (faults.Json e) k = (k.0, h item (faults.Json e) k.1)
short_more later faulty h item faults.TooDeep k = (k.0, h item faults.TooDeep k.1)
short_more later faulty h item (faults.Decode e) k = (k.0, h item (faults.Decode e) k.1)
short_more later faulty h item faults.NoMemory k = (k.0, h item faults.NoMemory k.1)

first_more : (c : Convert) (later faulty : Faulty) → ((x : List ℕ) (f : ItemFault) → later x f → faulty x f) → (s : Stream) (n : ℕ) (f : ItemFault)
    → FirstFaulty (job c later s) n f → FirstFaulty (job c faulty s) n f
first_more c later faulty h s n f k = record {
  before = k.before;
  item = k.item;
  after = k.after;
  is = k.is;
  good = k.good;
  bad = k.bad;
  why = short_more later faulty h k.item f k.why;
  number = k.number;
}

stops_more : (c : Convert) (later faulty : Faulty) → ((x : List ℕ) (f : ItemFault) → later x f → faulty x f) → (s : Stream) (e : LineError)
    → Stops (job c later s) e → Stops (job c faulty s) e
stops_more c later faulty h s (errors.NotJson n) k = first_more c later faulty h s n faults.NotJson k
stops_more c later faulty h s (errors.Json n e) k = first_more c later faulty h s n (faults.Json e) k
stops_more c later faulty h s (errors.TooDeep n) k = first_more c later faulty h s n faults.TooDeep k
stops_more c later faulty h s (errors.LineTooLong n) k = first_more c later faulty h s n faults.TooLong k
stops_more c later faulty h s (errors.BadLength n) k = (record { all = k.0.all; end_is = k.0.end_is }, k.1)
stops_more c later faulty h s (errors.RecordTooLong n) k = (record { all = k.0.all; end_is = k.0.end_is }, k.1)
stops_more c later faulty h s (errors.CutOff n) k = (record { all = k.0.all; end_is = k.0.end_is }, k.1)
stops_more c later faulty h s (errors.Decode n e) k = first_more c later faulty h s n (faults.Decode e) k
stops_more c later faulty h s errors.TooMuch k = record { all = k.all; end_is = k.end_is }
stops_more c later faulty h s errors.ReadFault k = k
stops_more c later faulty h s errors.WriteFault k = k
stops_more c later faulty h s errors.NoMemory k = k

-- so a conversion that ends with an error to it later ends so to it before
pub converts_more : (cuts : Cuts) (c : Convert) (later faulty : Faulty) → ((x : List ℕ) (f : ItemFault) → later x f → faulty x f)
    → (total : List ℕ) (e : LineError) (first now : List ℕ)
    → Appends first now (ConvertsBy cuts c later total (Err e)) → Appends first now (ConvertsBy cuts c faulty total (Err e))
converts_more cuts c later faulty h total e first now k =
    record { added = k.added; is = k.is; so = (k.so.0, k.so.1, (stops_more c later faulty h k.so.0 e k.so.2.0, k.so.2.1, k.so.2.2)) }

pub ends_more : (cuts : Cuts) (c : Convert) (later faulty : Faulty) → ((x : List ℕ) (f : ItemFault) → later x f → faulty x f)
    → (read : List ℕ) (e : LineError) (first now : List ℕ) → EndsBy cuts c later read e first now → EndsBy cuts c faulty read e first now
ends_more cuts c later faulty h read e first now k more = converts_more cuts c later faulty h (read ++ more) e first now (k more)

-- the same of every answer
pub answer_more : (cuts : Cuts) (c : Convert) (later faulty : Faulty) → ((x : List ℕ) (f : ItemFault) → later x f → faulty x f)
    → (total : List ℕ) (r : Result ℕ LineError) (first now : List ℕ)
    → Appends first now (ConvertsBy cuts c later total r) → Appends first now (ConvertsBy cuts c faulty total r)
answer_more cuts c later faulty h total (Err e) first now k = converts_more cuts c later faulty h total e first now k
answer_more cuts c later faulty h total (Ok n) first now k = record {
  added = k.added;
  is = k.is;
  so = (k.so.0, k.so.1, (record { all = k.so.2.0.all; end_is = k.so.2.0.end_is }, k.so.2.1, k.so.2.2));
}
