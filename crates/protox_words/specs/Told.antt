-- What the values of the program stand for.
use Rattle.std.specs.Prelude.{◌≡◌, Result, Ok, Err}
use Rattle.std.specs.Option.{option_copied}
use Rattle.protox_words.specs.declared.args.Args.{Args as ArgsHeld}
use Rattle.protox_words.specs.declared.json.JsonFlags.{JsonFlags as FlagsHeld}
use Rattle.protox_words.specs.declared.fault.WordFault.{WordFault as FaultHeld}
use Rattle.protox_words.specs.declared.fault.WordFault.TheVariants as faults
use Rattle.protox_words.specs.declared.fault.WordsError.{WordsError}
use Rattle.protox_words.specs.declared.fault.WordsError.TheVariants.{Fault, NoMemory}
use Rattle.protox_words.specs.declared.options.Given.{Given as GivenHeld}
use Rattle.protox_words.specs.declared.scan.Place.{Place}
use Rattle.protox_words.specs.declared.scan.Place.TheVariants.{Options, Value, Files}
use Rattle.protox_words.specs.Words.{Args, JsonFlags, Given, Scan, Reading, Wanting, Filing, Faulty}
use Rattle.protox_words.specs.Words.{WordFault, Unknown, Twice, NeedsValue, TakesNoValue, NeedsNumber, NeedsRetries, NotAlone, NoFile, NeedsType, ExcludesInclude}

-- the flags with the bytes of the first
abbrev pub json_told : FlagsHeld → JsonFlags
json_told j = record {
  first = option_copied j.first;
  int64_numbers = j.int64_numbers;
  enum_numbers = j.enum_numbers;
  proto_names = j.proto_names;
  defaults = j.defaults;
}

-- the arguments with the bytes of their texts
abbrev pub args_told : ArgsHeld → Args
args_told a = record {
  includes = a.includes;
  output = option_copied a.output;
  include_imports = a.include_imports;
  include_source_info = a.include_source_info;
  descriptor_set_in = option_copied a.descriptor_set_in;
  retries = a.retries;
  type_name = option_copied a.type_name;
  wire = option_copied a.wire;
  json = json_told a.json;
  generate = a.generate;
  files = a.files;
}

-- the fault with the bytes of its word
abbrev pub fault_told : FaultHeld → WordFault
fault_told (faults.Unknown word) = Unknown word.now
fault_told (faults.Twice option) = Twice option.now
fault_told (faults.NeedsValue option) = NeedsValue option.now
fault_told (faults.TakesNoValue option) = TakesNoValue option.now
fault_told (faults.NeedsNumber option) = NeedsNumber option.now
fault_told (faults.NeedsRetries option) = NeedsRetries option.now
fault_told faults.NotAlone = NotAlone
fault_told faults.NoFile = NoFile
fault_told (faults.NeedsType option) = NeedsType option.now
fault_told faults.ExcludesInclude = ExcludesInclude

-- the option with the bytes of its texts
abbrev pub given_told : GivenHeld → Given
given_told g = record { flag = g.flag; written = g.written.now; value = option_copied g.value }

-- where the reading stands, by the place and what was read so far
abbrev pub scan_at : Place → Args → Scan
scan_at Options a = Reading a
scan_at (Value flag written) a = Wanting flag written.now a
scan_at Files a = Filing a

abbrev pub scan_of : Place → ArgsHeld → Scan
scan_of place a = scan_at place (args_told a)

-- the result of reading leads there, or memory ran out
abbrev pub Leads : Result Place WordsError → ArgsHeld → Scan → Type 0
Leads (Ok place) a scan = scan ≡ scan_of place a
Leads (Err (Fault fault)) a scan = scan ≡ Faulty (fault_told fault)
Leads (Err NoMemory) a scan = Unit {0}

-- The error tells the fault, if it tells one.
abbrev pub IsCause : Result Args WordFault → WordsError → Type 0
IsCause read (Fault fault) = read ≡ Err (fault_told fault)
IsCause read NoMemory = Unit {0}

-- the result is the one that is wanted of these arguments, or memory ran out
abbrev pub Judges : Result (Unit {0}) WordsError → ArgsHeld → Result Args WordFault → Type 0
Judges (Ok done) a wanted = wanted ≡ Ok (args_told a)
Judges (Err error) a wanted = IsCause wanted error
