-- The line of an error, as the pieces that stand in it one after another.
-- States: `line_of`, and the lines that `run_lines` says.
use Rattle.std.specs.Prelude.{ℕ, List, [], ◌∷◌, codes}
use Rattle.std.specs.Fmt.{decimal}
use Rattle.protox_lines_items.specs.declared.error.LineError.{LineError}
use Rattle.protox_lines_items.specs.declared.error.LineError.TheVariants as errors
use Rattle.protox_transcode.specs.Json.{json_line}

-- of the item of this number
abbrev pub item_line : ℕ → List (List ℕ) → List (List ℕ)
item_line n words = codes "item " ∷ decimal n ∷ codes ": " ∷ words

abbrev pub error_line : LineError → List (List ℕ)
error_line (errors.NotJson n) = item_line n (codes "input is not JSON" ∷ [])
error_line (errors.Json n e) = item_line n (json_line e)
error_line (errors.TooDeep n) = item_line n (codes "message nests more than 100 levels" ∷ [])
error_line (errors.LineTooLong n) = item_line n (codes "line too long" ∷ [])
error_line (errors.BadLength n) = item_line n (codes "length is malformed" ∷ [])
error_line (errors.RecordTooLong n) = item_line n (codes "record too long" ∷ [])
error_line (errors.CutOff n) = item_line n (codes "record is cut off" ∷ [])
error_line (errors.Decode n e) = item_line n (codes "record does not decode" ∷ [])
error_line errors.TooMuch = codes "input is longer than 1099511627776 bytes" ∷ []
error_line errors.ReadFault = codes "reading input failed" ∷ []
error_line errors.WriteFault = codes "writing output failed" ∷ []
error_line errors.NoMemory = codes "out of memory" ∷ []
