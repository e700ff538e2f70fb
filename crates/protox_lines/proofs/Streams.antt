-- What converting a stream comes to, by its lines; and why a tree has no record.
use Rattle.std.proofs.Common.{◌≡◌, ℕ, List, Bool, true, false, Result, Ok, Err, IfErr, subst, sym}
use Rattle.serde_json.specs.Data.{Data}
use Rattle.pbx_content.specs.Content.{Content}
use Rattle.pbx_content.specs.declared.shape.Shape.{Shape}
use Rattle.pbx_json_meaning.specs.Stands.{Stands}
use Rattle.protox_io.specs.Sink.{Appends}
use Rattle.protox_lines_items.specs.Items.{Stream, lines}
use Rattle.protox_lines_items.specs.Lines.{AreLines}
use Rattle.protox_lines_items.specs.Cutting.{ConvertsBy}
use Rattle.protox_lines_items.specs.Told.{Convert, Faulty, Converts, ConvertsLines, job}
use Rattle.protox_lines_items.specs.declared.error.ItemFault.{ItemFault}
use Rattle.protox_lines_items.specs.declared.error.ItemFault.TheVariants as faults
use Rattle.protox_lines_items.specs.declared.error.LineError.{LineError}
use Rattle.protox_lines.specs.Parts.{IsContentFault, IsTreeFault}

by_lines : (c : Convert) (f : Faulty) (bytes : List ℕ) (r : Result ℕ LineError) (said : List ℕ) → ConvertsBy AreLines c f bytes r said → ConvertsLines c f bytes r said
by_lines c f bytes r said (s, own, h) = let P : Stream → Type 0 = λ z. Converts (job c f z) r said in subst P own h

pub lines_told : (c : Convert) (f : Faulty) (bytes : List ℕ) (r : Result ℕ LineError) (first now : List ℕ) → Appends first now (ConvertsBy AreLines c f bytes r)
    → Appends first now (ConvertsLines c f bytes r)
lines_told c f bytes r first now h = record { added = h.added; is = h.is; so = by_lines c f bytes r h.added h.so }

pub lines_untold : (c : Convert) (f : Faulty) (r : Result ℕ LineError) (first now : List ℕ)
    → Appends first now (λ said. (read : List ℕ) × ConvertsBy AreLines c f read r said) → Appends first now (λ said. (read : List ℕ) × ConvertsLines c f read r said)
lines_untold c f r first now h = record { added = h.added; is = h.is; so = (h.so.0, by_lines c f h.so.0 r h.added h.so.1) }

content_fault : (shape : Shape) (t : ℕ) (tree : Data) (c : Content) (f : ItemFault) → Stands shape t false tree c → IsContentFault shape t c f → IsTreeFault shape t tree f
content_fault shape t tree c faults.TooDeep stands h = (c, stands, h)
content_fault shape t tree c faults.NoMemory stands h = tt
content_fault shape t tree c faults.NotJson stands h = absurd h
content_fault shape t tree c (faults.Json e) stands h = absurd h
content_fault shape t tree c faults.TooLong stands h = absurd h
content_fault shape t tree c (faults.Decode e) stands h = absurd h

pub content_faults : {T : Type 0} (shape : Shape) (t : ℕ) (tree : Data) (c : Content) (r : Result T ItemFault) → Stands shape t false tree c
    → IfErr r (IsContentFault shape t c) → IfErr r (IsTreeFault shape t tree)
content_faults shape t tree c (Ok x) stands h = tt
content_faults shape t tree c (Err f) stands h = content_fault shape t tree c f stands h
