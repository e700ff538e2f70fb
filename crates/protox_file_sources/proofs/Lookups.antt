-- What looking a name up comes to is one thing at most.
use Rattle.std.proofs.Common.{◌≡◌, ℕ, List, Option, sym, ap, ◌∙◌}
use Rattle.pbx_desc_records.specs.declared.file.FileDescriptorProto.{FileDescriptorProto as Record}
use Rattle.pbx_parse.specs.Reads.{Reads}
use Rattle.protox_file_sources.specs.Told.{Entry, Told, Absent, Recorded, Source, TooLarge, NotText, Lookup, NoFile, IsFile, TextFault, Unread, IsReading, IsFound}

abbrev pub entry_of : Record → Option (List ℕ) → Option (List ℕ) → Option (List ℕ) → Entry
entry_of file path source encoded = record { file = file; path = path; source = source; encoded = encoded }

same_entry : (a b : Entry) → a.file ≡ b.file → a.path ≡ b.path → a.source ≡ b.source → a.encoded ≡ b.encoded → a ≡ b
same_entry a b f p s e =
    ap (λ x. entry_of x a.path a.source a.encoded) f
    ∙ ap (λ x. entry_of b.file x a.source a.encoded) p
    ∙ ap (λ x. entry_of b.file b.path x a.encoded) s
    ∙ ap (λ x. entry_of b.file b.path b.source x) e

-- a name and a source have at most one record
abbrev pub AtMostOne : Type 0
AtMostOne = (name source : List ℕ) (f g : Record) → Reads name source f → Reads name source g → f ≡ g

read_once : AtMostOne → (name source : List ℕ) (path : Option (List ℕ)) (a b : Lookup) → IsReading name source path a → IsReading name source path b → a ≡ b
read_once once name source path NoFile b x y = absurd x
read_once once name source path (IsFile e) NoFile x y = absurd y
read_once once name source path (IsFile e) (IsFile g) x y =
    ap IsFile (same_entry e g (once name source e.file g.file x.0 y.0) (x.1 ∙ sym y.1) (x.2 ∙ sym y.2) (x.3 ∙ sym y.3))
read_once once name source path (IsFile e) (TextFault k) x y = absurd (y.1 e.file x.0)
read_once once name source path (IsFile e) Unread x y = absurd y
read_once once name source path (TextFault k) NoFile x y = absurd y
read_once once name source path (TextFault k) (IsFile g) x y = absurd (x.1 g.file y.0)
read_once once name source path (TextFault j) (TextFault k) x y = ap TextFault (x.0 ∙ sym y.0)
read_once once name source path (TextFault k) Unread x y = absurd y
read_once once name source path Unread b x y = absurd x

pub looked_up : AtMostOne → (name : List ℕ) (told : Told) (a b : Lookup) → IsFound name told a → IsFound name told b → a ≡ b
looked_up once name Absent a b x y = x ∙ sym y
looked_up once name (Recorded entry) a b x y = x ∙ sym y
looked_up once name (Source source path) a b x y = read_once once name source path a b x y
looked_up once name TooLarge a b x y = x ∙ sym y
looked_up once name NotText a b x y = x ∙ sym y
