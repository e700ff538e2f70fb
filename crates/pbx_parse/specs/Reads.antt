-- Which record a source reads as.
use Rattle.std.specs.Prelude.{◌≡◌, ℕ, List, []}
use Rattle.pbx_parse_token.specs.Tokens.{Token}
use Rattle.pbx_parse_token.specs.Pieces.{Lexes}
use Rattle.pbx_parse_tree.specs.Tree.{File}
use Rattle.pbx_parse_tree.specs.Grammar.{file_then}
use Rattle.pbx_parse_tree.specs.Conditions.{Conditions}
use Rattle.pbx_desc_records.specs.declared.file.FileDescriptorProto.{FileDescriptorProto}
use Rattle.pbx_parse_locations.specs.Locations.{locations_of}
use Rattle.pbx_parse_translation.specs.Translation.{translate_of}

-- the record of a file of this name, with the places of its parts in the source
abbrev pub record_of : List ℕ → List Token → File → FileDescriptorProto
record_of name tokens tree = translate_of name tree (locations_of tokens tree)

-- The source's tokens spell a syntax tree that meets the conditions, and the file is the tree's record: the language
-- specifications of proto2 and proto3.
abbrev pub Reads : List ℕ → List ℕ → FileDescriptorProto → Type 0
Reads name source file =
    (tokens : List Token) × Lexes source tokens × (tree : File) × (tokens ≡ file_then tree []) × Conditions tree × (file ≡ record_of name tokens tree)
