-- The syntax trees of files, with the span of each token.
use Rattle.std.specs.Prelude.{ℕ, List, ◌∷◌, Option, map}
use Rattle.pbx_parse_token.specs.declared.token.Span.{Span}
use Rattle.pbx_parse_tree.specs.declared.tree.Scalar.{Scalar}
use Rattle.pbx_parse_tree.specs.declared.tree.Label.{Label}
use Rattle.pbx_parse_tree.specs.declared.tree.Modifier.{Modifier}

-- ---- one token

pub record Name : Type 0 where
  pub text : List ℕ
  pub span : Span

-- a string literal, with what stands between its quotes
pub record Literal : Type 0 where
  pub text : List ℕ
  pub span : Span

-- an integer literal
pub record Count : Type 0 where
  pub value : ℕ
  pub span : Span

-- ---- parts of statements

-- an integer with its sign
pub record Number : Type 0 where
  pub minus : Option Span
  pub value : ℕ
  pub span : Span

-- one or more, with the marks between them
pub record Separated (A : Type 0) : Type 0 where
  pub first : A
  pub more : List (Span × A)

-- in their order
abbrev pub all_of : {A : Type 0} → Separated A → List A
all_of s = s.first ∷ map (λ x. x.1) s.more

-- the name of a type, with its dots
pub record TypeName : Type 0 where
  pub dot : Option Span
  pub full : Separated Name

pub data Kind : Type 0 where
  scalar : Scalar → Span → Kind
  named_type : TypeName → Kind

pub data Constant : Type 0 where
  constant_number : Number → Constant
  constant_identifier : Name → Constant
  constant_string : Literal → Constant

-- NAME = CONSTANT
pub record Setting : Type 0 where
  pub name : Name
  pub equals : Span
  pub value : Constant

-- [ SETTING, .. ]
pub record Settings : Type 0 where
  pub «open» : Span
  pub settings : Separated Setting
  pub close : Span

-- option SETTING ;
pub record Statement : Type 0 where
  pub keyword : Span
  pub setting : Setting
  pub end : Span

-- ---- ranges

pub data RangeEnd (A : Type 0) : Type 0 where
  range_number : A → RangeEnd A
  range_max : Span → RangeEnd A

-- NUMBER to NUMBER
pub record Range (A : Type 0) : Type 0 where
  pub from : A
  pub to : Option (Span × RangeEnd A)

pub record Extensions : Type 0 where
  pub keyword : Span
  pub ranges : Separated (Range Count)
  pub end : Span

pub data Reserved (A : Type 0) : Type 0 where
  reserved_ranges : Span → Separated (Range A) → Span → Reserved A
  reserved_names : Span → Separated Literal → Span → Reserved A

-- ---- fields

-- NAME = NUMBER [ SETTING, .. ] ;
pub record Tail : Type 0 where
  pub name : Name
  pub equals : Span
  pub number : Count
  pub settings : Option Settings
  pub end : Span

pub record Field : Type 0 where
  pub label : Option (Label × Span)
  pub kind : Kind
  pub tail : Tail

pub record MapField : Type 0 where
  pub keyword : Span
  pub «open» : Span
  pub key : Scalar
  pub key_span : Span
  pub comma : Span
  pub value : Kind
  pub close : Span
  pub tail : Tail

pub data Member : Type 0 where
  empty_member : Span → Member
  member : Kind → Tail → Member

pub record Oneof : Type 0 where
  pub keyword : Span
  pub name : Name
  pub «open» : Span
  pub members : List Member
  pub close : Span

pub data Extension : Type 0 where
  empty_extension : Span → Extension
  extension : Field → Extension

pub record Extend : Type 0 where
  pub keyword : Span
  pub extendee : TypeName
  pub «open» : Span
  pub extensions : List Extension
  pub close : Span

-- ---- enums

-- NAME = NUMBER [ SETTING, .. ] ;
pub record Value : Type 0 where
  pub name : Name
  pub equals : Span
  pub number : Number
  pub settings : Option Settings
  pub end : Span

pub data EnumItem : Type 0 where
  empty_in_enum : Span → EnumItem
  enum_value : Value → EnumItem
  enum_reserved : Reserved Number → EnumItem
  enum_option : Statement → EnumItem

pub record Enum : Type 0 where
  pub keyword : Span
  pub name : Name
  pub «open» : Span
  pub items : List EnumItem
  pub close : Span

-- ---- services

-- ( stream TYPE )
pub record MethodType : Type 0 where
  pub «open» : Span
  pub stream : Option Span
  pub name : TypeName
  pub close : Span

pub data MethodItem : Type 0 where
  empty_in_method : Span → MethodItem
  method_option : Statement → MethodItem

-- what a method ends with: a semicolon, or a block
pub data MethodEnd : Type 0 where
  method_semicolon : Span → MethodEnd
  method_block : Span → List MethodItem → Span → MethodEnd

pub record Method : Type 0 where
  pub keyword : Span
  pub name : Name
  pub input : MethodType
  pub returns : Span
  pub output : MethodType
  pub end : MethodEnd

pub data ServiceItem : Type 0 where
  empty_in_service : Span → ServiceItem
  service_method : Method → ServiceItem
  service_option : Statement → ServiceItem

pub record Service : Type 0 where
  pub keyword : Span
  pub name : Name
  pub «open» : Span
  pub items : List ServiceItem
  pub close : Span

-- ---- messages

-- what stands in a message and holds no message itself
pub data Item : Type 0 where
  empty_item : Span → Item
  item_field : Field → Item
  item_map : MapField → Item
  item_oneof : Oneof → Item
  item_enum : Enum → Item
  item_extend : Extend → Item
  item_extensions : Extensions → Item
  item_reserved : Reserved Count → Item
  item_option : Statement → Item

-- message NAME {
pub record Head : Type 0 where
  pub keyword : Span
  pub name : Name
  pub «open» : Span

-- what stands in a message, from one item on: a message in it has its head, its body and its `}`
pub data Body : Type 0 where
  end : Body
  item : Item → Body → Body
  message : Head → Body → Span → Body → Body

-- ---- files

pub record Syntax : Type 0 where
  pub keyword : Span
  pub equals : Span
  pub value : Literal
  pub end : Span

pub record Package : Type 0 where
  pub keyword : Span
  pub full : Separated Name
  pub end : Span

pub record Import : Type 0 where
  pub keyword : Span
  pub modifier : Option (Modifier × Span)
  pub path : Literal
  pub end : Span

-- what stands at the top of a file
pub data Top : Type 0 where
  empty_top : Span → Top
  top_package : Package → Top
  top_import : Import → Top
  top_message : Head → Body → Span → Top
  top_enum : Enum → Top
  top_extend : Extend → Top
  top_service : Service → Top
  top_option : Statement → Top

pub record File : Type 0 where
  pub syntax : Option Syntax
  pub tops : List Top
