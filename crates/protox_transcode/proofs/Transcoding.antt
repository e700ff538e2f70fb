-- What a tree is transcoded to.
use Rattle.std.proofs.Common.{◌≡◌, ◌≤◌, ◌<◌, ◌^◌, ◌∙◌, ◌⊎◌, inl, inr, ℕ, List, length, [], Bool, true, false, ◌&&◌, nat_le, Result, Ok, Err, IfOk, IfErr, Some, None, refl, sym, subst, leb-true}
use Rattle.std.specs.Str.{bytes_eq}
use Rattle.serde_json.specs.Data.{Data}
use Rattle.pbx_content.specs.Content.{Content}
use Rattle.pbx_content.specs.Encoding.{encoded}
use Rattle.pbx_content.specs.Laws.{EncodingDecodes}
use Rattle.pbx_content.specs.Same.{Decodes}
use Rattle.pbx_content.specs.Sound.{IsSound, depth}
use Rattle.pbx_content.specs.declared.shape.Shape.{Shape}
use Rattle.pbx_desc_records.specs.declared.file.FileDescriptorProto.{FileDescriptorProto}
use Rattle.pbx_desc_records.specs.declared.message.DescriptorProto.{DescriptorProto}
use Rattle.pbx_link_definitions.specs.Definitions.{message_name}
use Rattle.pbx_link_meaning.specs.Descriptors.{Described, all_messages, message_of_name}
use Rattle.pbx_link_meaning.specs.Shapes.{shape_of, place_of}
use Rattle.pbx_link_rules.specs.Pool.{ArePooled}
use Rattle.pbx_message_laws.specs.Types.{PlaceHasType}
use Rattle.pbx_json_meaning.specs.Canonical.{canonical}
use Rattle.pbx_json_meaning.specs.Laws.{ClearByAnyName, FittingIsWritten, WrittenStands}
use Rattle.pbx_json_meaning.specs.Clash.{naming_of}
use Rattle.pbx_json_meaning.specs.Options.{default_reading}
use Rattle.pbx_json_meaning.specs.Stands.{Stands}
use Rattle.pbx_json_meaning.specs.Trees.{HasTexts}
use Rattle.pbx_json_meaning.specs.declared.error.JsonError.{JsonError}
use Rattle.pbx_json_meaning.specs.declared.kind.JsonKind.{JsonKind}
use Rattle.pbx_json_meaning.specs.declared.kind.JsonKind.TheVariants as fault
use Rattle.pbx_json_meaning.specs.declared.options.SerializeOptions.{SerializeOptions}
use Rattle.pbx_json_meaning.specs.declared.place.Step.{Step}
use Rattle.pbx_json_meaning.specs.Fits.{fits, payloads_fit}
use Rattle.pbx_message_dynamic.specs.Trees as read_specs
use Rattle.protox_transcode.specs.Parts.{IsClear, IsNamed, IsNoSet, IsNotClear, IsNotNamed, IsNotTold, IsNotWritten, IsWritten}
use Rattle.pbx_desc_decodable.proofs.Found.{has_place, found_at}
use Rattle.protox_compile.specs.Sets.{AreDecodable}
use Rattle.protox_transcode.specs.Top.{ForType, HaveClearNames, IsRefused, IsTooDeep, IsUnread, Transcodes, of_json}
use Rattle.protox_transcode.specs.declared.error.TopError.{TopError}
use Rattle.protox_transcode.specs.declared.error.TopError.TheVariants.{File, JsonNames, WellKnownShape, TypeNotFound, Json, TooDeep, NoMemory}

-- one fact of a result gives another
pub ok_then : {X E : Type 0} {P Q : X → Type 0} (r : Result X E) → ((x : X) → P x → Q x) → IfOk r P → IfOk r Q
ok_then (Ok x) f p = f x p
ok_then (Err e) f p = tt

pub err_then : {X E : Type 0} {P Q : E → Type 0} (r : Result X E) → ((e : E) → P e → Q e) → IfErr r P → IfErr r Q
err_then (Ok x) f p = tt
err_then (Err e) f p = f e p

-- ---- the tree

told : (d : Described DescriptorProto) (tree : Data) (e : JsonError) → ¬ (e.kind ≡ fault.NoMemory) → read_specs.IsReadFault d default_reading tree e
    → read_specs.IsUnread d default_reading tree e → IsUnread (shape_of d.pool) (place_of d) tree e
told d tree e other (inl memory) unread = absurd (other memory)
told d tree e other (inr first) (inl memory) = absurd (other memory)
told d tree e other (inr first) (inr none) = (other, first, none)

-- what reading tells is told, and want of memory stands inside of no other error
pub json_told : (d : Described DescriptorProto) (tree : Data) (place : List Step) (kind : JsonKind)
    → read_specs.IsReadFault d default_reading tree (record { place = place; kind = kind })
    → read_specs.IsUnread d default_reading tree (record { place = place; kind = kind })
    → IsNotTold d tree (of_json (record { place = place; kind = kind }))
json_told d tree place fault.WrongKind read unread = told d tree _ (λ e. absurd (cc)) read unread
json_told d tree place fault.Range read unread = told d tree _ (λ e. absurd (cc)) read unread
json_told d tree place fault.NotDecimal read unread = told d tree _ (λ e. absurd (cc)) read unread
json_told d tree place fault.UnknownField read unread = told d tree _ (λ e. absurd (cc)) read unread
json_told d tree place fault.UnknownEnum read unread = told d tree _ (λ e. absurd (cc)) read unread
json_told d tree place fault.DuplicateField read unread = told d tree _ (λ e. absurd (cc)) read unread
json_told d tree place fault.DuplicateKey read unread = told d tree _ (λ e. absurd (cc)) read unread
json_told d tree place fault.OneofTwice read unread = told d tree _ (λ e. absurd (cc)) read unread
json_told d tree place fault.Base64 read unread = told d tree _ (λ e. absurd (cc)) read unread
json_told d tree place fault.Timestamp read unread = told d tree _ (λ e. absurd (cc)) read unread
json_told d tree place fault.Duration read unread = told d tree _ (λ e. absurd (cc)) read unread
json_told d tree place fault.Mask read unread = told d tree _ (λ e. absurd (cc)) read unread
json_told d tree place fault.AnyType read unread = told d tree _ (λ e. absurd (cc)) read unread
json_told d tree place fault.AnyValue read unread = told d tree _ (λ e. absurd (cc)) read unread
json_told d tree place fault.Float read unread = told d tree _ (λ e. absurd (cc)) read unread
json_told d tree place fault.Shape read unread = told d tree _ (λ e. absurd (cc)) read unread
json_told d tree place fault.AnyPayload read unread = told d tree _ (λ e. absurd (cc)) read unread
json_told d tree place fault.NoMemory read unread = tt

none : {X : Type 0} (e : JsonError) → ¬ (e.kind ≡ fault.NoMemory) → (e.kind ≡ fault.NoMemory) ⊎ X → X
none e other (inl memory) = absurd (other memory)
none e other (inr x) = x

-- so is what writing tells
pub json_unwritten : (d : Described DescriptorProto) (c : Content) (o : SerializeOptions) (place : List Step) (kind : JsonKind)
    → read_specs.IsUnwritten d o c (record { place = place; kind = kind })
    → IsNotWritten (canonical (shape_of d.pool) (place_of d) c o) (of_json (record { place = place; kind = kind }))
json_unwritten d c o place fault.WrongKind h = none (record { place = place; kind = fault.WrongKind }) (λ e. absurd (cc)) h
json_unwritten d c o place fault.Range h = none (record { place = place; kind = fault.Range }) (λ e. absurd (cc)) h
json_unwritten d c o place fault.NotDecimal h = none (record { place = place; kind = fault.NotDecimal }) (λ e. absurd (cc)) h
json_unwritten d c o place fault.UnknownField h = none (record { place = place; kind = fault.UnknownField }) (λ e. absurd (cc)) h
json_unwritten d c o place fault.UnknownEnum h = none (record { place = place; kind = fault.UnknownEnum }) (λ e. absurd (cc)) h
json_unwritten d c o place fault.DuplicateField h = none (record { place = place; kind = fault.DuplicateField }) (λ e. absurd (cc)) h
json_unwritten d c o place fault.DuplicateKey h = none (record { place = place; kind = fault.DuplicateKey }) (λ e. absurd (cc)) h
json_unwritten d c o place fault.OneofTwice h = none (record { place = place; kind = fault.OneofTwice }) (λ e. absurd (cc)) h
json_unwritten d c o place fault.Base64 h = none (record { place = place; kind = fault.Base64 }) (λ e. absurd (cc)) h
json_unwritten d c o place fault.Timestamp h = none (record { place = place; kind = fault.Timestamp }) (λ e. absurd (cc)) h
json_unwritten d c o place fault.Duration h = none (record { place = place; kind = fault.Duration }) (λ e. absurd (cc)) h
json_unwritten d c o place fault.Mask h = none (record { place = place; kind = fault.Mask }) (λ e. absurd (cc)) h
json_unwritten d c o place fault.AnyType h = none (record { place = place; kind = fault.AnyType }) (λ e. absurd (cc)) h
json_unwritten d c o place fault.AnyValue h = none (record { place = place; kind = fault.AnyValue }) (λ e. absurd (cc)) h
json_unwritten d c o place fault.Float h = none (record { place = place; kind = fault.Float }) (λ e. absurd (cc)) h
json_unwritten d c o place fault.Shape h = none (record { place = place; kind = fault.Shape }) (λ e. absurd (cc)) h
json_unwritten d c o place fault.AnyPayload h = none (record { place = place; kind = fault.AnyPayload }) (λ e. absurd (cc)) h
json_unwritten d c o place fault.NoMemory h = tt

within : (n m : ℕ) → nat_le n m ≡ true → n ≤ m
within n m h = leb-true n m h

both_true : (a b : Bool) → (a && b) ≡ true → (a ≡ true) × (b ≡ true)
both_true true b h = (refl, h)
both_true false b h = absurd (cc)

-- a message that fits nests few levels, and its payloads are read again
few_levels : (shape : Shape) (t : ℕ) (c : Content) → fits shape t c ≡ true → depth c ≤ 100
few_levels shape t c h = within (depth c) 100 (both_true (nat_le (depth c) 100) (payloads_fit shape t c) h).0

payloads_read : (shape : Shape) (t : ℕ) (c : Content) → fits shape t c ≡ true → payloads_fit shape t c ≡ true
payloads_read shape t c h = (both_true (nat_le (depth c) 100) (payloads_fit shape t c) h).1

-- what is written stands for the content, and decodes to it
pub transcodes : (d : Described DescriptorProto) (tree : Data) (c : Content) (o : SerializeOptions) (wire : List ℕ) (written : Data) → EncodingDecodes → WrittenStands
    → IsClear (shape_of d.pool) → HasTexts tree → Stands (shape_of d.pool) (place_of d) false tree c → IsSound (shape_of d.pool) (place_of d) c
    → fits (shape_of d.pool) (place_of d) c ≡ true → IsWritten d c o wire written → Transcodes (shape_of d.pool) (place_of d) tree o wire written
transcodes d tree c o wire written decodes again clear texts stands sound fit h =
    let short : length (encoded (shape_of d.pool) (place_of d) c) < 2 ^ 64 = (let S : List ℕ → Type 0 = λ w. length w < 2 ^ 64 in subst S h.0 h.1) in
    let decoded : Decodes (shape_of d.pool) (place_of d) wire c = (let P : List ℕ → Type 0 = λ w. Decodes (shape_of d.pool) (place_of d) w c in
    subst P (sym h.0) (decodes (shape_of d.pool) (place_of d) c clear.proper sound short (few_levels (shape_of d.pool) (place_of d) c fit))) in (
      c,
      stands,
      fit,
      decoded,
      h.0,
      h.2,
      again (shape_of d.pool) clear.proper clear.named clear.clear (place_of d) false tree written c o texts stands h.2,
    )

unwritten : (d : Described DescriptorProto) (tree : Data) (c : Content) (o : SerializeOptions) → ClearByAnyName → FittingIsWritten → IsClear (shape_of d.pool) → HasTexts tree
    → Stands (shape_of d.pool) (place_of d) false tree c → fits (shape_of d.pool) (place_of d) c ≡ true
    → canonical (shape_of d.pool) (place_of d) c o ≡ None → ⊥
unwritten d tree c o clears written clear texts stands fit h =
    let made =
    written (shape_of d.pool) (place_of d) false tree c o clear.proper clear.named (clears (shape_of d.pool) (naming_of o) clear.clear) texts stands
    (payloads_read (shape_of d.pool) (place_of d) c fit) in
    let bad : Some made.0 ≡ None = sym made.1 ∙ h in
    cc

-- a content that a tree stands for is written
pub not_told : (d : Described DescriptorProto) (tree : Data) (c : Content) (o : SerializeOptions) (error : TopError) → ClearByAnyName → FittingIsWritten → IsClear (shape_of d.pool) → HasTexts tree
    → Stands (shape_of d.pool) (place_of d) false tree c → fits (shape_of d.pool) (place_of d) c ≡ true
    → IsNotWritten (canonical (shape_of d.pool) (place_of d) c o) error → IsNotTold d tree error
not_told d tree c o (File error) clears written clear texts stands fit h = absurd (unwritten d tree c o clears written clear texts stands fit h)
not_told d tree c o (JsonNames message key) clears written clear texts stands fit h = absurd (unwritten d tree c o clears written clear texts stands fit h)
not_told d tree c o (WellKnownShape message) clears written clear texts stands fit h = absurd (unwritten d tree c o clears written clear texts stands fit h)
not_told d tree c o (TypeNotFound n) clears written clear texts stands fit h = absurd (unwritten d tree c o clears written clear texts stands fit h)
not_told d tree c o (Json e) clears written clear texts stands fit h = absurd (unwritten d tree c o clears written clear texts stands fit h)
not_told d tree c o TooDeep clears written clear texts stands fit h = absurd (unwritten d tree c o clears written clear texts stands fit h)
not_told d tree c o NoMemory clears written clear texts stands fit h = tt

module _ (d e : Described DescriptorProto) (tree : Data) (c : Content) (same : e ≡ d) (clear : IsClear (shape_of d.pool)) (texts : HasTexts tree)
    (stands : Stands (shape_of d.pool) (place_of d) false tree c) (o : SerializeOptions) where
  -- the same of a message of a type that is equal
  pub transcoded_as : (wire : List ℕ) (written : Data) → EncodingDecodes → WrittenStands → IsSound (shape_of e.pool) (place_of e) c
      → fits (shape_of e.pool) (place_of e) c ≡ true
      → IsWritten e c o wire written → Transcodes (shape_of d.pool) (place_of d) tree o wire written
  transcoded_as wire written decodes again sound fit h =
      let S : Described DescriptorProto → Type 0 = λ x. IsSound (shape_of x.pool) (place_of x) c in
      let W : Described DescriptorProto → Type 0 = λ x. IsWritten x c o wire written in
      let F : Described DescriptorProto → Type 0 = λ x. fits (shape_of x.pool) (place_of x) c ≡ true in
      transcodes d tree c o wire written decodes again clear texts stands (subst S same sound) (subst F same fit) (subst W same h)

  -- a message that does not fit is too deep, of either type
  pub too_deep_as : fits (shape_of e.pool) (place_of e) c ≡ false → IsTooDeep (shape_of d.pool) (place_of d) tree
  too_deep_as fit = (c, stands, subst (λ x. fits (shape_of x.pool) (place_of x) c ≡ false) same fit)

  pub not_told_as : (error : TopError) → ClearByAnyName → FittingIsWritten → fits (shape_of e.pool) (place_of e) c ≡ true
      → IsNotWritten (canonical (shape_of e.pool) (place_of e) c o) error → IsNotTold d tree error
  not_told_as error clears written fit h =
      let F : Described DescriptorProto → Type 0 = λ x. fits (shape_of x.pool) (place_of x) c ≡ true in
      let W : Described DescriptorProto → Type 0 = λ x. IsNotWritten (canonical (shape_of x.pool) (place_of x) c o) error in
      not_told d tree c o error clears written clear texts stands (subst F same fit) (subst W same h)

-- ---- the type

-- what is found among the messages of a pool is one of that pool
pub pool_is : PlaceHasType → (files : List FileDescriptorProto) (name : List ℕ) (d : Described DescriptorProto) → ArePooled [] files
    → message_of_name files name ≡ Some d → d.pool ≡ files
pool_is types files name d pooled found =
    let test : Described DescriptorProto → Bool = λ (m : Described DescriptorProto). bytes_eq (message_name m.part) name in
    let here = has_place test (all_messages files) d found in
    (types files here.0 d pooled (found_at test (all_messages files) here.0 here.1 ∙ found)).pool

-- ---- the pool

module _ (types : PlaceHasType) (files : List FileDescriptorProto) (name : List ℕ) (tree : Data) (d : Described DescriptorProto) (pooled : ArePooled [] files)
    (found : message_of_name files name ≡ Some d) where
  -- what holds of the shape of the type's pool holds of that of the files
  for_type : (P : Shape → ℕ → Type 0) → P (shape_of d.pool) (place_of d) → ForType name files P
  for_type P h =
      let Q : List FileDescriptorProto → Type 0 = λ fs. P (shape_of fs) (place_of d) in
      (d, found, subst Q (pool_is types files name d pooled found) h)

  pub clear_there : IsClear (shape_of files) → IsClear (shape_of d.pool)
  clear_there h = let Q : List FileDescriptorProto → Type 0 = λ fs. IsClear (shape_of fs) in subst Q (sym (pool_is types files name d pooled found)) h

  -- the tree is transcoded as a message of a type of the pool
  pub named : (o : SerializeOptions) (wire : List ℕ) (written : Data) → Transcodes (shape_of d.pool) (place_of d) tree o wire written → IsNamed files name tree o wire written
  named o wire written h = for_type (λ shape t. Transcodes shape t tree o wire written) h

  -- or it is not
  pub not_named : (error : TopError) → IsNotTold d tree error → IsNotNamed files name tree error
  not_named (File error) h = absurd h
  not_named (JsonNames message key) h = absurd h
  not_named (WellKnownShape message) h = absurd h
  not_named (TypeNotFound n) h = absurd h
  not_named (Json e) h = for_type (λ shape t. IsUnread shape t tree e) h
  not_named TooDeep h = for_type (λ shape t. IsTooDeep shape t tree) h
  not_named NoMemory h = tt

-- what is told of the names of messages
pub not_clear : (name : List ℕ) (tree : Data) (files : List FileDescriptorProto) (error : TopError) → AreDecodable files → IsNotClear files error
    → IsRefused name tree files error
not_clear name tree files (File error) fit h = absurd h
not_clear name tree files (JsonNames message key) fit h = (fit, h)
not_clear name tree files (WellKnownShape message) fit h = (fit, h)
not_clear name tree files (TypeNotFound n) fit h = absurd h
not_clear name tree files (Json e) fit h = absurd h
not_clear name tree files TooDeep fit h = absurd h
not_clear name tree files NoMemory fit h = tt

-- what is told of the type's name and of the tree
pub not_transcoded : (name : List ℕ) (tree : Data) (files : List FileDescriptorProto) (error : TopError) → AreDecodable files → HaveClearNames files
    → IsNotNamed files name tree error → IsRefused name tree files error
not_transcoded name tree files (File error) fit clear h = absurd h
not_transcoded name tree files (JsonNames message key) fit clear h = absurd h
not_transcoded name tree files (WellKnownShape message) fit clear h = absurd h
not_transcoded name tree files (TypeNotFound n) fit clear h = (fit, clear, h.0, h.1)
not_transcoded name tree files (Json e) fit clear h = (fit, clear, h)
not_transcoded name tree files TooDeep fit clear h = (fit, clear, h)
not_transcoded name tree files NoMemory fit clear h = tt

-- what is told of the set
pub no_set : (name : List ℕ) (tree : Data) (files : List FileDescriptorProto) (error : TopError) → IsNoSet files error → IsRefused name tree files error
no_set name tree files (File error) h = h
no_set name tree files (JsonNames message key) h = absurd h
no_set name tree files (WellKnownShape message) h = absurd h
no_set name tree files (TypeNotFound n) h = absurd h
no_set name tree files (Json e) h = absurd h
no_set name tree files TooDeep h = absurd h
no_set name tree files NoMemory h = tt
