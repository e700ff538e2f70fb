-- What is decoded behind nothing.
use Rattle.std.proofs.Common.{◌≡◌, ℕ, Bool, List, Option, Some, None, refl, sym, ap, ◌∙◌, subst, arith, inl, inr}
use Rattle.std.specs.Prelude.{◌⊎◌, option_and_then}
use Rattle.pbx_wire.specs.declared.rec.Rec.{Rec}
use Rattle.pbx_wire.specs.declared.error.DecodeError.{DecodeError}
use Rattle.pbx_wire.specs.declared.error.DecodeError.TheVariants as errors
use Rattle.pbx_wire.specs.Faults.{shifted}
use Rattle.pbx_content.specs.declared.shape.Shape.{Shape}
use Rattle.pbx_content.specs.declared.shape.FieldShape.{FieldShape}
use Rattle.pbx_content.specs.Content.{Content, empty}
use Rattle.pbx_content.specs.Records.{records_in}
use Rattle.pbx_content.specs.Shape.{fields_of}
use Rattle.pbx_content.specs.Meaning.{meaning, meaning_within, parts_meaning_of}
use Rattle.pbx_content.specs.Onto.{meaning_onto, merged_of}
use Rattle.pbx_content.specs.Faults.{MessageFaults, IsFaultOf, IsFaultOfParts, IsToldFault}
use Rattle.pbx_content.specs.Laws.{meaning_with, IsFirstWith}
use Rattle.pbx_content.proofs.OntoLaw.{onto_empty}
use Rattle.pbx_content.proofs.FaultyFirst.{first_is_with, first_is_merged}
use Rattle.pbx_content_codec.specs.Merging.{onto_with, IsToldAt}
use Rattle.pbx_content_codec.specs.Stability.{IsReady}
use Rattle.pbx_content_codec.proofs.Ready.{nothing_ready}

pub with_nothing : (shape : Shape) (groups messages : ℕ) (fs : List FieldShape) (bytes : List ℕ)
    → onto_with shape groups messages fs empty bytes ≡ meaning_with shape groups messages fs bytes
with_nothing shape groups messages fs bytes = at (records_in groups bytes)
  where
    at : (o : Option (List Rec)) → option_and_then (meaning_onto shape messages fs empty) o ≡ option_and_then (meaning shape messages fs) o
    at None = refl
    at (Some rs) = onto_empty shape messages fs rs

pub start_ready : (stable : Bool) (shape : Shape) (messages : ℕ) (fs : List FieldShape) (c : Content) → c ≡ empty → IsReady stable shape messages fs c
start_ready stable shape messages fs c e = subst (IsReady stable shape messages fs) (sym e) (nothing_ready stable shape messages fs)

pub with_start : (shape : Shape) (groups messages : ℕ) (fs : List FieldShape) (bytes : List ℕ) (c d : Content) → c ≡ empty
    → onto_with shape groups messages fs c bytes ≡ Some d
    → meaning_with shape groups messages fs bytes ≡ Some d
with_start shape groups messages fs bytes c d e h =
    sym (with_nothing shape groups messages fs bytes) ∙ ap (λ (x : Content). onto_with shape groups messages fs x bytes) (sym e) ∙ h

unshifted : (e : DecodeError) → shifted 0 e ≡ e
unshifted (errors.Varint at) = ap errors.Varint (omega arith)
unshifted (errors.Key at) = ap errors.Key (omega arith)
unshifted (errors.WireType at) = ap errors.WireType (omega arith)
unshifted (errors.Underflow at) = ap errors.Underflow (omega arith)
unshifted (errors.Utf8 at) = ap errors.Utf8 (omega arith)
unshifted (errors.EndGroup at) = ap errors.EndGroup (omega arith)
unshifted (errors.TooDeep at) = ap errors.TooDeep (omega arith)
unshifted errors.NoMemory = refl

pub told_whole : (shape : Shape) (groups messages : ℕ) (fs : List FieldShape) (bytes : List ℕ) (e : DecodeError) (at : ℕ) → at ≡ 0
    → IsToldAt at (IsFirstWith shape groups messages fs bytes) e → (e ≡ errors.NoMemory) ⊎ IsFirstWith shape groups messages fs bytes e
told_whole shape groups messages fs bytes e at start (inl none) = inl none
told_whole shape groups messages fs bytes e at start (inr (own, first, is)) =
    let same : own ≡ e = sym (is ∙ ap (λ (n : ℕ). shifted n own) start ∙ unshifted own) in
    inr (subst (IsFirstWith shape groups messages fs bytes) same first)

pub told_within : (shape : Shape) (levels : ℕ) (fs : List FieldShape) (bytes : List ℕ) (e : DecodeError)
    → (e ≡ errors.NoMemory) ⊎ IsFirstWith shape levels levels fs bytes e
    → IsToldFault (meaning_within shape levels fs bytes) (MessageFaults shape levels fs bytes) e
told_within shape levels fs bytes e (inl none) = inl none
told_within shape levels fs bytes e (inr first) = inr ((first_is_with shape levels fs bytes e).1 first)

pub told_parts : (shape : Shape) (t : ℕ) (bytes : List ℕ) (e : DecodeError) → (e ≡ errors.NoMemory) ⊎ IsFirstWith shape 100 101 (fields_of shape t) bytes e
    → IsToldFault (parts_meaning_of shape t bytes) (IsFaultOfParts shape t bytes) e
told_parts shape t bytes e h = h

pub told_merged : (shape : Shape) (t : ℕ) (old : Content) (bytes : List ℕ) (e : DecodeError)
    → (e ≡ errors.NoMemory) ⊎ IsFirstWith shape 100 100 (fields_of shape t) bytes e → IsToldFault (merged_of shape t old bytes) (IsFaultOf shape t bytes) e
told_merged shape t old bytes e (inl none) = inl none
told_merged shape t old bytes e (inr first) =
    inr ((first_is_merged shape t old bytes e).0 ((first_is_with shape 100 (fields_of shape t) bytes e).1 first))
