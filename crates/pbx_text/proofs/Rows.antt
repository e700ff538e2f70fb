-- Worked rows: what texts say, and the texts that are written, as closed equations.
use Rattle.std.proofs.Common.{◌≡◌, pos, negsuc, [], ◌∷◌, Ok, Err, codes, refl}
use Rattle.base64.specs.Rfc4648.{encode_symbols}
use Rattle.pbx_text.specs.Decimal.{signed_read, unsigned_read}
use Rattle.pbx_text.specs.Base64.{base64_read, base64_of, base64_text}
use Rattle.pbx_text.specs.Mask.{mask_read, mask_of, mask_written, mask_text}
use Rattle.pbx_text.specs.declared.fault.TextFault.TheVariants.{Form, Range}

-- `+007` is 7, and a `-` is of no unsigned kind
row_signed : signed_read (pos 0) (pos 9) (codes "+007") ≡ Ok (pos 7)
row_signed = refl

row_minus_zero : signed_read (pos 0) (pos 9) (codes "-0") ≡ Ok (pos 0)
row_minus_zero = refl

row_unsigned : unsigned_read 9 (codes "-0") ≡ Err Form
row_unsigned = refl

row_range : signed_read (pos 0) (pos 9) (codes "10") ≡ Err Range
row_range = refl

row_sign_alone : signed_read (pos 0) (pos 9) (codes "+") ≡ Err Form
row_sign_alone = refl

row_two_signs : signed_read (pos 0) (pos 9) (codes "-+1") ≡ Err Form
row_two_signs = refl

row_least : signed_read (negsuc 127) (pos 127) (codes "-128") ≡ Ok (negsuc 127)
row_least = refl

row_below_least : signed_read (negsuc 127) (pos 127) (codes "-129") ≡ Err Range
row_below_least = refl

row_greatest : unsigned_read 18446744073709551615 (codes "+18446744073709551615") ≡ Ok 18446744073709551615
row_greatest = refl

row_past_greatest : unsigned_read 18446744073709551615 (codes "18446744073709551616") ≡ Err Range
row_past_greatest = refl

row_exponent : unsigned_read 999 (codes "1e2") ≡ Err Form
row_exponent = refl

row_fraction : signed_read (pos 0) (pos 9) (codes "1.0") ≡ Err Form
row_fraction = refl

row_far_and_no_number : unsigned_read 9 (codes "1000x") ≡ Err Form
row_far_and_no_number = refl

-- either alphabet, little or no padding, trailing bits ignored
row_url : base64_read (codes "-_8") ≡ Ok (251 ∷ 255 ∷ [])
unfolding base64_of
row_url = refl

row_one_pad : base64_read (codes "YQ=") ≡ Ok (97 ∷ [])
unfolding base64_of
row_one_pad = refl

row_trailing : base64_read (codes "YR==") ≡ Ok (97 ∷ [])
unfolding base64_of
row_trailing = refl

row_mixed : base64_read (codes "+-AA") ≡ Err Form
unfolding base64_of
row_mixed = refl

row_lone : base64_read (codes "A") ≡ Err Form
unfolding base64_of
row_lone = refl

row_padded_much : base64_read (codes "YWI==") ≡ Err Form
unfolding base64_of
row_padded_much = refl

row_pads_alone : base64_read (codes "=") ≡ Err Form
unfolding base64_of
row_pads_alone = refl

row_base64 : base64_text (251 ∷ 255 ∷ []) ≡ codes "+/8="
unfolding base64_text encode_symbols
row_base64 = refl

row_empty : base64_read [] ≡ Ok []
unfolding base64_of
row_empty = refl

row_padding_inside : base64_read (codes "YQ==YQ==") ≡ Err Form
unfolding base64_of
row_padding_inside = refl

row_unused_bits_of_three : base64_read (codes "Zm9=") ≡ Ok (codes "fo")
unfolding base64_of
row_unused_bits_of_three = refl

-- the vectors of RFC 4648, section 10
row_f : base64_text (codes "f") ≡ codes "Zg=="
unfolding base64_text encode_symbols
row_f = refl

row_foobar : base64_text (codes "foobar") ≡ codes "Zm9vYmFy"
unfolding base64_text encode_symbols
row_foobar = refl

-- masks
row_mask : mask_read (codes "fooBar,,a.bC") ≡ Ok (codes "foo_bar" ∷ codes "a.b_c" ∷ [])
unfolding mask_of
row_mask = refl

row_mask_written : mask_written (codes "foo_bar" ∷ codes "a.b_c" ∷ []) ≡ Ok (codes "fooBar,a.bC")
unfolding mask_text
row_mask_written = refl

row_mask_underscore : mask_read (codes "a_b") ≡ Err Form
unfolding mask_of
row_mask_underscore = refl

row_mask_trailing : mask_written (codes "foo_" ∷ []) ≡ Err Form
unfolding mask_text
row_mask_trailing = refl

row_mask_empty : mask_read [] ≡ Ok []
unfolding mask_of
row_mask_empty = refl

row_mask_empty_path : mask_written ([] ∷ []) ≡ Err Form
unfolding mask_text
row_mask_empty_path = refl

row_mask_dots : mask_written (codes "a..b" ∷ []) ≡ Ok (codes "a..b")
unfolding mask_text
row_mask_dots = refl
