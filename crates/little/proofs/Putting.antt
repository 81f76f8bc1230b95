-- The bytes of a number as std gives them are those of the rules. Assumes nothing.
use Rattle.std.proofs.Common.{◌≡◌, ℕ, ◌/◌, ◌%◌, bit_and, arith}
use Rattle.std.proofs.lemmas.Nat.{and_mask}
use Rattle.std.specs.Int.{to_le_bytes, w16, w32, w64}
use Rattle.little.specs.Little.{half_bytes, word_bytes, long_bytes}

module _ (x : ℕ) where
  -- its two lowest bytes, which a mask takes
  pub to_le_bytes-half : to_le_bytes w16 (bit_and x 65535) ≡ half_bytes x
  unfolding half_bytes
  to_le_bytes-half =
      let m : bit_and x 65535 ≡ x % 65536 = and_mask x 16 in
      let a : x % 65536 % 256 ≡ x % 256 = omega arith in
      let b : x % 65536 / 256 % 256 ≡ x / 256 % 256 = omega arith in
      rw m (cc)

  pub to_le_bytes-word : to_le_bytes w32 x ≡ word_bytes x
  unfolding word_bytes half_bytes
  to_le_bytes-word =
      let a : x / 16777216 % 256 ≡ x / 65536 / 256 % 256 = omega arith in
      cc

  pub to_le_bytes-long : to_le_bytes w64 x ≡ long_bytes x
  unfolding long_bytes word_bytes half_bytes
  to_le_bytes-long =
      let a : x / 16777216 % 256 ≡ x / 65536 / 256 % 256 = omega arith in
      let b : x / 1099511627776 % 256 ≡ x / 4294967296 / 256 % 256 = omega arith in
      let d : x / 281474976710656 % 256 ≡ x / 4294967296 / 65536 % 256 = omega arith in
      let e : x / 72057594037927936 % 256 ≡ x / 4294967296 / 65536 / 256 % 256 = omega arith in
      cc
