-- The numbers that the code writes as literals. Assumes nothing.
use Rattle.std.proofs.Common.{◌≡◌, pos, refl}
use lib.Ieee.{binary64, of_bits}
use Rattle.floating.specs.Limits.{power}
use Rattle.smoothed.specs.Positions.{three_eighths, five_eighths, half}

pub four_is : of_bits binary64 0x4010_0000_0000_0000 ≡ power (pos 2)
unfolding of_bits
four_is = refl

pub eight_is : of_bits binary64 0x4020_0000_0000_0000 ≡ power (pos 3)
unfolding of_bits
eight_is = refl

pub three_eighths_is : of_bits binary64 0x3fd8_0000_0000_0000 ≡ three_eighths
unfolding of_bits
three_eighths_is = refl

pub five_eighths_is : of_bits binary64 0x3fe4_0000_0000_0000 ≡ five_eighths
unfolding of_bits
five_eighths_is = refl

pub half_is : of_bits binary64 0x3fe0_0000_0000_0000 ≡ half
unfolding of_bits
half_is = refl
