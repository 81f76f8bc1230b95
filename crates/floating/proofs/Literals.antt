-- The numbers that the code writes as literals. Assumes nothing.
use mathlib.Core.Path.{◌≡◌, refl}
use lib.IntN.{pos, negsuc}
use lib.Ieee.{binary64, of_bits}
use Rattle.floating.specs.Limits.{power}
use Rattle.floating.specs.Near.{nought}

pub nought_is : of_bits binary64 0 ≡ nought
unfolding of_bits
nought_is = refl

pub one_is : of_bits binary64 0x3ff0_0000_0000_0000 ≡ power (pos 0)
unfolding of_bits
one_is = refl

pub two_is : of_bits binary64 0x4000_0000_0000_0000 ≡ power (pos 1)
unfolding of_bits
two_is = refl

-- 2^-30, 2^60 and 2^53
pub least_is : of_bits binary64 0x3e10_0000_0000_0000 ≡ power (negsuc 29)
unfolding of_bits
least_is = refl

pub most_is : of_bits binary64 0x43b0_0000_0000_0000 ≡ power (pos 60)
unfolding of_bits
most_is = refl

pub edge_is : of_bits binary64 0x4340_0000_0000_0000 ≡ power (pos 53)
unfolding of_bits
edge_is = refl
