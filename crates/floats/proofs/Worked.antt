-- Worked floats: 0, 1/1024, -1/1024, 1, 1.5 and the two ends of the range. Assumes nothing.
use mathlib.Core.Path.{◌≡◌, refl}
use lib.IntN.{pos, negsuc}
use Rattle.floats.specs.Floats.{exponent, size_bits, float_bits}

none : float_bits (pos 0) ≡ 0
unfolding float_bits size_bits exponent
none = refl

unit : float_bits (pos 1) ≡ 0x3A80_0000
unfolding float_bits size_bits exponent
unit = refl

minus_unit : float_bits (negsuc 0) ≡ 0xBA80_0000
unfolding float_bits size_bits exponent
minus_unit = refl

one : float_bits (pos 1024) ≡ 0x3F80_0000
unfolding float_bits size_bits exponent
one = refl

one_and_a_half : float_bits (pos 1536) ≡ 0x3FC0_0000
unfolding float_bits size_bits exponent
one_and_a_half = refl

highest : float_bits (pos 1048576) ≡ 0x4480_0000
unfolding float_bits size_bits exponent
highest = refl

lowest : float_bits (negsuc 1048575) ≡ 0xC480_0000
unfolding float_bits size_bits exponent
lowest = refl
