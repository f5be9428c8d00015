-- The doubles that document 01 names, and its operations on doubles: each is rounded.
use Rattle.std.specs.Prelude.{from_bits, Float}
use Rattle.std.specs.Float.{binary64}
use Rattle.std.specs.Float.Ieee.{add, sub, mul, div}

-- as the program writes them: +0, 1/4, 1/2, 1, 2
abbrev pub zero : Float
zero = from_bits binary64 0

abbrev pub quarter : Float
quarter = from_bits binary64 0x3fd0000000000000

abbrev pub half : Float
half = from_bits binary64 0x3fe0000000000000

abbrev pub one : Float
one = from_bits binary64 0x3ff0000000000000

abbrev pub two : Float
two = from_bits binary64 0x4000000000000000

infixl 30 ◌⊕◌ ◌⊖◌
infixl 40 ◌⊗◌ ◌⊘◌
abbrev pub ◌⊕◌ : Float → Float → Float
x ⊕ y = add binary64 x y

abbrev pub ◌⊖◌ : Float → Float → Float
x ⊖ y = sub binary64 x y

abbrev pub ◌⊗◌ : Float → Float → Float
x ⊗ y = mul binary64 x y

abbrev pub ◌⊘◌ : Float → Float → Float
x ⊘ y = div binary64 x y
