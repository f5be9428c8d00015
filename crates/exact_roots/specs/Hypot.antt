-- Hypot. 01: "an infinite part gives plus infinity; else a NaN part gives NaN; else nearest to the root of x² + y²."
use Rattle.std.specs.Prelude.{◌+◌, ◌*◌, ◌≡◌, false, T, Float}
use Rattle.std.specs.Float.{nan, inf, fin, Format}
use Rattle.std.specs.Float.Ieee.Scale.{finite}
use Rattle.number.specs.Units.{units_of}
use Rattle.nearness.specs.Nearness.{Size, root_of, Nearest, OnlyNearest}
use Rattle.exact_roots.specs.Root.{root_nearest}

unfoldable pub hypot_of : Format → Float → Float → Float
hypot_of f (inf s) y = inf false
hypot_of f nan (inf t) = inf false
hypot_of f (fin s m e) (inf t) = inf false
hypot_of f nan nan = nan
hypot_of f nan (fin t n d) = nan
hypot_of f (fin s m e) nan = nan
hypot_of f (fin s m e) (fin t n d) =
    let x = units_of f (fin s m e) in
    let y = units_of f (fin t n d) in
    root_nearest f (x * x + y * y)

-- the exact root of x² + y², of finite values
abbrev pub exact_length : Format → Float → Float → Size
exact_length f x y = root_of (units_of f x * units_of f x + units_of f y * units_of f y)

-- "nearest to the root of x² + y²": of finite x and y, r is the value of f nearest to it
abbrev pub HypotNearest : Format → Float → Float → Float → Type 0
HypotNearest f x y r = T (finite x) → T (finite y) → Nearest f false (exact_length f x y) r

-- r is hypot of x and y, and where 01 says "nearest" no other value is
pub record Spanned (f : Format) (x y r : Float) : Type 0 where
  pub is : r ≡ hypot_of f x y
  pub nearest : HypotNearest f x y r
  pub only : T (finite x) → T (finite y) → OnlyNearest f false (exact_length f x y) r
