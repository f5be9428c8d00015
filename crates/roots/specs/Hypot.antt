-- Hypot, as crate exact_roots defines it.
unfoldable pub use Rattle.exact_roots.specs.Hypot.{hypot_of}
pub use Rattle.exact_roots.specs.Hypot.{exact_length, HypotNearest, Spanned}
