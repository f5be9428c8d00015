-- The square root, as crate exact_roots defines it.
unfoldable pub use Rattle.exact_roots.specs.Root.{root_in, isqrt, stick_root, root_nearest, sqrt_of}
pub use Rattle.exact_roots.specs.Root.{exact_root, SqrtNearest, Rooted}
