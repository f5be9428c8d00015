-- The laws, in reading order.
pub mod Roots
pub mod RootLaw
pub mod NearRoots
pub mod SqrtCases
pub mod HypotCases
pub mod NearestRoot
pub mod Parted
pub mod Sqrts
pub mod Far
pub mod Lengths
