pub mod Samplings
