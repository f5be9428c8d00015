pub mod Worst
pub mod Certificates
pub mod RowLoop
pub mod Verdicts
pub mod Admitted
