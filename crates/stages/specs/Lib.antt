pub mod StepDemand
pub mod Committed
