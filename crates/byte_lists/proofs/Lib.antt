pub mod Encoding
pub mod Fronts
pub mod Tens
pub mod Replies
pub mod Eights
