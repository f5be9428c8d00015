pub mod SignAndSize
