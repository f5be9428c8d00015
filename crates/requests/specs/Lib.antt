pub mod FromPatterns
