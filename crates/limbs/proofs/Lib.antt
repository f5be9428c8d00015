pub mod HalfWords
