-- What is said of a guess.
pub mod Guesses
