-- What the code's types say in the words of the definitions.
pub mod Numbers
pub mod Tallies
pub mod States
pub mod Tables
pub mod Readings
pub mod Tokens
