pub mod Columns
pub mod Playing
pub mod Comparing
