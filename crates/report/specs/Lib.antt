pub mod Written
pub mod Marks
pub mod Tabled
pub mod Calls
