pub mod Worked
pub mod Apart
pub mod Asked
