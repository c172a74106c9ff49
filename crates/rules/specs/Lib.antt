pub mod definitions
pub mod cases
pub mod statements
