pub mod laws
pub mod theorems
