pub mod Held
pub mod Strategy
pub mod Countermodel
pub mod Exact
pub mod Published
pub mod FirstFault
pub mod Promise
