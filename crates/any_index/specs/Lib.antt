pub mod Kinds
pub mod Held
pub mod Specs
pub mod Labels
pub mod About
