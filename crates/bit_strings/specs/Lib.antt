pub mod Packed
pub mod States
