pub mod Ahead
pub mod Errors
pub mod Feeding
pub mod Fields
pub mod Format
pub mod Heads
pub mod Storing
