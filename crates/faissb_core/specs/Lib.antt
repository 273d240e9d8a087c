pub mod Language
pub mod Reply
pub mod Machine
pub mod Session
pub mod Runs
