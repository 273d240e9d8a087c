pub mod Answer
pub mod Refusals
pub mod Text
pub mod Sent
