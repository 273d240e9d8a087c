pub mod Words
pub mod Command
pub mod Grammar
pub mod Lines
pub mod Read
