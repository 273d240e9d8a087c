pub mod Kinds
pub mod Numerals
pub mod Printing
pub mod Reading
