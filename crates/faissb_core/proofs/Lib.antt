pub mod LanguageLemmas
pub mod ReplyLemmas
pub mod SessionLemmas
pub mod RunLemmas
pub mod SampleLemmas
mod Worked
pub mod WorkedBytes
mod WorkedFiles
mod WorkedFaults
