pub mod LoadLemmas
pub mod KindLemmas
pub mod LabelLemmas
pub mod RemoveLemmas
