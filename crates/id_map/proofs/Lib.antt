pub mod RowLemmas
pub mod HitLemmas
pub mod SettingLemmas
pub mod RemoveLemmas
