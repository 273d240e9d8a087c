pub mod DirectLemmas
pub mod FirstsLemmas
pub mod OpenedLemmas
pub mod RoomLemmas
pub mod XorLemmas
pub mod NearLemmas
