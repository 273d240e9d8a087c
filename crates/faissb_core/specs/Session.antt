pub mod Followed
pub mod Results
pub mod Applied
pub mod Room
pub mod Shards
