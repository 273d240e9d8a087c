pub mod Direct
pub mod Keys
pub mod Near
pub mod Room
pub mod Parts
