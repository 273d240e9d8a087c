pub mod Maps
pub mod Wide
pub mod Seen
pub mod Sharp
pub mod Inside
pub mod Room
pub mod Meet
pub mod Partly
