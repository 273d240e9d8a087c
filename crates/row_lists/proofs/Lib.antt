pub mod RoomLemmas
pub mod PutLemmas
pub mod WeaveLemmas
pub mod SpanLemmas
