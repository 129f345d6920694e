pub mod OrderLemmas
pub mod TextLemmas
pub mod RunLemmas
pub mod FoundLemmas
pub mod NameLemmas
pub mod PlaceLemmas
