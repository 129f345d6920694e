pub mod sent
pub mod at_hand
pub mod decided
