pub mod SamePumps
pub mod WholeCopies
pub mod Decided
pub mod Offers
pub mod Untold
