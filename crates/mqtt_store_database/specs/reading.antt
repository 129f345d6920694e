pub mod Listing
pub mod Kept
pub mod Refusals
pub mod Opening
