pub mod Selects
pub mod Listings
pub mod Rising
pub mod Unique
pub mod Loaded
pub mod Probing
