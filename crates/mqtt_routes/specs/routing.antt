pub mod Subscriptions
pub mod Intended
pub mod Acceptance
pub mod Retained
pub mod Keys
pub mod Spots
pub mod Found
