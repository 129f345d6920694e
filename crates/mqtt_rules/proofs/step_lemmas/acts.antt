-- The induction over all acts and deeds, and what is looked up in a state.
pub mod Acts
pub mod ByDeeds
pub mod Goods
pub mod Leads
pub mod LookedUp
pub mod Meanings
pub mod Names
pub mod Offers
pub mod OnLines
pub mod Reached
