-- Tables stay in order and within their limits.
pub mod Entered
pub mod OpenLists
pub mod Ordered
pub mod OrderedAccepted
pub mod OrderedActs
pub mod OrderedEnters
pub mod OrderedFull
pub mod OrderedLimits
pub mod OrderedQueues
pub mod OrderedRoom
pub mod OrderedSteps
