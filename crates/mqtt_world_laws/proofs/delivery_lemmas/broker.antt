-- What holds of the broker alone, whatever is asked of it.
pub mod Alone
pub mod Births
pub mod Greeted
pub mod Retained
pub mod Untouched
pub mod Unused
