-- What each UPDATE leaves.
pub mod SetAny
pub mod SetNumber
