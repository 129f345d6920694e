pub mod Found
pub mod Quiets
pub mod Nonempty
pub mod Told
pub mod Ticked
