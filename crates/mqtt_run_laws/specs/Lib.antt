pub mod retained
pub mod wills
