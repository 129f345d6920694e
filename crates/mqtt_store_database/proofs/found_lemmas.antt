pub mod Lines
pub mod Same
pub mod Messages
pub mod Bare
pub mod Alike
pub mod Found
pub mod Kept
pub mod both
