-- What bytes begin with, the pieces that they come in, and who sends them.
pub mod Fronts
pub mod Pieces
pub mod Names
pub mod Places
pub mod Steps
