-- Lemmas on views.
pub mod Added
pub mod Examples
pub mod Lines
pub mod OneView
pub mod ReadBack
pub mod RightVectors
pub mod Texts
