-- Lemmas on what the lines of a script show.
pub mod Examples
pub mod Pieces
pub mod Shown
pub mod ToldExamples
