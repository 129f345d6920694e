-- The rows of a step fit what is stored.
pub mod Coherent
pub mod FitLaw
pub mod FitRows
pub mod LawfulRecords
pub mod RowsFit
pub mod StandLaw
pub mod StoredLaw
pub mod TurnLists
pub mod Turns
pub mod Unique
