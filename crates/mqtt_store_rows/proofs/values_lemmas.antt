pub mod Texts
pub mod ListLemmas
pub mod PartLemmas
pub mod OneLemmas
pub mod LawfulLemmas
