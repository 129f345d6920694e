pub mod LevelLemmas
pub mod FilterLemmas
pub mod MatchLemmas
pub mod AliasLemmas
pub mod FilterWords
pub mod Examples
