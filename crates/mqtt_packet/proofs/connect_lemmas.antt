pub mod FlagLemmas
pub mod ConnectLemmas
