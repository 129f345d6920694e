pub mod playing_lemmas
pub mod over_world_lemmas
