pub mod lists_lemmas
pub mod messages_lemmas
pub mod state_lemmas
