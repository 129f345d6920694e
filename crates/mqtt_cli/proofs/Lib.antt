pub mod viewer_lemmas
pub mod command_lemmas
