pub mod names_lemmas
pub mod sending_lemmas
