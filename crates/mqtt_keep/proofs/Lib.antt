pub mod contents_lemmas
pub mod lawful_lemmas
pub mod payloads_lemmas
pub mod by_name_lemmas
