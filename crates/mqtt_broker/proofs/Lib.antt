pub mod alike_lemmas
pub mod reopening_lemmas
pub mod stored_lemmas
pub mod engine_lemmas
