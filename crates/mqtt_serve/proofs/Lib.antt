pub mod turns_lemmas
pub mod gathered_lemmas
pub mod database_lemmas
pub mod serving_lemmas
