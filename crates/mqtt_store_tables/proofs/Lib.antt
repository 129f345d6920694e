pub mod forms_lemmas
pub mod schema_lemmas
pub mod statements_lemmas
pub mod messages_lemmas
pub mod together_lemmas
