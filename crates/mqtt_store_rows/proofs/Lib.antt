pub mod values_lemmas
pub mod rows_lemmas
pub mod gathering_lemmas
pub mod taking_over_lemmas
