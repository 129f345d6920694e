pub mod closing_lemmas
pub mod connecting_lemmas
pub mod clock_lemmas
pub mod subscribing_lemmas
pub mod calls_lemmas
