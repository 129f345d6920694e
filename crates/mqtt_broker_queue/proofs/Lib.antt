pub mod queues_lemmas
pub mod publications_lemmas
pub mod subscribers_lemmas
