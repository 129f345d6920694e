pub mod tree_lemmas
pub mod routing_lemmas
