pub mod sent_lemmas
pub mod at_hand_lemmas
pub mod decided_lemmas
