pub mod retained_lemmas
pub mod wills_lemmas
