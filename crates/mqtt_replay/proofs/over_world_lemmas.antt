-- Lemmas on worlds that run, and the text of a script there.
pub mod Caused
pub mod Refused
pub mod Texted
