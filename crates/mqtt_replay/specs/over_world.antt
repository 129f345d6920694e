-- What a script comes to in a world that runs, and the text of it.
pub mod Causes
pub mod Plays
pub mod Texts
