-- A drain of a script, by one choice and turn by turn.
pub mod Done
pub mod Own
