pub mod Further
pub mod InsertFour
pub mod Pushed
