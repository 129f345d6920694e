pub mod Session
pub mod Records
pub mod Saying
pub mod Members
pub mod Contents
pub mod Telling
pub mod Slim
pub mod PassedOn
