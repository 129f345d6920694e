pub mod Quiet
pub mod EachAct
pub mod EachCall
pub mod Tables
pub mod Brought
pub mod Steps
pub mod Runs
pub mod Examples
