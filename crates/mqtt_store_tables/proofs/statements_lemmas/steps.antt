-- Which rows stand after a statement.
pub mod Stands
