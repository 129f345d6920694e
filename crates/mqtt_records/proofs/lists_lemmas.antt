pub mod OrderLemmas
pub mod LookUps
pub mod KeyLemmas
pub mod DifferLemmas
pub mod FillLemmas
pub mod FrontLemmas
