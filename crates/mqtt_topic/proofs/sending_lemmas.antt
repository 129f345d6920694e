pub mod AgreeLemmas
pub mod FormLemmas
pub mod Examples
