pub mod RingLemmas
pub mod LawLemmas
