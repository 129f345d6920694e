pub mod NumeralLemmas
pub mod CopyKeyLemmas
