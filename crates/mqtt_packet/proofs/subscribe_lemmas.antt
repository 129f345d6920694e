pub mod OptionLemmas
pub mod ItemLemmas
pub mod SubscriptionLemmas
pub mod FilterLemmas
pub mod SubscribeLemmas
pub mod UnsubscribeLemmas
