pub mod Options
pub mod Subscriptions
pub mod SubscriptionViews
pub mod Subscribe
pub mod Filters
pub mod Unsubscribe
