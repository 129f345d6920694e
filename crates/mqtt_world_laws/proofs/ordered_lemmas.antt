-- From a publisher's line to the order of acceptances, and from there to the order of a ledger.
pub mod UnderWay
pub mod Answered
pub mod Sending
pub mod Calm
pub mod Standing
pub mod Named
pub mod Passing
pub mod OrderRuns
pub mod Rising
pub mod Ledgers
pub mod InOrder
pub mod Refusals
pub mod Examples
pub mod ReadExamples
