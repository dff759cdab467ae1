pub mod Outs
pub mod DueItems
pub mod Outbox
pub mod Examples
