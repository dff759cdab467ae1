pub mod Growth
pub mod Progress
pub mod TimersKept
pub mod TimerCalls
