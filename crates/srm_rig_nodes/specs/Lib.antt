pub mod StepClocks
pub mod Examples
