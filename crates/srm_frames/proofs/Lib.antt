mod Tables
mod Linear
mod Chunks
mod ChecksumBounds
pub mod Elements
mod Framing
mod FrameLaws
mod MessageLaws
mod LineLaws
mod BeginningLaws
mod RecordLaws
