mod Cutting
mod Arriving
mod Counting
mod Posting
mod Resting
mod Naming
