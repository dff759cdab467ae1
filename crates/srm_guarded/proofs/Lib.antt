mod Keeping
mod Keying
