-- What no one function's proof has alone.
pub mod Examined
