-- Laws that belong to no one function.
pub mod Promotion
pub mod Expansion
pub mod Templates
mod ClipTimes
