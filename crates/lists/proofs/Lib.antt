-- Laws that belong to no one function.
pub mod ClipTimes
pub mod Windows
pub mod Counted
pub mod Buckets
pub mod ByDigits
pub mod ByPlaces
pub mod Beside
pub mod Reversed
pub mod Fronts
pub mod Filled
