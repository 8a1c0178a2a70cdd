-- What the numbers of a reply stand for.
pub mod Changed
pub mod Codes
pub mod PlacedCodes
