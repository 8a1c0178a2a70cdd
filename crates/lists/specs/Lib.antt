-- What contracts cite.
pub mod Digits
pub mod Placed
pub mod Segments
