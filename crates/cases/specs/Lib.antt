-- What the program's functions promise. Assumes nothing.
pub mod Changes
pub mod Decimals
pub mod Doubles
pub mod Lending
pub mod Named
pub mod Numbers
pub mod Prepared
pub mod Sessions
pub mod Text
