-- What contracts cite.
pub mod Promises
