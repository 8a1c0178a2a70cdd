-- What the contracts on an explicit acceptance cite.
pub mod Parsing
