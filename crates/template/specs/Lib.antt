-- What the contracts on a template acceptance cite.
pub mod Expanding
