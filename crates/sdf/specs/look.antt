-- What the contracts cite.
pub mod Reads
