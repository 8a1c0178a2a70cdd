-- What contracts cite.
pub mod Parting
