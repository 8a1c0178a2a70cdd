-- What contracts cite.
pub mod Asking
