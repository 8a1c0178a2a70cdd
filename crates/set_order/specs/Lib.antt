-- What contracts cite.
pub mod Answered
