-- What contracts cite.
pub mod Parts
pub mod Judged
pub mod Counted
pub mod look
