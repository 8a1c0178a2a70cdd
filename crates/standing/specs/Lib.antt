-- The standing set as plain arrays, and what its questions promise.
pub mod Standing
pub mod Lists
