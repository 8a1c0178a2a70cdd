-- Which numbers are never replied.
pub mod Numbers
pub mod SetsNumbers
