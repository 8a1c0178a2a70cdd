-- What contracts cite.
-- A line as the program holds it
pub mod Lines
-- A value and its mark
pub mod Entries
