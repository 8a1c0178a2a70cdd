-- Tracks of step functions on the keys of doubles.
pub mod Track
pub mod Laws
-- A function that is left once: bisection, and the walk from stop to stop to the next change
pub mod Steps
pub mod Figures
