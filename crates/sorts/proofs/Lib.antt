-- What the proofs of both sorts use.
mod Sorted
