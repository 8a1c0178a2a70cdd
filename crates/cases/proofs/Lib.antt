-- Laws that several proofs cite. Assumes nothing.
mod Digits
mod Dispatched
mod Rounded
mod Words
