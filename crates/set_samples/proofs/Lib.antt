-- Laws that belong to no one function.
mod Sums
mod Misshapen
mod Walk
mod Judged
