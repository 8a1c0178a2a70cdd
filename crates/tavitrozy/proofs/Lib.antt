-- Numbers that no call of the library replies.
mod Numbers
mod SetsNumbers
