-- What the library gives back, as the paper's numbers, and its version.
pub mod Numbers
pub mod Version
