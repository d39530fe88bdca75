-- What reading a line promises, and what its inner functions promise.
pub mod Promises
pub mod Inside
