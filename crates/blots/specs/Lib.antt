-- What reading a line with blots promises, and what its inner functions promise.
pub mod Promises
pub mod Inside
