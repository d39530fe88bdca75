-- Words and lines, one wrong character, what the crate's entry point promises, and what its inner functions promise.
pub mod Word
pub mod Wrong
pub mod Promises
pub mod Inside
