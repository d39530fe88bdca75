-- Reading sheets: what it promises, and what its inner functions do.
pub mod Promises
pub mod Unmarked
pub mod Inside
