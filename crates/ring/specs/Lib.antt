-- Rings and their starts, the recording of a line, the false starts of an undamaged ring, what listing and reading a ring promise, and what the inner functions promise.
pub mod Ring
pub mod Recording
pub mod FalseStarts
pub mod Promises
pub mod Inside
pub mod Marks
pub mod Filter
