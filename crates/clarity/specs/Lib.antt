-- How clear a scan is, what is promised of it, what theorems and what inner functions speak of.
pub mod Scan
pub mod Promises
pub mod Alike
pub mod Inside
