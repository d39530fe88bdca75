-- Two scans of one line: which is kept, and what choosing promises.
pub mod Scans
pub mod Promises
