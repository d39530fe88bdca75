-- The laws of a tray's bytes and of its sums, the ways out of the four operations, and what is proved of them.
pub mod Results
pub mod Theorems
pub mod Sums
pub mod Rooms
pub mod Ways
