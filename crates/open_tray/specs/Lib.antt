-- A tray kept open, what its four operations promise, and what the functions inside them promise each other.
pub mod Tray
pub mod Promises
pub mod Inside
