-- Runs of operations on a tray kept open, and what the tray holds after them.
pub mod Runs
