-- The laws of the marks at the starts, and of the tables that hold their power sums.
pub mod Marks
pub mod Tables
