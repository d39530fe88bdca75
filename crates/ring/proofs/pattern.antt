-- The laws of what the marks of a start add to a pattern of errors.
pub mod Gains
