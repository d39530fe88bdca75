-- The field's definitions, its public promises, and what its inner operations promise.
pub mod Field
pub mod Promises
pub mod Inside
