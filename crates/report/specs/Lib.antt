-- The tray file and its report: what each item's line says, the grammar of the file, the printed text, and the promise.
pub mod Items
pub mod Tray
pub mod Printed
pub mod Promises
pub mod Inside
