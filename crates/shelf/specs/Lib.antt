-- Read Calls for what the two calls promise, then Grid for the moving of bytes.
pub mod Calls
pub mod Grid
