-- What the crate's code answers, in the numbers of code: the reader and the cursor over columns.
pub mod Reading
pub mod Cursor
pub mod Walk
