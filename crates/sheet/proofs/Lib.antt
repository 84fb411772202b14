-- Laws of the reader and of the cursor.
pub mod Reader
pub mod SheetBytes
pub mod Cursors
pub mod Walks
pub mod Answers
