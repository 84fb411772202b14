-- Laws of entering a return: the adding of published entries, and the call.
pub mod AddedWords
pub mod PublishedEntries
pub mod PublishedSums
pub mod AddedColumns
pub mod Entering
