-- Document 02, eight returns waiting: laws of the records of the returns that wait, and of the numbers of their places.
pub mod Records
pub mod Rearranged
pub mod Written
pub mod Said
