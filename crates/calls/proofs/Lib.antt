-- Laws of C calls: one that writes, any one, a list of them, what a list hands over, the line told, S lists, and that there are such
-- lists.
pub mod Writing
pub mod OneCall
pub mod ManyCalls
pub mod Handing
pub mod Lines
pub mod WholeCalls
pub mod Possible
