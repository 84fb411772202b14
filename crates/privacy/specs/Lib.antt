-- Document 02, what a curious server learns: how choices of the random elements are counted, what the servers but one see of a return,
-- the claim, what ties it to whole runs, and counts that compute.
pub mod Choices
pub mod Sight
pub mod Hidden
pub mod InPool
pub mod Examples
