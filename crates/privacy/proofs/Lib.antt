-- What is proved of a sight.
-- What antt counts at a small prime
pub mod Counts
-- Choices of the random elements: counted, and moved one to one
pub mod Counting
pub mod Moving
-- One of several terms: the others and the sum decide it
pub mod ButOne
-- A return that is made, and one of other values whose shares but one, and sums d and e, are the same
pub mod MadeReturns
pub mod SameShares
-- What a sight is; its messages as servers write them; two returns with the same sight
pub mod Sights
pub mod Written
pub mod SameSight
-- Entries and the values that they encode; the claim; the claim applied
pub mod Entries
pub mod Hiding
pub mod Examples
