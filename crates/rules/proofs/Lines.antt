-- The line that best fits y on x: differences as signed numbers; D is the spread of x; the three numbers solve equation 1, and how
-- large they are.
pub mod Differences
pub mod Spread
pub mod Bounds
pub mod Solution
pub mod Named
