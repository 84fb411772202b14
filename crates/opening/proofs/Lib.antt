-- Laws of opening.
pub mod FreshTable
pub mod Opening
pub mod OpenRows
