-- Messages stored by place: every run is brought back.
pub mod Shelf
