pub mod Sets
pub mod Phases
pub mod Moves
pub mod Lines
