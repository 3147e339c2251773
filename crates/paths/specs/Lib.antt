pub mod Cells
pub mod Layers
pub mod Runs
pub mod Answers
pub mod Outcomes
