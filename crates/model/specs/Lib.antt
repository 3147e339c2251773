pub mod Phases
pub mod Moves
pub mod Watch
pub mod Grades
pub mod Laws
