pub mod Refusals
pub mod Moving
pub mod Meaning
pub mod Answers
