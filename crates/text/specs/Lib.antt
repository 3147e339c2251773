pub mod Phases
pub mod Numerals
pub mod Forms
pub mod Names
pub mod Reading
pub mod Meaning
pub mod Steps
pub mod Refusals
