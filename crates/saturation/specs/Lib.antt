pub mod Reasons
pub mod Work
pub mod AtHand
pub mod Start
pub mod Complete
pub mod Finished
pub mod Refusals
