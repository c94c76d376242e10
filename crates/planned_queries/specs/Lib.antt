pub mod Lawful
pub mod ModeAnswers
pub mod ModesCounted
pub mod ModesPlanned
pub mod Planned
pub mod Stepping
