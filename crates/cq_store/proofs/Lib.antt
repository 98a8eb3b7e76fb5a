mod MeetingLaws
mod IndexLaws
pub mod TakingLaws
pub mod MadeLaws
