pub mod Small
pub mod Verdicts
pub mod Answers
pub mod Files
