pub mod Lines
pub mod Replies
pub mod Numbers
pub mod Internal
