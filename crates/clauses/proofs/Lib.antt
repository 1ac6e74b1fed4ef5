pub mod Broken
pub mod Marking
pub mod Apart
pub mod Explained
pub mod Numbers
pub mod Alike
