pub mod Halfedge
pub mod Internal
