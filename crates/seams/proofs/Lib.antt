pub mod Counted
pub mod Numbers
pub mod Seaming
pub mod Turns
pub mod DrawnEdges
pub mod DrawnVertices
pub mod Drawn
