pub mod Files
pub mod Graphs
pub mod Rules
pub mod Shapes
pub mod Verdicts
