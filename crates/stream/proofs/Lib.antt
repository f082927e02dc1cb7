pub mod Placed
pub mod Lasting
pub mod WholeRuns
pub mod Going
