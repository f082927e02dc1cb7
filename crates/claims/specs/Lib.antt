-- The claims: what is proved of the rules and of the code, each with the file that proves it. The words of the statements stand in the
-- specs of crates/rules and crates/laws.
pub mod TableRules
pub mod Refusals
pub mod Wait
pub mod Idle
pub mod Ending
pub mod Names
pub mod Handed
pub mod Counts
pub mod Requests
pub mod Bytes
pub mod Batch
pub mod Dump
pub mod Faults
pub mod Lent
pub mod Batches
pub mod Board
pub mod Programs
