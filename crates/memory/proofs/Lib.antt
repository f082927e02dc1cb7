pub mod Rowing
pub mod Changes
pub mod Fields
pub mod Helds
pub mod Clears
pub mod Sizes
pub mod Walks
pub mod Listing
