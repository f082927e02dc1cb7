pub mod Printing
pub mod Whole
pub mod Input
pub mod Listing
