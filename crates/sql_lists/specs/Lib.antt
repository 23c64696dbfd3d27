pub mod Listing
pub mod CellLists
pub mod JourneyLists
pub mod HolderLists
pub mod ListedRows
pub mod HoldingLists
