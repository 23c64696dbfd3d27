pub mod Causes
pub mod Ends
pub mod Lines
pub mod FileCauses
pub mod Images
