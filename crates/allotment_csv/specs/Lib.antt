pub mod Rows
pub mod Files
pub mod Results
pub mod Fields
pub mod Reading
pub mod Fronts
pub mod WrongFields
pub mod Examples
