pub mod Actions
pub mod Asking
pub mod Doing
pub mod Ends
pub mod Explaining
pub mod Listening
