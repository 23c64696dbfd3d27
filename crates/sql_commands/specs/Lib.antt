pub mod Answering
pub mod Failing
pub mod Executing
pub mod Loading
pub mod Moving
pub mod Placing
