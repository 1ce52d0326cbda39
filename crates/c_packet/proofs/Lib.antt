pub mod Sizes
pub mod Calls
pub mod ClientCalls
pub mod ServerCalls
