pub mod Text
pub mod Command
pub mod Order
pub mod Opening
