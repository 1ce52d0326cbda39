pub mod Form
pub mod Edit
pub mod Cases
pub mod Laws
