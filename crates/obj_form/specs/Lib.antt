pub mod Objects
pub mod Grammar
