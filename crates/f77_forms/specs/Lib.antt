pub mod Forms
pub mod HeadForms
pub mod Laws
pub mod TooDeep
