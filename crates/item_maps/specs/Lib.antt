pub mod Steps
pub mod StepLaws
pub mod Walks
pub mod Relation
pub mod Passes
