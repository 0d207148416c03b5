pub mod DeepTexts
pub mod FormTables
pub mod HeadParts
pub mod OneStatement
