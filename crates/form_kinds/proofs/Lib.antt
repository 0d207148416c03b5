pub mod Digits
pub mod ForeignTexts
pub mod KindTests
pub mod Places
