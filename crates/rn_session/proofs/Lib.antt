pub mod Digits
pub mod Numbers
pub mod Parts
pub mod Replied
pub mod Told
pub mod ThinTexts
pub mod OneFault
pub mod Exactly
