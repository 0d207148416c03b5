pub mod Words
pub mod Texts
pub mod Made
pub mod Statuses
pub mod Replies
pub mod Sources
pub mod Answers
pub mod Exact
